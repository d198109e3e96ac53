-- A trie with one node more.
use Rattle.std.proofs.Common.{◌≡◌, ℕ, suc, ◌<◌, ◌≤◌, Bool, true, false, ◌≢◌, ◌⊎◌, List, length, set, Some, None, Option, sym, refl, ap, ◌∙◌, subst, inl, inr, le_refl, lt_irrefl, arith, length-set, get_or-set_other, get_or-set_same}
use Rattle.std.proofs.lemmas.Bool.{cases_lt, cases_eq, cases_order, true≢false, false≢true}
use Rattle.trie.specs.declared.node.Node.{Node}
use Rattle.trie.specs.Nodes.{node_bit, link, slot_of, child, with_child, at, blank}
use Rattle.trie.specs.Trie.{Agree, Begins, Leads, Under, Beyond, Trie, Leaf}
use Rattle.trie.specs.Changes.{with_leaf, with_split}
use Rattle.trie.proofs.Nodes.{under_refl, under_trans, beyond_under, beyond_further}

-- the children of a node with one link changed
pub child_with : (b s : Bool) (n : Node) (c : Option ℕ) → ((b ≡ s) × (child b (with_child s n c) ≡ slot_of c)) ⊎ ((b ≢ s) × (child b (with_child s n c) ≡ child b n))
child_with true true n c = inl (refl, refl)
child_with true false n c = inr (true≢false, refl)
child_with false true n c = inr (false≢true, refl)
child_with false false n c = inl (refl, refl)

pub leaf_child : (b : Bool) (n : Node) → Leaf n → child b n ≡ 65535
leaf_child true n l = ap slot_of l.right
leaf_child false n l = ap slot_of l.left

-- a link to a slot in use, or none, is none to slot 65,535
pub sure_some : (u : ℕ) → u < 65535 → ◌≢◌ {A = Option ℕ} (Some u) (Some 65535)
sure_some u l e = lt_irrefl 65535 (let z : u ≡ 65535 = ap slot_of e in omega (arith, z, l))

pub sure_none : ◌≢◌ {A = Option ℕ} None (Some 65535)
sure_none e = let z : ◌≡◌ {A = ℕ} 1 0 = ap gone e in omega (arith, z)
  where
    gone : Option ℕ → ℕ
    gone None = 1
    gone (Some i) = 0

pub sure_with : (b s : Bool) (n : Node) (c : Option ℕ) → c ≢ Some 65535 → link b n ≢ Some 65535 → link b (with_child s n c) ≢ Some 65535
sure_with true true n c p q = p
sure_with true false n c p q = q
sure_with false true n c p q = q
sure_with false false n c p q = p

pub sure_leaf : (b : Bool) (n : Node) → Leaf n → link b n ≢ Some 65535
sure_leaf true n l e = sure_none (sym l.right ∙ e)
sure_leaf false n l e = sure_none (sym l.left ∙ e)

-- the slots after x was put into slot u, and y into slot i
module _ (ns : List Node) (u i : ℕ) (x y : Node) (iu : i < u) (ul : u < length ns) where
  unfoldable pub after : ℕ → Node
  after j = at (set (set ns u x) i y) j

  pub after_i : after i ≡ y
  unfolding after
  after_i = get_or-set_same (set ns u x) i y blank (rw length-set (omega arith))

  pub after_u : after u ≡ x
  unfolding after
  after_u = let ne : u ≢ i = omega arith in get_or-set_other (set ns u x) i u y blank ne ∙ get_or-set_same ns u x blank ul

  pub after_old : (j : ℕ) → j ≢ i → j ≢ u → after j ≡ at ns j
  unfolding after
  after_old j p q = get_or-set_other (set ns u x) i j y blank p ∙ get_or-set_other ns u j x blank q

  -- what holds of y in slot i, of x in slot u and of each other slot as it was, holds of each slot
  pub each : (P : ℕ → Node → Type 0) → P i y → P u x → ((j : ℕ) → j < u → j ≢ i → P j (at ns j)) → (j : ℕ) → j < suc u → P j (after j)
  each P a b c j h = elim (cases_eq j i) [
    | inl e ↦ subst (λ (k : ℕ). P k (after k)) (sym e) (subst (P i) (sym after_i) a)
    | inr ni ↦ (elim (cases_eq j u) [ inl e ↦ subst (λ (k : ℕ). P k (after k)) (sym e) (subst (P u) (sym after_u) b) | inr nu ↦ subst (P j) (sym (after_old j ni nu)) (c j (omega arith) ni) ])
  ]

  -- and so of a slot that was in use
  pub old : (R : Node → Type 0) (c : ℕ) → c < u → (c ≡ i → R y) → (c ≢ i → R (at ns c)) → R (after c)
  old R c h a b = elim (cases_eq c i) [
    | inl e ↦ subst (λ (k : ℕ). R (after k)) (sym e) (subst R (sym after_i) (a e))
    | inr ni ↦ (let nu : c ≢ u = omega arith in subst R (sym (after_old c ni nu)) (b ni))
  ]

module _ (ns : List Node) (u i : ℕ) (s : Bool) (x : Node) (iu : i < u) (ul : u < length ns) (few : u < 65535) (t : Trie (at ns) u) (leaf : Leaf x) (short : x.prefix.len ≤ 128) (free : child s (at ns i) ≡ 65535) (go : Beyond s (at ns i) x) where
  f : ℕ → Node
  f = at ns

  y : Node
  y = with_child s (at ns i) (Some u)

  g : ℕ → Node
  g = after ns u i x y iu ul

  at_each : (P : ℕ → Node → Type 0) → P i y → P u x → ((j : ℕ) → j < u → j ≢ i → P j (at ns j)) → (j : ℕ) → j < suc u → P j (g j)
  unfolding g
  at_each = each ns u i x y iu ul

  -- the prefix of a slot that was in use stays
  seen : (c : ℕ) → c < u → (R : ℕ → (ℕ → Bool) → Type 0) → R (at ns c).prefix.len (node_bit (at ns c)) → R (g c).prefix.len (node_bit (g c))
  unfolding g y
  seen c h R r = old ns u i x y iu ul (λ (n : Node). R n.prefix.len (node_bit n)) c h (λ e. subst (λ (k : ℕ). R (at ns k).prefix.len (node_bit (at ns k))) e r) (λ _. r)

  new : (R : ℕ → (ℕ → Bool) → Type 0) → R x.prefix.len (node_bit x) → R (g u).prefix.len (node_bit (g u))
  unfolding g
  new R r = subst (λ (n : Node). R n.prefix.len (node_bit n)) (sym (after_u ns u i x y iu ul)) r

  -- nothing was beneath slot i on the side s
  none : (k : ℕ) → k < u → Beyond s (at ns i) (at ns k) → ⊥
  none k h b = omega (arith, (t.full s i k iu h b).0, free, few)

  under_x : Under (at ns i) x
  under_x = beyond_under s (at ns i) x go

  -- nor where x is
  none_x : (k : ℕ) → k < u → Under x (at ns k) → ⊥
  none_x k h b = none k h (beyond_further s (at ns i) x (at ns k) go b)

  kids : (b : Bool) (j : ℕ) → j < suc u → child b (g j) ≢ 65535 → (child b (g j) < suc u) × Beyond b (g j) (g (child b (g j)))
  unfolding y
  kids b = at_each (λ (j : ℕ) (n : Node). child b n ≢ 65535 → (child b n < suc u) × Beyond b n (g (child b n)))
      (elim (child_with b s (at ns i) (Some u)) [
        | inl p ↦ subst (λ (c : ℕ). c ≢ 65535 → (c < suc u) × Beyond b (at ns i) (g c)) (sym p.1) (λ _. (le_refl _, new (λ m w. Leads b (at ns i).prefix.len (node_bit (at ns i)) m w) (subst (λ (z : Bool). Beyond z (at ns i) x) (sym p.0) go)))
        | inr p ↦ subst (λ (c : ℕ). c ≢ 65535 → (c < suc u) × Beyond b (at ns i) (g c)) (sym p.1) (stays i iu)
      ])
      (λ ne. absurd (ne (leaf_child b x leaf)))
      (λ j h ni. stays j h)
    where
      stays : (j : ℕ) → j < u → child b (at ns j) ≢ 65535 → (child b (at ns j) < suc u) × Beyond b (at ns j) (g (child b (at ns j)))
      stays j h ne =
          let k : (child b (at ns j) < u) × Beyond b (at ns j) (at ns (child b (at ns j))) = t.kid b j h ne in
          (omega (arith, k.0), seen (child b (at ns j)) k.0 (λ m w. Leads b (at ns j).prefix.len (node_bit (at ns j)) m w) k.1)

  fulls : (b : Bool) (j k : ℕ) → j < suc u → k < suc u → Beyond b (g j) (g k) → (child b (g j) < suc u) × Under (g (child b (g j))) (g k)
  unfolding y
  fulls b j k hj hk = at_each (λ (j : ℕ) (n : Node). (k : ℕ) → k < suc u → Beyond b n (g k) → (child b n < suc u) × Under (g (child b n)) (g k)) at_i at_u at_old j hj k hk
    where
      up : (j : ℕ) (m : Node) → (child b (at ns j) < u) × Under (at ns (child b (at ns j))) m → (child b (at ns j) < suc u) × Under (g (child b (at ns j))) m
      up j m r = (omega (arith, r.0), seen (child b (at ns j)) r.0 (λ n w. Begins n w m.prefix.len (node_bit m)) r.1)

      at_i : (k : ℕ) → k < suc u → Beyond b (with_child s (at ns i) (Some u)) (g k) → (child b (with_child s (at ns i) (Some u)) < suc u) × Under (g (child b (with_child s (at ns i) (Some u)))) (g k)
      at_i = elim (child_with b s (at ns i) (Some u)) [
        | inl p ↦ at_each (λ (k : ℕ) (m : Node). Beyond b (at ns i) m → (child b (with_child s (at ns i) (Some u)) < suc u) × Under (g (child b (with_child s (at ns i) (Some u)))) m)
            (λ r. absurd (native.Mathlib.Nat.lt_irrefl _ r.long))
            (λ r. subst (λ (c : ℕ). (c < suc u) × Under (g c) x) (sym p.1) (le_refl _, new (λ n w. Begins n w x.prefix.len (node_bit x)) (under_refl x)))
            (λ k h ni r. absurd (none k h (subst (λ (z : Bool). Beyond z (at ns i) (at ns k)) p.0 r)))
        | inr p ↦ at_each (λ (k : ℕ) (m : Node). Beyond b (at ns i) m → (child b (with_child s (at ns i) (Some u)) < suc u) × Under (g (child b (with_child s (at ns i) (Some u)))) m)
            (λ r. absurd (native.Mathlib.Nat.lt_irrefl _ r.long))
            (λ r. absurd (p.0 (sym r.side ∙ go.side)))
            (λ k h ni r. subst (λ (c : ℕ). (c < suc u) × Under (g c) (at ns k)) (sym p.1) (up i (at ns k) (t.full b i k iu h r)))
      ]

      at_u : (k : ℕ) → k < suc u → Beyond b x (g k) → (child b x < suc u) × Under (g (child b x)) (g k)
      at_u = at_each (λ (k : ℕ) (m : Node). Beyond b x m → (child b x < suc u) × Under (g (child b x)) m)
          (λ r. absurd (native.Mathlib.Nat.lt_irrefl _ (native.Mathlib.Nat.lt_trans r.long go.long)))
          (λ r. absurd (native.Mathlib.Nat.lt_irrefl _ r.long))
          (λ k h ni r. absurd (none_x k h (beyond_under b x (at ns k) r)))

      at_old : (j : ℕ) → j < u → j ≢ i → (k : ℕ) → k < suc u → Beyond b (at ns j) (g k) → (child b (at ns j) < suc u) × Under (g (child b (at ns j))) (g k)
      at_old j hj ni = at_each (λ (k : ℕ) (m : Node). Beyond b (at ns j) m → (child b (at ns j) < suc u) × Under (g (child b (at ns j))) m)
          (λ r. up j (at ns i) (t.full b j i hj iu r))
          (λ r. to_x r (cases_order (at ns j).prefix.len (at ns i).prefix.len))
          (λ k h nk r. up j (at ns k) (t.full b j k hj h r))
        where
          to_x : Beyond b (at ns j) x → ((at ns j).prefix.len ≡ (at ns i).prefix.len) ⊎ (((at ns j).prefix.len < (at ns i).prefix.len) ⊎ ((at ns i).prefix.len < (at ns j).prefix.len)) → (child b (at ns j) < suc u) × Under (g (child b (at ns j))) x
          to_x r (inl e) = absurd (ni (t.apart j i hj iu e (λ m h. r.same m h ∙ sym (go.same m (omega (arith, e, h))))))
          to_x r (inr (inl l)) =
              let q : Beyond b (at ns j) (at ns i) = record { long = l; same = λ m h. r.same m h ∙ sym (go.same m (omega arith)); side = go.same (at ns j).prefix.len l ∙ r.side } in
              let d : (child b (at ns j) < u) × Under (at ns (child b (at ns j))) (at ns i) = t.full b j i hj iu q in
              up j x (d.0, under_trans (at ns (child b (at ns j))) (at ns i) x d.1 under_x)
          to_x r (inr (inr l)) = absurd (none j hj (record { long = l; same = λ m h. go.same m h ∙ sym (r.same m (omega arith)); side = r.same (at ns i).prefix.len l ∙ go.side }))

  aparts : (j k : ℕ) → j < suc u → k < suc u → (g j).prefix.len ≡ (g k).prefix.len → Agree (g j).prefix.len (node_bit (g j)) (node_bit (g k)) → j ≡ k
  unfolding y
  aparts j k hj hk = at_each (λ (j : ℕ) (n : Node). (k : ℕ) → k < suc u → n.prefix.len ≡ (g k).prefix.len → Agree n.prefix.len (node_bit n) (node_bit (g k)) → j ≡ k)
      (at_each (λ (k : ℕ) (m : Node). (at ns i).prefix.len ≡ m.prefix.len → Agree (at ns i).prefix.len (node_bit (at ns i)) (node_bit m) → i ≡ k)
      (λ e a. refl) (λ e a. absurd (omega (arith, e, go.long))) (λ k h ni e a. t.apart i k iu h e a))
      (at_each (λ (k : ℕ) (m : Node). x.prefix.len ≡ m.prefix.len → Agree x.prefix.len (node_bit x) (node_bit m) → u ≡ k)
      (λ e a. absurd (omega (arith, e, go.long))) (λ e a. refl) (λ k h ni e a. absurd (none_x k h (record { long = omega arith; same = a }))))
      (λ j hj nj. at_each (λ (k : ℕ) (m : Node). (at ns j).prefix.len ≡ m.prefix.len → Agree (at ns j).prefix.len (node_bit (at ns j)) (node_bit m) → j ≡ k)
      (λ e a. t.apart j i hj iu e a)
      (λ e a. absurd (none_x j hj (record { long = omega arith; same = λ m h. sym (a m (omega arith)) })))
      (λ k h ni e a. t.apart j k hj h e a))
      j hj k hk

  pub linked_trie : Trie (at (with_leaf ns u i s x)) (suc u)
  unfolding g y after
  linked_trie = record {
    few = few;
    short = at_each (λ (j : ℕ) (n : Node). n.prefix.len ≤ 128) (t.short i iu) short (λ j h ni. t.short j h);
    top = at_each (λ (j : ℕ) (n : Node). Under (g 0) n)
        (root (at ns i) (t.top i iu)) (root x (under_trans (at ns 0) (at ns i) x (t.top i iu) under_x)) (λ j h ni. root (at ns j) (t.top j h));
    sure = λ b. at_each (λ (j : ℕ) (n : Node). link b n ≢ Some 65535) (sure_with b s (at ns i) (Some u) (sure_some u few) (t.sure b i iu)) (sure_leaf b x leaf) (λ j h ni. t.sure b j h);
    kid = kids;
    full = fulls;
    apart = aparts;
  }
    where
      root : (n : Node) → Under (at ns 0) n → Under (g 0) n
      root n r = seen 0 (omega arith) (λ m w. Begins m w n.prefix.len (node_bit n)) r

-- the node y above what slot i held
module _ (ns : List Node) (u i : ℕ) (s : Bool) (K : Node) (iu : i < u) (ul : u < length ns) (few : u < 65535) (t : Trie (at ns) u) (leaf : Leaf K) (short : K.prefix.len ≤ 128) (lower : Beyond s K (at ns i))
    (above : (j : ℕ) → j < u → (at ns j).prefix.len < (at ns i).prefix.len → Agree (at ns j).prefix.len (node_bit (at ns j)) (node_bit (at ns i)) → (at ns j).prefix.len < K.prefix.len)
    (below : (j : ℕ) → j < u → K.prefix.len ≤ (at ns j).prefix.len → Agree K.prefix.len (node_bit (at ns j)) (node_bit K) → Under (at ns i) (at ns j)) where
  yl : Node
  yl = with_child s K (Some u)

  gl : ℕ → Node
  gl = after ns u i (at ns i) yl iu ul

  l_each : (P : ℕ → Node → Type 0) → P i yl → P u (at ns i) → ((j : ℕ) → j < u → j ≢ i → P j (at ns j)) → (j : ℕ) → j < suc u → P j (gl j)
  unfolding gl
  l_each = each ns u i (at ns i) yl iu ul

  l_old : (R : ℕ → (ℕ → Bool) → Type 0) (c : ℕ) → c < u → (c ≡ i → R K.prefix.len (node_bit K)) → (c ≢ i → R (at ns c).prefix.len (node_bit (at ns c))) → R (gl c).prefix.len (node_bit (gl c))
  unfolding gl yl
  l_old R c h a b = old ns u i (at ns i) yl iu ul (λ (n : Node). R n.prefix.len (node_bit n)) c h a b

  l_new : (R : ℕ → (ℕ → Bool) → Type 0) → R (at ns i).prefix.len (node_bit (at ns i)) → R (gl u).prefix.len (node_bit (gl u))
  unfolding gl
  l_new R r = subst (λ (n : Node). R n.prefix.len (node_bit n)) (sym (after_u ns u i (at ns i) yl iu ul)) r

  under_K : Under K (at ns i)
  under_K = beyond_under s K (at ns i) lower

  -- what was above slot i is above K
  low : (b : Bool) (j : ℕ) → j < u → Beyond b (at ns j) (at ns i) → Beyond b (at ns j) K
  low b j h r =
      let l : (at ns j).prefix.len < K.prefix.len = above j h r.long r.same in
      record { long = l; same = λ m p. r.same m p ∙ sym (lower.same m (omega arith)); side = lower.same (at ns j).prefix.len l ∙ r.side }

  low_under : (c : ℕ) → c < u → c ≢ i → Under (at ns c) (at ns i) → Under (at ns c) K
  low_under c h ni r = elim (cases_lt (at ns c).prefix.len (at ns i).prefix.len) [
    | inl l ↦ (let q : (at ns c).prefix.len < K.prefix.len = above c h l r.same in record { long = omega arith; same = λ m p. r.same m p ∙ sym (lower.same m (omega arith)) })
    | inr l ↦ (let e : (at ns c).prefix.len ≡ (at ns i).prefix.len = omega (arith, r.long) in absurd (ni (t.apart c i h iu e r.same)))
  ]

  move : (a : Node) (c : ℕ) → c ≡ i → Under (at ns c) a → Under K a
  move a c e r = under_trans K (at ns i) a under_K (subst (λ (k : ℕ). Under (at ns k) a) e r)

  l_kids : (b : Bool) (j : ℕ) → j < suc u → child b (gl j) ≢ 65535 → (child b (gl j) < suc u) × Beyond b (gl j) (gl (child b (gl j)))
  unfolding yl
  l_kids b = l_each (λ (j : ℕ) (n : Node). child b n ≢ 65535 → (child b n < suc u) × Beyond b n (gl (child b n)))
      (elim (child_with b s K (Some u)) [
        | inl p ↦ subst (λ (c : ℕ). c ≢ 65535 → (c < suc u) × Beyond b K (gl c)) (sym p.1) (λ _. (le_refl _, l_new (λ m w. Leads b K.prefix.len (node_bit K) m w) (subst (λ (z : Bool). Beyond z K (at ns i)) (sym p.0) lower)))
        | inr p ↦ (λ ne. absurd (ne (p.1 ∙ leaf_child b K leaf)))
      ])
      (stays i iu)
      (λ j h ni. stays j h)
    where
      stays : (j : ℕ) → j < u → child b (at ns j) ≢ 65535 → (child b (at ns j) < suc u) × Beyond b (at ns j) (gl (child b (at ns j)))
      stays j h ne =
          let k : (child b (at ns j) < u) × Beyond b (at ns j) (at ns (child b (at ns j))) = t.kid b j h ne in
          (omega (arith, k.0), l_old (λ m w. Leads b (at ns j).prefix.len (node_bit (at ns j)) m w) (child b (at ns j)) k.0 (λ e. low b j h (subst (λ (c : ℕ). Beyond b (at ns j) (at ns c)) e k.1)) (λ _. k.1))

  l_fulls : (b : Bool) (j k : ℕ) → j < suc u → k < suc u → Beyond b (gl j) (gl k) → (child b (gl j) < suc u) × Under (gl (child b (gl j))) (gl k)
  unfolding yl
  l_fulls b j k hj hk = l_each (λ (j : ℕ) (n : Node). (k : ℕ) → k < suc u → Beyond b n (gl k) → (child b n < suc u) × Under (gl (child b n)) (gl k)) at_i at_u at_old j hj k hk
    where
      up : (j : ℕ) (m : Node) → (child b (at ns j) < u) × Under (at ns (child b (at ns j))) m → (child b (at ns j) < suc u) × Under (gl (child b (at ns j))) m
      up j m r = (omega (arith, r.0), l_old (λ n w. Begins n w m.prefix.len (node_bit m)) (child b (at ns j)) r.0 (λ e. move m (child b (at ns j)) e r.1) (λ _. r.1))

      at_i : (k : ℕ) → k < suc u → Beyond b K (gl k) → (child b (with_child s K (Some u)) < suc u) × Under (gl (child b (with_child s K (Some u)))) (gl k)
      at_i = elim (child_with b s K (Some u)) [
        | inl p ↦ l_each (λ (k : ℕ) (m : Node). Beyond b K m → (child b (with_child s K (Some u)) < suc u) × Under (gl (child b (with_child s K (Some u)))) m)
            (λ r. absurd (native.Mathlib.Nat.lt_irrefl _ r.long))
            (λ r. subst (λ (c : ℕ). (c < suc u) × Under (gl c) (at ns i)) (sym p.1) (le_refl _, l_new (λ n w. Begins n w (at ns i).prefix.len (node_bit (at ns i))) (under_refl (at ns i))))
            (λ k h ni r. subst (λ (c : ℕ). (c < suc u) × Under (gl c) (at ns k)) (sym p.1) (le_refl _, l_new (λ n w. Begins n w (at ns k).prefix.len (node_bit (at ns k))) (below k h (omega (arith, r.long)) (λ m q. sym (r.same m q)))))
        | inr p ↦ l_each (λ (k : ℕ) (m : Node). Beyond b K m → (child b (with_child s K (Some u)) < suc u) × Under (gl (child b (with_child s K (Some u)))) m)
            (λ r. absurd (native.Mathlib.Nat.lt_irrefl _ r.long))
            (λ r. absurd (p.0 (sym r.side ∙ lower.side)))
            (λ k h ni r. absurd (p.0 (sym r.side ∙ sym ((below k h (omega (arith, r.long)) (λ m q. sym (r.same m q))).same K.prefix.len lower.long) ∙ lower.side)))
      ]

      at_u : (k : ℕ) → k < suc u → Beyond b (at ns i) (gl k) → (child b (at ns i) < suc u) × Under (gl (child b (at ns i))) (gl k)
      at_u = l_each (λ (k : ℕ) (m : Node). Beyond b (at ns i) m → (child b (at ns i) < suc u) × Under (gl (child b (at ns i))) m)
          (λ r. absurd (native.Mathlib.Nat.lt_irrefl _ (native.Mathlib.Nat.lt_trans r.long lower.long)))
          (λ r. absurd (native.Mathlib.Nat.lt_irrefl _ r.long))
          (λ k h ni r. up i (at ns k) (t.full b i k iu h r))

      at_old : (j : ℕ) → j < u → j ≢ i → (k : ℕ) → k < suc u → Beyond b (at ns j) (gl k) → (child b (at ns j) < suc u) × Under (gl (child b (at ns j))) (gl k)
      at_old j hj ni = l_each (λ (k : ℕ) (m : Node). Beyond b (at ns j) m → (child b (at ns j) < suc u) × Under (gl (child b (at ns j))) m)
          (λ r. to_K (t.full b j i hj iu (beyond_further b (at ns j) K (at ns i) r under_K)))
          (λ r. up j (at ns i) (t.full b j i hj iu r))
          (λ k h nk r. up j (at ns k) (t.full b j k hj h r))
        where
          to_K : (child b (at ns j) < u) × Under (at ns (child b (at ns j))) (at ns i) → (child b (at ns j) < suc u) × Under (gl (child b (at ns j))) K
          to_K d = (omega (arith, d.0), l_old (λ n w. Begins n w K.prefix.len (node_bit K)) (child b (at ns j)) d.0 (λ e. under_refl K) (λ nc. low_under (child b (at ns j)) d.0 nc d.1))

  l_aparts : (j k : ℕ) → j < suc u → k < suc u → (gl j).prefix.len ≡ (gl k).prefix.len → Agree (gl j).prefix.len (node_bit (gl j)) (node_bit (gl k)) → j ≡ k
  unfolding yl
  l_aparts j k hj hk = l_each (λ (j : ℕ) (n : Node). (k : ℕ) → k < suc u → n.prefix.len ≡ (gl k).prefix.len → Agree n.prefix.len (node_bit n) (node_bit (gl k)) → j ≡ k)
      (l_each (λ (k : ℕ) (m : Node). K.prefix.len ≡ m.prefix.len → Agree K.prefix.len (node_bit K) (node_bit m) → i ≡ k)
      (λ e a. refl) (λ e a. absurd (omega (arith, e, lower.long))) (λ k h ni e a. absurd (not_K k h e (λ m q. sym (a m q)))))
      (l_each (λ (k : ℕ) (m : Node). (at ns i).prefix.len ≡ m.prefix.len → Agree (at ns i).prefix.len (node_bit (at ns i)) (node_bit m) → u ≡ k)
      (λ e a. absurd (omega (arith, e, lower.long))) (λ e a. refl) (λ k h ni e a. absurd (ni (sym (t.apart i k iu h e a)))))
      (λ j hj nj. l_each (λ (k : ℕ) (m : Node). (at ns j).prefix.len ≡ m.prefix.len → Agree (at ns j).prefix.len (node_bit (at ns j)) (node_bit m) → j ≡ k)
      (λ e a. absurd (not_K j hj (sym e) (λ m q. a m (omega arith))))
      (λ e a. absurd (nj (t.apart j i hj iu e a)))
      (λ k h ni e a. t.apart j k hj h e a))
      j hj k hk
    where
      not_K : (k : ℕ) → k < u → K.prefix.len ≡ (at ns k).prefix.len → Agree K.prefix.len (node_bit (at ns k)) (node_bit K) → ⊥
      not_K k h e a = omega (arith, (below k h (omega arith) a).long, lower.long)

  pub split_trie : Trie (at (with_split ns u i s K)) (suc u)
  unfolding gl yl after
  split_trie = record {
    few = few;
    short = l_each (λ (j : ℕ) (n : Node). n.prefix.len ≤ 128) short (t.short i iu) (λ j h ni. t.short j h);
    top = l_each (λ (j : ℕ) (n : Node). Under (gl 0) n)
        (l_old (λ m w. Begins m w K.prefix.len (node_bit K)) 0 (omega arith) (λ e. under_refl K) (λ n0. low_under 0 (omega arith) n0 (t.top i iu)))
        (root (at ns i) (t.top i iu)) (λ j h ni. root (at ns j) (t.top j h));
    sure = λ b. l_each (λ (j : ℕ) (n : Node). link b n ≢ Some 65535) (sure_with b s K (Some u) (sure_some u few) (sure_leaf b K leaf)) (t.sure b i iu) (λ j h ni. t.sure b j h);
    kid = l_kids;
    full = l_fulls;
    apart = l_aparts;
  }
    where
      root : (n : Node) → Under (at ns 0) n → Under (gl 0) n
      root n r = l_old (λ m w. Begins m w n.prefix.len (node_bit n)) 0 (omega arith) (λ e. move n 0 e r) (λ _. r)
