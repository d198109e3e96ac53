-- A trie with its slots exchanged, or with its last slot given back.
use Rattle.std.proofs.Common.{◌≡◌, ℕ, suc, ◌<◌, ◌≤◌, Bool, true, false, ◌≢◌, ◌⊎◌, Some, sym, refl, ap, ◌∙◌, subst, inl, inr, le_refl, lt_irrefl, arith}
use Rattle.std.proofs.lemmas.Bool.{cases_lt, cases_eq, cases_order, true≢false, false≢true}
use Rattle.trie.specs.declared.node.Node.{Node}
use Rattle.trie.specs.Nodes.{node_bit, link, child}
use Rattle.trie.specs.Trie.{Agree, Begins, Leads, Under, Beyond, Trie}
use Rattle.trie.proofs.Nodes.{beyond_under, beyond_further}

-- slot c has one parent
pub one_parent : (f : ℕ → Node) (u : ℕ) → Trie f u → (a b : Bool) (i j c : ℕ) → i < u → j < u → c < u → child a (f i) ≡ c → child b (f j) ≡ c → (i ≡ j) × (a ≡ b)
one_parent f u t a b i j c hi hj hc ei ej = go (cases_order (f i).prefix.len (f j).prefix.len)
  where
    bi : Beyond a (f i) (f c)
    bi = subst (λ (n : ℕ). Beyond a (f i) (f n)) ei (t.kid a i hi (λ z. let k : c ≡ 65535 = sym ei ∙ z in omega (arith, t.few))).1

    bj : Beyond b (f j) (f c)
    bj = subst (λ (n : ℕ). Beyond b (f j) (f n)) ej (t.kid b j hj (λ z. let k : c ≡ 65535 = sym ej ∙ z in omega (arith, t.few))).1

    go : ((f i).prefix.len ≡ (f j).prefix.len) ⊎ (((f i).prefix.len < (f j).prefix.len) ⊎ ((f j).prefix.len < (f i).prefix.len)) → (i ≡ j) × (a ≡ b)
    go (inl e) = (t.apart i j hi hj e (λ k h. bi.same k h ∙ sym (bj.same k (omega arith))), sym bi.side ∙ ap (node_bit (f c)) e ∙ bj.side)
    go (inr (inl l)) =
        let y : Beyond a (f i) (f j) = record { long = l; same = λ k h. bi.same k h ∙ sym (bj.same k (omega arith)); side = bj.same (f i).prefix.len l ∙ bi.side } in
        let z : Under (f c) (f j) = subst (λ (n : ℕ). Under (f n) (f j)) ei (t.full a i j hi hj y).1 in
        absurd (lt_irrefl (f j).prefix.len (omega (arith, z.long, bj.long)))
    go (inr (inr l)) =
        let y : Beyond b (f j) (f i) = record { long = l; same = λ k h. bj.same k h ∙ sym (bi.same k (omega arith)); side = bi.same (f j).prefix.len l ∙ bj.side } in
        let z : Under (f c) (f i) = subst (λ (n : ℕ). Under (f n) (f i)) ej (t.full b j i hj hi y).1 in
        absurd (lt_irrefl (f i).prefix.len (omega (arith, z.long, bi.long)))

-- the same trie in other slots: slot j has what slot τ j had, and the links follow
module _ (f g : ℕ → Node) (u : ℕ) (t : Trie f u) (τ : ℕ → ℕ) (back : (j : ℕ) → τ (τ j) ≡ j) (in_use : (j : ℕ) → j < u → τ j < u) (root : τ 0 ≡ 0) (nil : τ 65535 ≡ 65535)
    (len : (j : ℕ) → j < u → (g j).prefix.len ≡ (f (τ j)).prefix.len) (wrd : (j : ℕ) → j < u → node_bit (g j) ≡ node_bit (f (τ j))) (kids : (b : Bool) (j : ℕ) → j < u → child b (g j) ≡ τ (child b (f (τ j)))) (sure : (b : Bool) (j : ℕ) → j < u → link b (g j) ≢ Some 65535) where
  -- what holds of f's slot holds of g's
  ren : (R : ℕ → (ℕ → Bool) → Type 0) (j : ℕ) → j < u → R (f (τ j)).prefix.len (node_bit (f (τ j))) → R (g j).prefix.len (node_bit (g j))
  ren R j h r = subst (λ (n : ℕ). R n (node_bit (g j))) (sym (len j h)) (subst (R (f (τ j)).prefix.len) (sym (wrd j h)) r)

  unren : (R : ℕ → (ℕ → Bool) → Type 0) (j : ℕ) → j < u → R (g j).prefix.len (node_bit (g j)) → R (f (τ j)).prefix.len (node_bit (f (τ j)))
  unren R j h r = subst (R (f (τ j)).prefix.len) (wrd j h) (subst (λ (n : ℕ). R n (node_bit (g j))) (len j h) r)

  ren_at : (R : ℕ → (ℕ → Bool) → Type 0) (j : ℕ) → j < u → R (f j).prefix.len (node_bit (f j)) → R (g (τ j)).prefix.len (node_bit (g (τ j)))
  ren_at R j h r = ren R (τ j) (in_use j h) (subst (λ (n : ℕ). R (f n).prefix.len (node_bit (f n))) (sym (back j)) r)

  pub renamed : Trie g u
  renamed = record {
    few = t.few;
    short = λ i h. subst (λ (n : ℕ). n ≤ 128) (sym (len i h)) (t.short (τ i) (in_use i h));
    top = λ i h. ren (λ m w. Begins (g 0).prefix.len (node_bit (g 0)) m w) i h (ren (λ m w. Begins m w (f (τ i)).prefix.len (node_bit (f (τ i)))) 0 (omega arith) (subst (λ (n : ℕ). Under (f n) (f (τ i))) (sym root) (t.top (τ i) (in_use i h))));
    sure = sure;
    kid = λ b i h ne. let c : ℕ = child b (f (τ i)) in
        let k : (c < u) × Beyond b (f (τ i)) (f c) = t.kid b (τ i) (in_use i h) (λ z. ne (kids b i h ∙ ap τ z ∙ nil)) in
        subst (λ (n : ℕ). (n < u) × Beyond b (g i) (g n)) (sym (kids b i h))
        (in_use c k.0, ren (λ m w. Leads b m w (g (τ c)).prefix.len (node_bit (g (τ c)))) i h (ren_at (λ m w. Leads b (f (τ i)).prefix.len (node_bit (f (τ i))) m w) c k.0 k.1));
    full = λ b i j hi hj r. let c : ℕ = child b (f (τ i)) in
        let k : (c < u) × Under (f c) (f (τ j)) = t.full b (τ i) (τ j) (in_use i hi) (in_use j hj) (unren (λ m w. Leads b (f (τ i)).prefix.len (node_bit (f (τ i))) m w) j hj (unren (λ m w. Leads b m w (g j).prefix.len (node_bit (g j))) i hi r)) in
        subst (λ (n : ℕ). (n < u) × Under (g n) (g j)) (sym (kids b i hi))
        (in_use c k.0, ren (λ m w. Begins (g (τ c)).prefix.len (node_bit (g (τ c))) m w) j hj (ren_at (λ m w. Begins m w (f (τ j)).prefix.len (node_bit (f (τ j)))) c k.0 k.1));
    apart = λ i j hi hj e a. sym (back i) ∙ ap τ (t.apart (τ i) (τ j) (in_use i hi) (in_use j hj) (sym (len i hi) ∙ e ∙ len j hj) (unren (λ m w. Agree (f (τ i)).prefix.len (node_bit (f (τ i))) w) j hj (unren (λ m w. Agree m w (node_bit (g j))) i hi a))) ∙ back j;
  }

-- the leaf in the last slot v taken from under slot p
module _ (f g : ℕ → Node) (v p : ℕ) (s : Bool) (t : Trie f (suc v)) (hp : p < v) (leads : child s (f p) ≡ v) (leaf : (b : Bool) → child b (f v) ≡ 65535)
    (len : (j : ℕ) → j < v → (g j).prefix.len ≡ (f j).prefix.len) (wrd : (j : ℕ) → j < v → node_bit (g j) ≡ node_bit (f j))
    (cut : child s (g p) ≡ 65535) (kids : (b : Bool) (j : ℕ) → j < v → ((j ≡ p) × (b ≡ s) → ⊥) → child b (g j) ≡ child b (f j)) (sure : (b : Bool) (j : ℕ) → j < v → link b (g j) ≢ Some 65535) where
  u_ren : (R : ℕ → (ℕ → Bool) → Type 0) (j : ℕ) → j < v → R (f j).prefix.len (node_bit (f j)) → R (g j).prefix.len (node_bit (g j))
  u_ren R j h r = subst (λ (n : ℕ). R n (node_bit (g j))) (sym (len j h)) (subst (R (f j).prefix.len) (sym (wrd j h)) r)

  u_unren : (R : ℕ → (ℕ → Bool) → Type 0) (j : ℕ) → j < v → R (g j).prefix.len (node_bit (g j)) → R (f j).prefix.len (node_bit (f j))
  u_unren R j h r = subst (R (f j).prefix.len) (wrd j h) (subst (λ (n : ℕ). R n (node_bit (g j))) (len j h) r)

  -- nothing is beneath a leaf
  bare : (k : ℕ) → k < v → Under (f v) (f k) → ⊥
  bare k h r = elim (cases_lt (f v).prefix.len (f k).prefix.len) [
    | inl l ↦ omega (arith, (t.full (node_bit (f k) (f v).prefix.len) v k (le_refl _) (omega arith) (record { long = l; same = r.same; side = refl })).0, leaf (node_bit (f k) (f v).prefix.len), t.few)
    | inr l ↦ (let e : v ≡ k = t.apart v k (le_refl _) (omega arith) (omega (arith, r.long)) r.same in omega arith)
  ]

  cases_link : (b : Bool) (j : ℕ) → ((j ≡ p) × (b ≡ s)) ⊎ ((j ≡ p) × (b ≡ s) → ⊥)
  cases_link b j = elim (cases_eq j p) [ inr n ↦ inr (λ z. n z.0) | inl e ↦ elim (same_bool b s) [ inl q ↦ inl (e, q) | inr q ↦ inr (λ z. q z.1) ] ]
    where
      same_bool : (a b : Bool) → (a ≡ b) ⊎ (a ≡ b → ⊥)
      same_bool true true = inl refl
      same_bool true false = inr true≢false
      same_bool false true = inr false≢true
      same_bool false false = inl refl

  pub unlinked : Trie g v
  unlinked = record {
    few = omega (arith, t.few);
    short = λ i h. subst (λ (n : ℕ). n ≤ 128) (sym (len i h)) (t.short i (omega arith));
    top = λ i h. u_ren (λ m w. Begins m w (g i).prefix.len (node_bit (g i))) 0 (omega arith) (u_ren (λ m w. Begins (f 0).prefix.len (node_bit (f 0)) m w) i h (t.top i (omega arith)));
    sure = sure;
    kid = λ b i h ne. elim (cases_link b i) [
      | inl z ↦ absurd (ne (ap (λ (c : Bool). child c (g i)) z.1 ∙ ap (λ (n : ℕ). child s (g n)) z.0 ∙ cut))
      | inr z ↦ (let k : (child b (f i) < suc v) × Beyond b (f i) (f (child b (f i))) = t.kid b i (omega arith) (λ y. ne (kids b i h z ∙ y)) in
          let n : child b (f i) ≢ v = λ y. z (one_parent f (suc v) t b s i p v (omega arith) (omega arith) (le_refl _) y leads) in
          let l : child b (f i) < v = omega (arith, k.0) in
          subst (λ (c : ℕ). (c < v) × Beyond b (g i) (g c)) (sym (kids b i h z))
          (l, u_ren (λ m w. Leads b m w (g (child b (f i))).prefix.len (node_bit (g (child b (f i))))) i h (u_ren (λ m w. Leads b (f i).prefix.len (node_bit (f i)) m w) (child b (f i)) l k.1)))
    ];
    full = λ b i j hi hj r.
        let k : (child b (f i) < suc v) × Under (f (child b (f i))) (f j) = t.full b i j (omega arith) (omega arith) (u_unren (λ m w. Leads b (f i).prefix.len (node_bit (f i)) m w) j hj (u_unren (λ m w. Leads b m w (g j).prefix.len (node_bit (g j))) i hi r)) in
        let n : child b (f i) ≢ v = λ y. bare j hj (subst (λ (c : ℕ). Under (f c) (f j)) y k.1) in
        let l : child b (f i) < v = omega (arith, k.0) in
        let z : (i ≡ p) × (b ≡ s) → ⊥ = λ y. n (ap (λ (c : Bool). child c (f i)) y.1 ∙ ap (λ (m : ℕ). child s (f m)) y.0 ∙ leads) in
        subst (λ (c : ℕ). (c < v) × Under (g c) (g j)) (sym (kids b i hi z))
        (l, u_ren (λ m w. Begins m w (g j).prefix.len (node_bit (g j))) (child b (f i)) l (u_ren (λ m w. Begins (f (child b (f i))).prefix.len (node_bit (f (child b (f i)))) m w) j hj k.1));
    apart = λ i j hi hj e a. t.apart i j (omega arith) (omega arith) (sym (len i hi) ∙ e ∙ len j hj) (u_unren (λ m w. Agree (f i).prefix.len (node_bit (f i)) w) j hj (u_unren (λ m w. Agree m w (node_bit (g j))) i hi a));
  }

-- slot v, the last, put into the slot i of its parent, which has no other child: slot j has now what slot src j had
module _ (f g : ℕ → Node) (v i : ℕ) (s : Bool) (t : Trie f (suc v)) (hi : i < v) (leads : child s (f i) ≡ v) (single : (b : Bool) → b ≢ s → child b (f i) ≡ 65535)
    (src : ℕ → ℕ) (src_i : src i ≡ v) (src_o : (j : ℕ) → j ≢ i → src j ≡ j)
    (len : (j : ℕ) → j < v → (g j).prefix.len ≡ (f (src j)).prefix.len) (wrd : (j : ℕ) → j < v → node_bit (g j) ≡ node_bit (f (src j))) (kids : (b : Bool) (j : ℕ) → j < v → child b (g j) ≡ child b (f (src j))) (sure : (b : Bool) (j : ℕ) → j < v → link b (g j) ≢ Some 65535) where
  p_ren : (R : ℕ → (ℕ → Bool) → Type 0) (j : ℕ) → j < v → R (f (src j)).prefix.len (node_bit (f (src j))) → R (g j).prefix.len (node_bit (g j))
  p_ren R j h r = subst (λ (n : ℕ). R n (node_bit (g j))) (sym (len j h)) (subst (R (f (src j)).prefix.len) (sym (wrd j h)) r)

  p_unren : (R : ℕ → (ℕ → Bool) → Type 0) (j : ℕ) → j < v → R (g j).prefix.len (node_bit (g j)) → R (f (src j)).prefix.len (node_bit (f (src j)))
  p_unren R j h r = subst (R (f (src j)).prefix.len) (wrd j h) (subst (λ (n : ℕ). R n (node_bit (g j))) (len j h) r)

  src_in : (j : ℕ) → j < v → (src j < suc v) × (src j ≢ i)
  src_in j h = elim (cases_eq j i) [
    | inl e ↦ (let z : src j ≡ v = ap src e ∙ src_i in (omega arith, omega arith))
    | inr n ↦ (let z : src j ≡ j = src_o j n in (omega arith, omega arith))
  ]

  src_one : (j k : ℕ) → j < v → k < v → src j ≡ src k → j ≡ k
  src_one j k hj hk e = elim (cases_eq j i) [
    | inl a ↦ (elim (cases_eq k i) [ inl b ↦ a ∙ sym b | inr b ↦ (let y : src j ≡ v = ap src a ∙ src_i in let z : src k ≡ k = src_o k b in omega arith) ])
    | inr a ↦ (elim (cases_eq k i) [ inl b ↦ (let y : src k ≡ v = ap src b ∙ src_i in let z : src j ≡ j = src_o j a in omega arith) | inr b ↦ sym (src_o j a) ∙ e ∙ src_o k b ])
  ]

  there : Beyond s (f i) (f v)
  there = subst (λ (n : ℕ). Beyond s (f i) (f n)) leads (t.kid s i (omega arith) (λ z. let k : v ≡ 65535 = sym leads ∙ z in omega (arith, t.few))).1

  -- what is beneath slot i, other than itself, is beneath slot v
  deeper : (m : ℕ) → m < suc v → m ≢ i → Under (f i) (f m) → Under (f v) (f m)
  deeper m h n r = elim (cases_lt (f i).prefix.len (f m).prefix.len) [ inl l ↦ go l (same_side (node_bit (f m) (f i).prefix.len) s) | inr l ↦ absurd (n (sym (t.apart i m (omega arith) h (omega (arith, r.long)) r.same))) ]
    where
      same_side : (a b : Bool) → (a ≡ b) ⊎ (a ≢ b)
      same_side true true = inl refl
      same_side true false = inr true≢false
      same_side false true = inr false≢true
      same_side false false = inl refl

      go : (f i).prefix.len < (f m).prefix.len → (node_bit (f m) (f i).prefix.len ≡ s) ⊎ (node_bit (f m) (f i).prefix.len ≢ s) → Under (f v) (f m)
      go l (inl e) = subst (λ (c : ℕ). Under (f c) (f m)) leads (t.full s i m (omega arith) h (record { long = l; same = r.same; side = e })).1
      go l (inr ne) = absurd (lt_irrefl 65535 (omega (arith, (t.full (node_bit (f m) (f i).prefix.len) i m (omega arith) h (record { long = l; same = r.same; side = refl })).0, single (node_bit (f m) (f i).prefix.len) ne, t.few)))

  not_v : (b : Bool) (x : ℕ) → x < suc v → x ≢ i → child b (f x) ≢ v
  not_v b x h n e = n (one_parent f (suc v) t b s x i v h (omega arith) (le_refl _) e leads).0

  -- a slot that is linked, as it is now
  put_at : (R : ℕ → (ℕ → Bool) → Type 0) (c : ℕ) → c < v → (c ≡ i → R (f v).prefix.len (node_bit (f v))) → (c ≢ i → R (f c).prefix.len (node_bit (f c))) → R (g c).prefix.len (node_bit (g c))
  put_at R c h a b = p_ren R c h (elim (cases_eq c i)
      [ inl e ↦ subst (λ (n : ℕ). R (f n).prefix.len (node_bit (f n))) (sym (ap src e ∙ src_i)) (a e) | inr n ↦ subst (λ (k : ℕ). R (f k).prefix.len (node_bit (f k))) (sym (src_o c n)) (b n) ])

  pub pulled : Trie g v
  pulled = record {
    few = omega (arith, t.few);
    short = λ j h. subst (λ (n : ℕ). n ≤ 128) (sym (len j h)) (t.short (src j) (src_in j h).0);
    top = λ j h. put_at (λ m w. Begins m w (g j).prefix.len (node_bit (g j))) 0 (omega arith)
        (λ e. p_ren (λ m w. Begins (f v).prefix.len (node_bit (f v)) m w) j h (deeper (src j) (src_in j h).0 (src_in j h).1 (subst (λ (n : ℕ). Under (f n) (f (src j))) e (t.top (src j) (src_in j h).0))))
        (λ n. p_ren (λ m w. Begins (f 0).prefix.len (node_bit (f 0)) m w) j h (t.top (src j) (src_in j h).0));
    sure = sure;
    kid = λ b j h ne.
        let k : (child b (f (src j)) < suc v) × Beyond b (f (src j)) (f (child b (f (src j)))) = t.kid b (src j) (src_in j h).0 (λ z. ne (kids b j h ∙ z)) in
        let n : child b (f (src j)) ≢ v = not_v b (src j) (src_in j h).0 (src_in j h).1 in
        let l : child b (f (src j)) < v = omega (arith, k.0) in
        subst (λ (c : ℕ). (c < v) × Beyond b (g j) (g c)) (sym (kids b j h)) (
          l,
          p_ren (λ m w. Leads b m w (g (child b (f (src j)))).prefix.len (node_bit (g (child b (f (src j)))))) j h
              (put_at (λ m w. Leads b (f (src j)).prefix.len (node_bit (f (src j))) m w) (child b (f (src j))) l
              (λ e. beyond_further b (f (src j)) (f i) (f v) (subst (λ (c : ℕ). Beyond b (f (src j)) (f c)) e k.1) (beyond_under s (f i) (f v) there)) (λ _. k.1)),
        );
    full = λ b j m hj hm r.
        let k : (child b (f (src j)) < suc v) × Under (f (child b (f (src j)))) (f (src m)) =
        t.full b (src j) (src m) (src_in j hj).0 (src_in m hm).0 (p_unren (λ n w. Leads b (f (src j)).prefix.len (node_bit (f (src j))) n w) m hm (p_unren (λ n w. Leads b n w (g m).prefix.len (node_bit (g m))) j hj r)) in
        let n : child b (f (src j)) ≢ v = not_v b (src j) (src_in j hj).0 (src_in j hj).1 in
        let l : child b (f (src j)) < v = omega (arith, k.0) in
        subst (λ (c : ℕ). (c < v) × Under (g c) (g m)) (sym (kids b j hj)) (
          l,
          put_at (λ n w. Begins n w (g m).prefix.len (node_bit (g m))) (child b (f (src j))) l
              (λ e. p_ren (λ n w. Begins (f v).prefix.len (node_bit (f v)) n w) m hm (deeper (src m) (src_in m hm).0 (src_in m hm).1 (subst (λ (c : ℕ). Under (f c) (f (src m))) e k.1)))
              (λ _. p_ren (λ n w. Begins (f (child b (f (src j)))).prefix.len (node_bit (f (child b (f (src j))))) n w) m hm k.1),
        );
    apart = λ j m hj hm e a. src_one j m hj hm (t.apart (src j) (src m) (src_in j hj).0 (src_in m hm).0 (sym (len j hj) ∙ e ∙ len m hm) (p_unren (λ n w. Agree (f (src j)).prefix.len (node_bit (f (src j))) w) m hm (p_unren (λ n w. Agree n w (node_bit (g m))) j hj a)));
  }
