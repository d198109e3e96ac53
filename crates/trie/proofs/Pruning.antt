-- Slots given back.
use Rattle.std.proofs.Common.{◌≡◌, ℕ, suc, ◌-◌, ◌<◌, ◌≤◌, Bool, cond, eqb, ◌≢◌, List, length, set, Some, None, sym, refl, ap, ◌∙◌, subst, inl, inr, not-suc-le-zero, lt_irrefl, arith, length-set, get_or-set_other, get_or-set_same}
use Rattle.std.proofs.lemmas.Bool.{cases_lt, cases_eq, eq-eqb, ne_eqb, cond-true, cond-false}
use Rattle.trie.specs.declared.node.Node.{Node}
use Rattle.trie.specs.Nodes.{node_bit, link, child, with_child, with_hop, at, blank, key, holds, altered}
use Rattle.trie.specs.Trie.{Beyond, Trie, Leaf, Compressed}
use Rattle.trie.specs.Search.{Found}
use Rattle.trie.specs.Changes.{swapped, Moved, Parent, Loose, Pruned, Unlinked, Dropped}
use Rattle.trie.proofs.Keys.{key_same, holds_some, only}
use Rattle.trie.proofs.Grow.{leaf_child, sure_none}
use Rattle.trie.proofs.Maps.{same_holds, hop_each, hop_trie, hop_holds}
use Rattle.trie.proofs.Moves.{swapped_l, swapped_r, swapped_back, swapped_in, relink_bare, relink_hit, relink_miss, relink_sure, moved_nil, moved_trie, moved_in, moved_holds, moved_hop, moved_link, moved_some, moved_forks}
use Rattle.trie.proofs.Shrink.{unlinked, pulled}

-- the one child of slot i in its place
module _ (ns ms : List Node) (u i k : ℕ) (s : Bool) (lo : Loose ns u i) (iu : i < u) (none : (at ns i).hop ≡ None) (one : child s (at ns i) ≢ 65535) (other : (b : Bool) → b ≢ s → child b (at ns i) ≡ 65535)
    (ek : k ≡ child s (at ns i)) (m : Moved ns ms u k (u - 1)) where
  abbrev v : ℕ
  v = u - 1

  abbrev i2 : ℕ
  i2 = swapped k v i

  kid_k : (k < u) × Beyond s (at ns i) (at ns k)
  kid_k = subst (λ (c : ℕ). (c < u) × Beyond s (at ns i) (at ns c)) (sym ek) (lo.trie.kid s i iu one)

  k_i : k ≢ i
  k_i e = lt_irrefl (at ns i).prefix.len (subst (λ (c : ℕ). (at ns i).prefix.len < (at ns c).prefix.len) e kid_k.1.long)

  k_0 : 0 < k
  k_0 = elim (cases_eq k 0) [ inl e ↦ absurd (lt_irrefl (at ns i).prefix.len (omega (arith, subst (λ (c : ℕ). (at ns i).prefix.len < (at ns c).prefix.len) e kid_k.1.long, (lo.trie.top i iu).long))) | inr n ↦ omega arith ]

  v_0 : 0 < v
  v_0 = omega (arith, kid_k.0, k_i, iu)

  vu : v < u
  vu = omega arith

  suc_v : u ≡ suc v
  suc_v = omega arith

  t1 : Trie (at ms) u
  t1 = moved_trie ns ms u k v m lo.trie lo.within kid_k.0 vu k_0 v_0

  i2_v : i2 < v
  i2_v =
      let n : i2 ≢ v = λ e. k_i (sym (swapped_r k v) ∙ ap (swapped k v) (sym e) ∙ swapped_back k v i) in
      omega (arith, swapped_in k v u i kid_k.0 vu iu, n)

  abbrev src : ℕ → ℕ
  src j = cond (eqb j i2) v j

  src_i : src i2 ≡ v
  src_i = cond-true _ _ _ (eq-eqb i2 i2 refl)

  src_o : (j : ℕ) → j ≢ i2 → src j ≡ j
  src_o j n = cond-false _ _ _ (ne_eqb j i2 n)

  abbrev ms2 : List Node
  ms2 = set ms i2 (at ms v)

  in_ms : u ≤ length ms
  in_ms = moved_in ns ms u k v m lo.trie lo.within kid_k.0 vu k_0 v_0

  place : (j : ℕ) → at ms2 j ≡ at ms (src j)
  place j = elim (cases_eq j i2) [
    | inl e ↦ ap (at ms2) e ∙ get_or-set_same ms i2 (at ms v) blank (omega (arith, in_ms, i2_v)) ∙ ap (at ms) (sym (ap src e ∙ src_i))
    | inr n ↦ get_or-set_other ms i2 j (at ms v) blank n ∙ ap (at ms) (sym (src_o j n))
  ]

  src_in : (j : ℕ) → j < v → (src j < u) × (src j ≢ i2)
  src_in j h = elim (cases_eq j i2) [
    | inl e ↦ (let z : src j ≡ v = ap src e ∙ src_i in (omega arith, λ q. lt_irrefl v (omega (arith, z, q, i2_v))))
    | inr n ↦ (let z : src j ≡ j = src_o j n in (omega arith, λ q. n (sym z ∙ q)))
  ]

  t2 : Trie (at ms2) v
  t2 = pulled (at ms) (at ms2) v i2 s (subst (Trie (at ms)) suc_v t1) i2_v
      (moved_link ns ms u k v m lo.trie lo.within kid_k.0 vu k_0 v_0 s i iu ∙ ap (swapped k v) (sym ek) ∙ swapped_l k v)
      (λ b n. moved_link ns ms u k v m lo.trie lo.within kid_k.0 vu k_0 v_0 b i iu ∙ ap (swapped k v) (other b n) ∙ moved_nil ns ms u k v m lo.trie lo.within kid_k.0 vu k_0 v_0)
      src src_i src_o (λ j h. ap (λ (n : Node). n.prefix.len) (place j)) (λ j h. ap node_bit (place j)) (λ b j h. ap (child b) (place j))
      (λ b j h. subst (λ (n : Node). link b n ≢ Some 65535) (sym (place j)) (m.sure b (src j) (src_in j h).0))

  pub pulled_up : (to : ℕ) → to ≡ swapped k (u - 1) i → Pruned ns u (set ms to (at ms (u - 1))) (u - 1)
  pulled_up to e = subst (λ (n : ℕ). Pruned ns u (set ms n (at ms (u - 1))) (u - 1)) (sym e) (record {
    good = record {
      within = rw length-set (omega (arith, in_ms));
      trie = t2;
      forks = λ j h z b q. moved_forks ns ms u k v m lo.trie lo.within kid_k.0 vu k_0 v_0 i lo.forks (src j) (src_in j h).0 (src_in j h).1 (ap (λ (n : Node). n.hop) (sym (place j)) ∙ z) b (ap (child b) (sym (place j)) ∙ q);
    };
    fewer = omega arith;
    map = same_holds ms ms2 u v in_ms (rw length-set (omega (arith, in_ms))) t1 t2 keeps (λ j h. (src j, (src_in j h).0, ap key (sym (place j)), ap (λ (n : Node). n.hop) (sym (place j))))
        ∙ moved_holds ns ms u k v m lo.trie lo.within kid_k.0 vu k_0 v_0;
  })
    where
      keeps : (j : ℕ) → j < u → ((at ms j).hop ≡ None → ⊥) → (x : ℕ) × (x < v) × (key (at ms2 x) ≡ key (at ms j))
      keeps j h z = elim (cases_eq j v) [
        | inl q ↦ (i2, i2_v, ap key (place i2 ∙ ap (at ms) (src_i ∙ sym q)))
        | inr q ↦ (let n : j ≢ i2 = λ y. z (ap (λ (x : ℕ). (at ms x).hop) y ∙ moved_hop ns ms u k v m lo.trie lo.within kid_k.0 vu k_0 v_0 i iu ∙ none) in
            (j, omega arith, ap key (place j ∙ ap (at ms) (src_o j n))))
      ]

-- a leaf without a route taken from under its parent
module _ (ns ms : List Node) (u i p : ℕ) (s : Bool) (lo : Loose ns u i) (iu : i < u) (i0 : 0 < i) (none : (at ns i).hop ≡ None) (leaf : Leaf (at ns i)) (pp : Parent ns u i p s) (m : Moved ns ms u i (u - 1)) where
  abbrev w : ℕ
  w = u - 1

  abbrev p2 : ℕ
  p2 = swapped i w p

  wu : w < u
  wu = omega arith

  w_0 : 0 < w
  w_0 = omega arith

  p_i : p ≢ i
  p_i e = lt_irrefl (at ns p).prefix.len (subst (λ (c : ℕ). (at ns p).prefix.len < (at ns c).prefix.len) (pp.link ∙ sym e) (lo.trie.kid s p pp.slot (λ z. lt_irrefl i (omega (arith, sym pp.link ∙ z, lo.trie.few)))).1.long)

  a1 : Trie (at ms) u
  a1 = moved_trie ns ms u i w m lo.trie lo.within iu wu i0 w_0

  in_m : u ≤ length ms
  in_m = moved_in ns ms u i w m lo.trie lo.within iu wu i0 w_0

  p2_w : p2 < w
  p2_w =
      let n : p2 ≢ w = λ e. p_i (sym (sym (swapped_r i w) ∙ ap (swapped i w) (sym e) ∙ swapped_back i w p)) in
      omega (arith, swapped_in i w u p iu wu pp.slot, n)

  p2_l : p2 < length ms
  p2_l = omega (arith, in_m, p2_w)

  lnk : (b : Bool) (x : ℕ) → x < u → child b (at ms (swapped i w x)) ≡ swapped i w (child b (at ns x))
  lnk b x h = moved_link ns ms u i w m lo.trie lo.within iu wu i0 w_0 b x h

  nil : swapped i w 65535 ≡ 65535
  nil = moved_nil ns ms u i w m lo.trie lo.within iu wu i0 w_0

  abbrev ms3 : List Node
  ms3 = set ms p2 (with_child s (at ms p2) None)

  suc_w : u ≡ suc w
  suc_w = omega arith

  a2 : Trie (at ms3) w
  a2 = unlinked (at ms) (at ms3) w p2 s (subst (Trie (at ms)) suc_w a1) p2_w (lnk s p pp.slot ∙ ap (swapped i w) pp.link ∙ swapped_l i w)
      (λ b. ap (λ (x : ℕ). child b (at ms x)) (sym (swapped_l i w)) ∙ lnk b i iu ∙ ap (swapped i w) (leaf_child b (at ns i) leaf) ∙ nil)
      (λ j h. ap (λ (n : Node). n.prefix.len) (relink_bare ms p2 s None p2_l j)) (λ j h. ap node_bit (relink_bare ms p2 s None p2_l j))
      (relink_hit ms p2 s None p2_l) (λ b j h z. relink_miss ms p2 s None p2_l b j z)
      (relink_sure ms p2 s None p2_l w p2_w sure_none (λ b x h. m.sure b x (omega (arith, h))))

  pub unlinked_leaf : (to : ℕ) (y : Node) → to ≡ swapped i (u - 1) p → y ≡ with_child s (at ms to) None → Unlinked ns u (set ms to y) to s
  unfolding key
  unlinked_leaf to y e f = subst (λ (n : Node). Unlinked ns u (set ms to n) to s) (sym f) (subst (λ (n : ℕ). Unlinked ns u (set ms n (with_child s (at ms n) None)) n s) (sym e) (record {
    slot = p2_w;
    loose = record {
      within = rw length-set (omega (arith, in_m));
      trie = a2;
      forks = λ j h n z b q. moved_forks ns ms u i w m lo.trie lo.within iu wu i0 w_0 i lo.forks j (omega arith) (λ x. lt_irrefl w (omega (arith, x ∙ swapped_l i w, h))) (sym (ap (λ (x : Node). x.hop) (relink_bare ms p2 s None p2_l j)) ∙ z) b (sym (relink_miss ms p2 s None p2_l b j (λ x. n x.0)) ∙ q);
    };
    map = same_holds ms ms3 u w in_m (rw length-set (omega (arith, in_m))) a1 a2
        (λ j h z. (j, (let n : j ≢ w = λ q. z (ap (λ (x : ℕ). (at ms x).hop) (q ∙ sym (swapped_l i w)) ∙ moved_hop ns ms u i w m lo.trie lo.within iu wu i0 w_0 i iu ∙ none) in omega arith), ap key (relink_bare ms p2 s None p2_l j)))
        (λ j h. (j, omega arith, sym (ap key (relink_bare ms p2 s None p2_l j)), sym (ap (λ (x : Node). x.hop) (relink_bare ms p2 s None p2_l j))))
        ∙ moved_holds ns ms u i w m lo.trie lo.within iu wu i0 w_0;
    gone = relink_hit ms p2 s None p2_l;
    other = λ z b n q. moved_some ns ms u i w m lo.trie lo.within iu wu i0 w_0 (child b (at ns p))
        (lo.forks p pp.slot p_i (sym (ap (λ (x : Node). x.hop) (relink_bare ms p2 s None p2_l p2) ∙ moved_hop ns ms u i w m lo.trie lo.within iu wu i0 w_0 p pp.slot) ∙ z) b)
        (sym (relink_miss ms p2 s None p2_l b p2 (λ x. n x.1) ∙ lnk b p pp.slot) ∙ q);
  }))

-- the last node of all
pub emptied : (ns : List Node) (u : ℕ) → Loose ns u 0 → 0 < u → (at ns 0).hop ≡ None → Leaf (at ns 0) → Pruned ns u ns 0
emptied ns u lo h none leaf = record {
  good = record { within = omega arith; trie = bare_trie; forks = λ i l. absurd (not-suc-le-zero l) };
  fewer = omega arith;
  map = same_holds ns ns u 0 lo.within (omega arith) lo.trie bare_trie (λ j l z. absurd (z (ap (λ (x : ℕ). (at ns x).hop) (only_0 j l) ∙ none))) (λ k l. absurd (not-suc-le-zero l));
}
  where
    bare_trie : Trie (at ns) 0
    bare_trie = record { few = omega arith; short = λ i l. absurd (not-suc-le-zero l); top = λ i l. absurd (not-suc-le-zero l); sure = λ s i l. absurd (not-suc-le-zero l); kid = λ s i l. absurd (not-suc-le-zero l); full = λ s i j l. absurd (not-suc-le-zero l); apart = λ i j l. absurd (not-suc-le-zero l) }

    only_0 : (j : ℕ) → j < u → j ≡ 0
    only_0 j l = elim (cases_lt (at ns 0).prefix.len (at ns j).prefix.len) [
      | inl g ↦ absurd (lt_irrefl 65535 (omega (arith, (lo.trie.full (node_bit (at ns j) (at ns 0).prefix.len) 0 j h l (record { long = g; same = (lo.trie.top j l).same; side = refl })).0, leaf_child (node_bit (at ns j) (at ns 0).prefix.len) (at ns 0) leaf, lo.trie.few)))
      | inr g ↦ sym (lo.trie.apart 0 j h l (omega (arith, (lo.trie.top j l).long)) (lo.trie.top j l).same)
    ]

-- the route of slot i taken away
pub cleared : (ns : List Node) (u i : ℕ) → Compressed ns u → i < u → Loose (set ns i (with_hop (at ns i) None)) u i
cleared ns u i g h = record {
  within = rw length-set g.within;
  trie = hop_trie ns u i None h g.within g.trie;
  forks = λ j l n. hop_each ns u i None h g.within g.trie (λ (j : ℕ) (x : Node). j < u → j ≢ i → x.hop ≡ None → (s : Bool) → child s x ≢ 65535) (λ l n. absurd (n refl)) (λ j _ l n. g.forks j l) j l n;
}

-- a search that ends at the key's own slot
pub exact_key : (ns : List Node) (u : ℕ) → Compressed ns u → (k : Node) (i c : ℕ) → Found (at ns) u k i c → (at ns i).prefix.len ≤ c → k.prefix.len ≤ c → key (at ns i) ≡ key k
exact_key ns u g k i c r li lk = key_same (at ns i) k (g.trie.short i r.slot) (omega (arith, r.shared.left, r.shared.right)) (λ m h. r.shared.same m (omega arith))

-- the route of slot i is gone, and what is no branch with it
pub dropped : (ns : List Node) (u : ℕ) → Compressed ns u → (k : Node) (i : ℕ) → i < u → key (at ns i) ≡ key k → ((at ns i).hop ≡ None → ⊥) → (ms : List Node) (v : ℕ)
    → Pruned (set ns i (with_hop (at ns i) None)) u ms v → Dropped ns u k ms v
dropped ns u g k i iu e some ms v p = record {
  good = p.good;
  fewer = p.fewer;
  was = λ z. some (sym (holds_some ns u g.within (key k) i iu e (λ j hj f. only (at ns) u g.trie (key k) i j iu hj e f)) ∙ z);
  map = p.map ∙ hop_holds ns u i None iu g.within g.trie ∙ ap (λ (q : List Bool). altered (holds ns u) q None) e;
}

-- a table with no slot in use
pub none_good : (ns : List Node) → Compressed ns 0
none_good ns = record {
  within = omega arith;
  trie = record { few = omega arith; short = λ i l. absurd (not-suc-le-zero l); top = λ i l. absurd (not-suc-le-zero l); sure = λ s i l. absurd (not-suc-le-zero l); kid = λ s i l. absurd (not-suc-le-zero l); full = λ s i j l. absurd (not-suc-le-zero l); apart = λ i j l. absurd (not-suc-le-zero l) };
  forks = λ i l. absurd (not-suc-le-zero l);
}
