-- What a trie holds after a change.
use Rattle.std.proofs.Common.{◌≡◌, ℕ, suc, ◌<◌, ◌≤◌, Bool, false, ◌≢◌, ◌⊎◌, List, length, set, Some, None, Option, sym, refl, ap, ◌∙◌, subst, inl, inr, le_refl, arith, length-set, get_or-set_other, get_or-set_same}
use mathlib.Core.Path.{fun_ext}
use Rattle.std.proofs.lemmas.Bool.{cases_eq, cases_Bool, cond-true, cond-false, true≢false}
use Rattle.trie.specs.declared.node.Node.{Node}
use Rattle.bits.specs.Bits.{equal}
use Rattle.bits.specs.declared.halves.Halves.{Halves}
use Rattle.trie.specs.Nodes.{node_bit, child, with_child, with_hop, at, blank, key, holds, altered}
use Rattle.trie.specs.Trie.{Trie}
use Rattle.trie.specs.Changes.{with_leaf, with_split}
use Rattle.bits.proofs.Orders.{equal_is}
use Rattle.trie.proofs.Keys.{equal_eq, holds_none, holds_some, slot_of, only}
use Rattle.trie.proofs.Grow.{each, old, after_u, after_i, after}

-- from the slots of a trie f to those of g: one, ν, holds h at p, and the others hold what f's others do
module _ (ms ns : List Node) (v u : ℕ) (inm : v ≤ length ms) (inn : u ≤ length ns) (tm : Trie (at ms) v) (tn : Trie (at ns) u) (p : List Bool) (h : Option Halves) where
  pub regrown : (n : ℕ) → n < u → key (at ns n) ≡ p → (at ns n).hop ≡ h
      → ((j : ℕ) → j < v → (key (at ms j) ≡ p → ⊥) → (k : ℕ) × (k < u) × (key (at ns k) ≡ key (at ms j)) × ((at ns k).hop ≡ (at ms j).hop))
      → ((k : ℕ) → k < u → (key (at ns k) ≡ p → ⊥) → (j : ℕ) × (j < v) × (key (at ms j) ≡ key (at ns k)))
      → holds ns u ≡ altered (holds ms v) p h
  regrown n hn kn hop to from = fun_ext (λ q. elim (cases_Bool (equal p q)) [
    | inl e ↦ (let z : p ≡ q = equal_is p q e in holds_some ns u inn q n hn (kn ∙ z) (λ j hj ej. only (at ns) u tn q n j hn hj (kn ∙ z) ej) ∙ hop ∙ sym (cond-true (equal p q) h (holds ms v q) e))
    | inr e ↦ rest q e (slot_of (at ms) v q) ∙ sym (cond-false (equal p q) h (holds ms v q) e)
  ])
    where
      rest : (q : List Bool) → equal p q ≡ false → ((i : ℕ) × (i < v) × (key (at ms i) ≡ q)) ⊎ ((i : ℕ) → i < v → key (at ms i) ≡ q → ⊥) → holds ns u q ≡ holds ms v q
      rest q e (inl r) =
          let w : (k : ℕ) × (k < u) × (key (at ns k) ≡ key (at ms r.0)) × ((at ns k).hop ≡ (at ms r.0).hop) = to r.0 r.1 (λ z. true≢false (sym (equal_eq p q (sym z ∙ r.2)) ∙ e)) in
          holds_some ns u inn q w.0 w.1 (w.2 ∙ r.2) (λ j hj ej. only (at ns) u tn q w.0 j w.1 hj (w.2 ∙ r.2) ej)
          ∙ w.3
          ∙ sym (holds_some ms v inm q r.0 r.1 r.2 (λ j hj ej. only (at ms) v tm q r.0 j r.1 hj r.2 ej))
      rest q e (inr r) =
          holds_none ns u inn q (λ k hk ek. let w : (j : ℕ) × (j < v) × (key (at ms j) ≡ key (at ns k)) = from k hk (λ z. true≢false (sym (equal_eq p q (sym z ∙ ek)) ∙ e)) in r w.0 w.1 (w.2 ∙ ek))
          ∙ sym (holds_none ms v inm q r)

-- a leaf put under slot i
module _ (ns : List Node) (u i : ℕ) (s : Bool) (x : Node) (iu : i < u) (ul : u < length ns) (t : Trie (at ns) u) (t' : Trie (at (with_leaf ns u i s x)) (suc u)) where
  pub linked_holds : holds (with_leaf ns u i s x) (suc u) ≡ altered (holds ns u) (key x) x.hop
  unfolding key after
  linked_holds = regrown ns (with_leaf ns u i s x) u (suc u) (omega arith) (rw (length-set, length-set) ul) t t' (key x) x.hop
      u (le_refl _) (ap key (after_u ns u i x y iu ul)) (ap (λ (n : Node). n.hop) (after_u ns u i x y iu ul))
      (λ j hj nj. (
        j,
        omega arith,
        old ns u i x y iu ul (λ (n : Node). key n ≡ key (at ns j)) j hj (λ e. ap (λ (k : ℕ). key (at ns k)) (sym e)) (λ _. refl),
        old ns u i x y iu ul (λ (n : Node). n.hop ≡ (at ns j).hop) j hj (λ e. ap (λ (k : ℕ). (at ns k).hop) (sym e)) (λ _. refl),
      ))
      (each ns u i x y iu ul (λ (k : ℕ) (n : Node). (key n ≡ key x → ⊥) → (j : ℕ) × (j < u) × (key (at ns j) ≡ key n))
      (λ _. (i, iu, refl)) (λ ne. absurd (ne refl)) (λ j hj nj _. (j, hj, refl)))
    where
      y : Node
      y = with_child s (at ns i) (Some u)

-- a node put above slot i
module _ (ns : List Node) (u i : ℕ) (s : Bool) (K : Node) (iu : i < u) (ul : u < length ns) (t : Trie (at ns) u) (t' : Trie (at (with_split ns u i s K)) (suc u)) where
  pub split_holds : holds (with_split ns u i s K) (suc u) ≡ altered (holds ns u) (key K) K.hop
  unfolding key after
  split_holds = regrown ns (with_split ns u i s K) u (suc u) (omega arith) (rw (length-set, length-set) ul) t t' (key K) K.hop
      i (omega arith) (ap key (after_i ns u i (at ns i) y iu ul)) (ap (λ (n : Node). n.hop) (after_i ns u i (at ns i) y iu ul))
      (λ j hj nj. elim (cases_eq j i) [
        | inl e ↦ (u, le_refl _, ap key (after_u ns u i (at ns i) y iu ul) ∙ ap (λ (k : ℕ). key (at ns k)) (sym e), ap (λ (n : Node). n.hop) (after_u ns u i (at ns i) y iu ul) ∙ ap (λ (k : ℕ). (at ns k).hop) (sym e))
        | inr ni ↦ (j, omega arith, old ns u i (at ns i) y iu ul (λ (n : Node). key n ≡ key (at ns j)) j hj (λ e. absurd (ni e)) (λ _. refl), old ns u i (at ns i) y iu ul (λ (n : Node). n.hop ≡ (at ns j).hop) j hj (λ e. absurd (ni e)) (λ _. refl))
      ])
      (each ns u i (at ns i) y iu ul (λ (k : ℕ) (n : Node). (key n ≡ key K → ⊥) → (j : ℕ) × (j < u) × (key (at ns j) ≡ key n))
      (λ ne. absurd (ne refl)) (λ _. (i, iu, refl)) (λ j hj nj _. (j, hj, refl)))
    where
      y : Node
      y = with_child s K (Some u)

-- another hop in slot i
module _ (ns : List Node) (u i : ℕ) (h : Option Halves) (iu : i < u) (ul : u ≤ length ns) (t : Trie (at ns) u) where
  hops : ℕ → Node
  hops j = at (set ns i (with_hop (at ns i) h)) j

  pub hop_each : (P : ℕ → Node → Type 0) → P i (with_hop (at ns i) h) → ((j : ℕ) → j ≢ i → P j (at ns j)) → (j : ℕ) → P j (at (set ns i (with_hop (at ns i) h)) j)
  hop_each P a b j = elim (cases_eq j i) [
    | inl e ↦ subst (λ (k : ℕ). P k (at (set ns i (with_hop (at ns i) h)) k)) (sym e) (subst (P i) (sym (get_or-set_same ns i (with_hop (at ns i) h) blank (omega arith))) a)
    | inr ni ↦ subst (P j) (sym (get_or-set_other ns i j (with_hop (at ns i) h) blank ni)) (b j ni)
  ]

  -- all but the hop is as it was
  hop_kept : (R : ℕ → (ℕ → Bool) → (Bool → ℕ) → Type 0) (j : ℕ) → R (at ns j).prefix.len (node_bit (at ns j)) (λ s. child s (at ns j)) → R (hops j).prefix.len (node_bit (hops j)) (λ s. child s (hops j))
  unfolding hops
  hop_kept R = hop_each (λ (j : ℕ) (n : Node). R (at ns j).prefix.len (node_bit (at ns j)) (λ s. child s (at ns j)) → R n.prefix.len (node_bit n) (λ s. child s n)) (λ r. r) (λ j ni r. r)

  strip : Node → Node
  strip n = with_hop n None

  pub hop_trie : Trie (at (set ns i (with_hop (at ns i) h))) u
  unfolding strip
  hop_trie =
      let e : (λ (j : ℕ). strip (at ns j)) ≡ (λ (j : ℕ). strip (at (set ns i (with_hop (at ns i) h)) j)) = fun_ext (λ j. sym (hop_each (λ (j : ℕ) (n : Node). strip n ≡ strip (at ns j)) refl (λ k ni. refl) j)) in
      let a : Trie (λ (j : ℕ). strip (at ns j)) u = record { few = t.few; short = t.short; sure = t.sure; top = t.top; kid = t.kid; full = t.full; apart = t.apart } in
      let b : Trie (λ (j : ℕ). strip (at (set ns i (with_hop (at ns i) h)) j)) u = subst (λ (f : ℕ → Node). Trie f u) e a in
      record { few = b.few; short = b.short; sure = b.sure; top = b.top; kid = b.kid; full = b.full; apart = b.apart }

  pub hop_holds : holds (set ns i (with_hop (at ns i) h)) u ≡ altered (holds ns u) (key (at ns i)) h
  unfolding key
  hop_holds = regrown ns (set ns i (with_hop (at ns i) h)) u u ul (rw length-set ul) t hop_trie (key (at ns i)) h
      i iu (hop_each (λ (j : ℕ) (n : Node). key n ≡ key (at ns j)) refl (λ k ni. refl) i) (ap (λ (n : Node). n.hop) (get_or-set_same ns i (with_hop (at ns i) h) blank (omega arith)))
      (λ j hj nj. (
        j,
        hj,
        hop_each (λ (j : ℕ) (n : Node). key n ≡ key (at ns j)) refl (λ k ni. refl) j,
        ap (λ (n : Node). n.hop) (get_or-set_other ns i j (with_hop (at ns i) h) blank (λ e. nj (ap (λ (k : ℕ). key (at ns k)) e))),
      ))
      (λ j hj nj. (j, hj, sym (hop_each (λ (j : ℕ) (n : Node). key n ≡ key (at ns j)) refl (λ k ni. refl) j)))

cases_hop : (o : Option Halves) → (o ≡ None) ⊎ (o ≡ None → ⊥)
cases_hop None = inl refl
cases_hop (Some h) = inr (λ e. let z : ◌≡◌ {A = ℕ} 0 1 = cc in omega arith)

-- the same routes in other slots
pub same_holds : (ms ns : List Node) (v u : ℕ) (inm : v ≤ length ms) (inn : u ≤ length ns) (tm : Trie (at ms) v) (tn : Trie (at ns) u)
    → ((j : ℕ) → j < v → ((at ms j).hop ≡ None → ⊥) → (k : ℕ) × (k < u) × (key (at ns k) ≡ key (at ms j)))
    → ((k : ℕ) → k < u → (j : ℕ) × (j < v) × (key (at ms j) ≡ key (at ns k)) × ((at ms j).hop ≡ (at ns k).hop))
    → holds ns u ≡ holds ms v
same_holds ms ns v u inm inn tm tn to from = fun_ext (λ q. go q (slot_of (at ns) u q) (slot_of (at ms) v q))
  where
    go : (q : List Bool) → ((i : ℕ) × (i < u) × (key (at ns i) ≡ q)) ⊎ ((i : ℕ) → i < u → key (at ns i) ≡ q → ⊥) → ((i : ℕ) × (i < v) × (key (at ms i) ≡ q)) ⊎ ((i : ℕ) → i < v → key (at ms i) ≡ q → ⊥) → holds ns u q ≡ holds ms v q
    go q (inl r) _ =
        let w : (j : ℕ) × (j < v) × (key (at ms j) ≡ key (at ns r.0)) × ((at ms j).hop ≡ (at ns r.0).hop) = from r.0 r.1 in
        holds_some ns u inn q r.0 r.1 r.2 (λ j hj ej. only (at ns) u tn q r.0 j r.1 hj r.2 ej) ∙ sym w.3
        ∙ sym (holds_some ms v inm q w.0 w.1 (w.2 ∙ r.2) (λ j hj ej. only (at ms) v tm q w.0 j w.1 hj (w.2 ∙ r.2) ej))
    go q (inr n) (inr r) = holds_none ns u inn q n ∙ sym (holds_none ms v inm q r)
    go q (inr n) (inl r) = holds_none ns u inn q n ∙ sym (elim (cases_hop (at ms r.0).hop) [
      | inl e ↦ holds_some ms v inm q r.0 r.1 r.2 (λ j hj ej. only (at ms) v tm q r.0 j r.1 hj r.2 ej) ∙ e
      | inr e ↦ (let w : (k : ℕ) × (k < u) × (key (at ns k) ≡ key (at ms r.0)) = to r.0 r.1 e in absurd (n w.0 w.1 (w.2 ∙ r.2)))
    ])
