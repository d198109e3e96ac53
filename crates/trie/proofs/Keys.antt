-- Prefixes as lists of bits, and what a list of nodes holds.
use Rattle.std.proofs.Common.{◌≡◌, ℕ, zero, suc, ◌<◌, ◌≤◌, Bool, true, false, ◌⊎◌, List, [], ◌∷◌, length, get_or, take, Some, None, Option, sym, refl, ap, ◌∙◌, subst, inl, inr, suc-le-suc, le_refl, le_of_suc-le-suc, not-suc-le-zero, arith}
use Rattle.std.proofs.lemmas.Bool.{cases_lt, cases_Bool, cond-true, cond-false, true≢false}
use Rattle.std.proofs.lemmas.List.{get_or-take, ext_get_or, length-take-le}
use Rattle.bits.specs.Bits.{Bits, equal}
use Rattle.bits.specs.Halves.{word}
use Rattle.bits.specs.declared.halves.Halves.{Halves}
use Rattle.bits.proofs.Orders.{equal_self, equal_is}
use Rattle.bits.proofs.Fronts.{front_is, front_length}
use Rattle.model.specs.Maps.{Map, held, Rising}
use Rattle.model.proofs.MapLaws.{put_holds, put_rises}
use Rattle.trie.specs.declared.node.Node.{Node}
use Rattle.trie.specs.Nodes.{at, node_bit, key, blank, with_route, collected, holds}
use Rattle.trie.specs.Trie.{Agree, Trie, Beyond, Under}
use Rattle.trie.specs.Search.{Found}

pub key_length : (n : Node) → n.prefix.len ≤ 128 → length (key n) ≡ n.prefix.len
unfolding key
key_length n h = front_length n.prefix.len n.prefix.bits h

pub key_at : (n : Node) (k : ℕ) → n.prefix.len ≤ 128 → k < n.prefix.len → get_or (key n) k false ≡ node_bit n k
unfolding key
key_at n k s h = ap (λ (l : Bits). get_or l k false) (front_is n.prefix.len n.prefix.bits) ∙ get_or-take n.prefix.len (word n.prefix.bits) k false h

pub key_same : (a b : Node) → a.prefix.len ≤ 128 → a.prefix.len ≡ b.prefix.len → Agree a.prefix.len (node_bit a) (node_bit b) → key a ≡ key b
key_same a b s e g = ext_get_or false (key a) (key b) (key_length a s ∙ e ∙ sym (key_length b (omega arith)))
    (λ k h. let l : k < a.prefix.len = omega (arith, key_length a s) in key_at a k s l ∙ g k l ∙ sym (key_at b k (omega arith) (omega arith)))

pub key_size : (a b : Node) → a.prefix.len ≤ 128 → b.prefix.len ≤ 128 → key a ≡ key b → a.prefix.len ≡ b.prefix.len
key_size a b p q e = sym (key_length a p) ∙ ap length e ∙ key_length b q

pub key_agree : (a b : Node) → a.prefix.len ≤ 128 → b.prefix.len ≤ 128 → key a ≡ key b → Agree a.prefix.len (node_bit a) (node_bit b)
key_agree a b p q e k h = sym (key_at a k p h) ∙ ap (λ (l : List Bool). get_or l k false) e ∙ key_at b k q (omega (arith, key_size a b p q e))

-- the test of two prefixes
pub equal_eq : (p q : Bits) → p ≡ q → equal p q ≡ true
equal_eq p q e = subst (λ (l : Bits). equal p l ≡ true) e (equal_self p)

pub equal_ne : (p q : Bits) → (p ≡ q → ⊥) → equal p q ≡ false
equal_ne p q ne = elim (cases_Bool (equal p q)) [ inl e ↦ absurd (ne (equal_is p q e)) | inr e ↦ e ]

-- the routes of some nodes, by what they hold at a prefix
module _ (n : Node) (m : Map Halves) (p : Bits) where
  skipped : (o : Option Halves) → (key n ≡ p → ⊥) → held (with_route o (key n) m) p ≡ held m p
  skipped None ne = refl
  skipped (Some h) ne = put_holds m (key n) h p ∙ cond-false _ _ _ (equal_ne p (key n) (λ e. ne (sym e)))

  taken : (o : Option Halves) → key n ≡ p → held m p ≡ None → held (with_route o (key n) m) p ≡ o
  taken None e z = z
  taken (Some h) e z = put_holds m (key n) h p ∙ cond-true _ _ _ (equal_eq p (key n) (sym e))

collected_none : (ns : List Node) (p : Bits) → ((i : ℕ) → i < length ns → key (at ns i) ≡ p → ⊥) → held (collected ns) p ≡ None
collected_none [] p h = refl
collected_none (n ∷ ns) p h = skipped n (collected ns) p n.hop (h 0 (omega arith)) ∙ collected_none ns p (λ i l. h (suc i) (suc-le-suc l))

collected_some : (ns : List Node) (p : Bits) (i : ℕ) → i < length ns → key (at ns i) ≡ p → ((j : ℕ) → j < length ns → key (at ns j) ≡ p → j ≡ i) → held (collected ns) p ≡ (at ns i).hop
collected_some [] p i l e u = absurd (not-suc-le-zero l)
collected_some (n ∷ ns) p zero l e u = taken n (collected ns) p n.hop e (collected_none ns p (λ j h q. let z : suc j ≡ 0 = u (suc j) (suc-le-suc h) q in omega arith))
collected_some (n ∷ ns) p (suc i) l e u =
    skipped n (collected ns) p n.hop (λ q. let z : 0 ≡ suc i = u 0 (omega arith) q in omega arith)
    ∙ collected_some ns p i (le_of_suc-le-suc l) e (λ j h q. let z : suc j ≡ suc i = u (suc j) (suc-le-suc h) q in omega arith)

pub collected_rises : (ns : List Node) → Rising (collected ns)
collected_rises [] = tt
collected_rises (n ∷ ns) = go (collected_rises ns) n.hop
  where
    go : Rising (collected ns) → (o : Option Halves) → Rising (with_route o (key n) (collected ns))
    go r None = r
    go r (Some h) = put_rises (collected ns) (key n) h r

module _ (ns : List Node) (used : ℕ) (within : used ≤ length ns) where
  slot : (i : ℕ) → i < used → at (take used ns) i ≡ at ns i
  slot i h = get_or-take used ns i blank h

  slots_length : length (take used ns) ≡ used
  slots_length = length-take-le used ns within

  pub holds_none : (p : List Bool) → ((i : ℕ) → i < used → key (at ns i) ≡ p → ⊥) → holds ns used p ≡ None
  holds_none p h = collected_none (take used ns) p (λ i l e. let k : i < used = omega (arith, slots_length) in h i k (ap key (sym (slot i k)) ∙ e))

  pub holds_some : (p : List Bool) (i : ℕ) → i < used → key (at ns i) ≡ p → ((j : ℕ) → j < used → key (at ns j) ≡ p → j ≡ i) → holds ns used p ≡ (at ns i).hop
  holds_some p i l e u =
      collected_some (take used ns) p i (omega (arith, slots_length)) (ap key (slot i l) ∙ e) (λ j h q. let k : j < used = omega (arith, slots_length) in u j k (ap key (sym (slot j k)) ∙ q))
      ∙ ap (λ (n : Node). n.hop) (slot i l)

-- whether one of the first slots has the prefix p
pub slot_of : (f : ℕ → Node) (used : ℕ) (p : List Bool) → ((i : ℕ) × (i < used) × (key (f i) ≡ p)) ⊎ ((i : ℕ) → i < used → key (f i) ≡ p → ⊥)
slot_of f zero p = inr (λ i h e. not-suc-le-zero h)
slot_of f (suc n) p = elim (cases_Bool (equal (key (f n)) p)) [
  | inl e ↦ inl (n, le_refl _, equal_is (key (f n)) p e)
  | inr e ↦ (elim (slot_of f n p) [ inl r ↦ inl (r.0, omega (arith, r.1), r.2) | inr r ↦ inr (λ i h q. elim (cases_lt i n) [ inl l ↦ r i l q | inr l ↦ (let z : i ≡ n = omega arith in true≢false (sym (equal_eq (key (f n)) p (ap (λ (m : ℕ). key (f m)) (sym z) ∙ q)) ∙ e)) ]) ])
]

-- in a trie, one slot at most has a prefix
pub only : (f : ℕ → Node) (used : ℕ) → Trie f used → (p : List Bool) (i j : ℕ) → i < used → j < used → key (f i) ≡ p → key (f j) ≡ p → j ≡ i
only f used t p i j hi hj ei ej = t.apart j i hj hi (key_size (f j) (f i) (t.short j hj) (t.short i hi) (ej ∙ sym ei)) (key_agree (f j) (f i) (t.short j hj) (t.short i hi) (ej ∙ sym ei))

-- a search that does not end at the key's own slot: no slot has the key
pub found_none : (f : ℕ → Node) (used : ℕ) → Trie f used → (n : Node) (i c : ℕ) → n.prefix.len ≤ 128 → Found f used n i c → ((c ≡ (f i).prefix.len) × (c ≡ n.prefix.len) → ⊥) → (j : ℕ) → j < used → key (f j) ≡ key n → ⊥
found_none f used t n i c short r ne j l e = go (cases_lt c (f i).prefix.len) (cases_lt c n.prefix.len)
  where
    size : (f j).prefix.len ≡ n.prefix.len
    size = key_size (f j) n (t.short j l) short e

    agree : Agree (f j).prefix.len (node_bit (f j)) (node_bit n)
    agree = key_agree (f j) n (t.short j l) short e

    under : Under (f i) (f j)
    under = r.below j l (omega (arith, r.shared.right, size)) (λ k h. agree k (omega (arith, r.shared.right, size)))

    go : (c < (f i).prefix.len) ⊎ ((f i).prefix.len ≤ c) → (c < n.prefix.len) ⊎ (n.prefix.len ≤ c) → ⊥
    go (inl a) (inl b) = r.shared.differ a b (under.same c a ∙ agree c (omega (arith, size)))
    go (inl a) (inr b) = omega (arith, under.long, size, r.shared.right)
    go (inr a) (inr b) = ne (omega (arith, r.shared.left), omega (arith, r.shared.right))
    go (inr a) (inl b) =
        let z : c ≡ (f i).prefix.len = omega (arith, r.shared.left) in
        let y : Beyond (node_bit n c) (f i) (f j) = record { long = omega (arith, size); same = under.same; side = subst (λ (m : ℕ). node_bit (f j) m ≡ node_bit n c) z (agree c (omega (arith, size))) } in
        omega (arith, (t.full (node_bit n c) i j r.slot l y).0, r.stop z b, t.few)
