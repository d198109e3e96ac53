-- The bits that two addresses have in common, by the tests of the code. Assumes nothing.
use Rattle.std.proofs.Common.{◌≡◌, ℕ, zero, suc, ◌<◌, ◌≤◌, min, Bool, true, false, ◌&&◌, leb, ◌≢◌, [], ◌∷◌, length, get_or, take, None, sym, refl, ap, ◌∙◌, subst, le_of_suc-le-suc, not-suc-le-zero, arith}
use Rattle.std.proofs.lemmas.Bool.{true≢false, false≢true, and_parts, and_from, leb-true, le-leb}
use Rattle.std.proofs.lemmas.List.{get_or-take, ext_get_or, length-take-le}
use Rattle.bits.specs.Bits.{Bits, covers, common}
use Rattle.bits.specs.Halves.{word, front}
use Rattle.bits.specs.declared.front.Front.{Front}
use Rattle.bits.specs.declared.halves.Halves.{Halves}
use Rattle.bits.proofs.Strings.{covers_starts, starts_covers}
use Rattle.bits.proofs.Fronts.{word_length, front_is, front_length}
use Rattle.trie.specs.declared.node.Node.{Node}
use Rattle.trie.specs.Nodes.{node_bit, unlinked}
use Rattle.trie.specs.Trie.{Agree, Under}
use Rattle.trie.specs.Search.{Shared}

common_agrees : (u v : Bits) (k : ℕ) → k < length (common u v) → get_or u k false ≡ get_or v k false
common_agrees [] v k h = absurd (not-suc-le-zero h)
common_agrees (x ∷ u) [] k h = absurd (not-suc-le-zero h)
common_agrees (false ∷ u) (false ∷ v) zero h = refl
common_agrees (false ∷ u) (false ∷ v) (suc k) h = common_agrees u v k (le_of_suc-le-suc h)
common_agrees (false ∷ u) (true ∷ v) k h = absurd (not-suc-le-zero h)
common_agrees (true ∷ u) (false ∷ v) k h = absurd (not-suc-le-zero h)
common_agrees (true ∷ u) (true ∷ v) zero h = refl
common_agrees (true ∷ u) (true ∷ v) (suc k) h = common_agrees u v k (le_of_suc-le-suc h)

common_differs : (u v : Bits) → length (common u v) < length u → length (common u v) < length v → get_or u (length (common u v)) false ≢ get_or v (length (common u v)) false
common_differs [] v l m = absurd (not-suc-le-zero l)
common_differs (x ∷ u) [] l m = absurd (not-suc-le-zero m)
common_differs (false ∷ u) (false ∷ v) l m = common_differs u v (le_of_suc-le-suc l) (le_of_suc-le-suc m)
common_differs (false ∷ u) (true ∷ v) l m = false≢true
common_differs (true ∷ u) (false ∷ v) l m = true≢false
common_differs (true ∷ u) (true ∷ v) l m = common_differs u v (le_of_suc-le-suc l) (le_of_suc-le-suc m)

-- how many first bits two nodes share
pub shared_is : (a b : Node) (c : ℕ) → a.prefix.len ≤ 128 → b.prefix.len ≤ 128 → c ≡ min (min (length (common (word a.prefix.bits) (word b.prefix.bits))) a.prefix.len) b.prefix.len → Shared a b c
shared_is a b c p q e = record {
  left = omega arith;
  right = omega arith;
  same = λ k h. common_agrees (word a.prefix.bits) (word b.prefix.bits) k (omega arith);
  differ = λ l m. let z : c ≡ length (common (word a.prefix.bits) (word b.prefix.bits)) = omega arith in
      subst (λ (n : ℕ). node_bit a n ≢ node_bit b n) (sym z)
      (common_differs (word a.prefix.bits) (word b.prefix.bits) (omega (arith, word_length a.prefix.bits)) (omega (arith, word_length b.prefix.bits)));
}

-- a prefix covers an address where the bits agree
pub covers_agree : (n : ℕ) (p a : Halves) → n ≤ 128 → covers (front n p) (word a) ≡ true → Agree n (λ k. get_or (word p) k false) (λ k. get_or (word a) k false)
covers_agree n p a l e k h =
    let f = (covers_starts (front n p) (word a) e).1 in
    let s : length (front n p) ≡ n = front_length n p l in
    sym (get_or-take n (word p) k false h) ∙ ap (λ (x : Bits). get_or x k false) (sym (front_is n p) ∙ f) ∙ get_or-take (length (front n p)) (word a) k false (omega arith)

pub agree_covers : (n : ℕ) (p a : Halves) → n ≤ 128 → Agree n (λ k. get_or (word p) k false) (λ k. get_or (word a) k false) → covers (front n p) (word a) ≡ true
agree_covers n p a l g =
    let s : length (front n p) ≡ n = front_length n p l in
    let t : length (take (length (front n p)) (word a)) ≡ length (front n p) = length-take-le (length (front n p)) (word a) (omega (arith, word_length a)) in
    starts_covers (front n p) (word a) (ext_get_or false (front n p) (take (length (front n p)) (word a)) (sym t)
    (λ k h. ap (λ (x : Bits). get_or x k false) (front_is n p) ∙ get_or-take n (word p) k false (omega arith) ∙ g k (omega arith) ∙ sym (get_or-take (length (front n p)) (word a) k false h)))

-- the test of a lookup: the node's prefix covers the address within the bound
module _ (n : Node) (a : Front) (t : Bool) (short : n.prefix.len ≤ 128) (is : t ≡ (leb n.prefix.len a.len && covers (front n.prefix.len n.prefix.bits) (word a.bits))) where
  pub reached : t ≡ true → Under n (unlinked a None)
  reached e =
      let r = and_parts _ _ (sym is ∙ e) in
      record { long = leb-true _ _ r.0; same = covers_agree n.prefix.len n.prefix.bits a.bits short r.1 }

  pub not_reached : t ≡ false → Under n (unlinked a None) → ⊥
  not_reached e u = true≢false (sym (and_from _ _ (le-leb _ _ u.long) (agree_covers n.prefix.len n.prefix.bits a.bits short u.same)) ∙ sym is ∙ e)
