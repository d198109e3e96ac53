-- The answer of a lookup is no longer than the bound. Assumes nothing.
use Rattle.std.proofs.Common.{◌≡◌, ℕ, ◌≤◌, min, Some, None, Option, refl, ap, arith}
use Rattle.bits.specs.Bits.{Bits}
use Rattle.model.specs.Maps.{Visible}
use Rattle.model.specs.Longest.{answer}
use Rattle.model.proofs.FilterLaws.{answer_within}

-- a length past n cut down to n
abbrev pub at_most : {V : Type 0} → ℕ → Option (ℕ × V) → Option (ℕ × V)
at_most n None = None
at_most n (Some x) = Some (min x.0 n, x.1)

-- there is nothing to cut off: an equation for an answer, from which `grind` reads that a route found is within the bound
pub answer_at_most : {V : Type 0} (s : Visible V) (a : Bits) (n : ℕ) → answer s a n ≡ at_most n (answer s a n)
answer_at_most {V} s a n = go (answer s a n) refl
  where
    go : (x : Option (ℕ × V)) → answer s a n ≡ x → x ≡ at_most n x
    go None e = refl
    go (Some x) e =
        let l : x.0 ≤ n = answer_within s a n x.0 x.1 e in
        let k : x.0 ≡ min x.0 n = omega arith in
        ap (λ m. Some (m, x.1)) k
