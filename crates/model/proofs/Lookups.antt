-- When a lookup is refused. Assumes nothing.
use Rattle.std.proofs.Common.{◌≡◌, ℕ, ◌≤◌, Bool, true, false, cond, leb, length, Some, None, refl, arith}
use Rattle.std.proofs.lemmas.Bool.{leb-true}
use Rattle.bits.specs.Bits.{Bits}
use Rattle.model.specs.Longest.{answer}
use Rattle.model.specs.Machine.{Answer, lookup, found, refused, unless_refused}
use Rattle.model.proofs.Steps.{At, Step}

module _ (s t : At) (a : Bits) (b : ℕ) where
  -- one that is refused has a bound past the address's width
  pub refused_long : (n : ℕ) → Step s t (lookup a b) (refused n) → leb b (length a) ≡ false
  refused_long n f = go (leb b (length a)) f.reply
    where
      go : (z : Bool) → refused n ≡ unless_refused (cond z None (Some 12)) (found (answer (s.view s.planes) a b)) → z ≡ false
      go true e = let z : ◌≡◌ {A = ℕ} 0 1 = cc in absurd (omega arith)
      go false e = refl

  -- and one that is answered has not
  pub found_short : (x : Answer) → Step s t (lookup a b) (found x) → b ≤ length a
  found_short x f = go (leb b (length a)) refl f.reply
    where
      go : (z : Bool) → leb b (length a) ≡ z → found x ≡ unless_refused (cond z None (Some 12)) (found (answer (s.view s.planes) a b)) → b ≤ length a
      go true h e = leb-true b (length a) h
      go false h e = let z : ◌≡◌ {A = ℕ} 0 1 = cc in absurd (omega arith)

  pub found_answer : (x : Answer) → Step s t (lookup a b) (found x) → x ≡ answer (s.view s.planes) a b
  found_answer x f = go (leb b (length a)) f.reply
    where
      go : (z : Bool) → found x ≡ unless_refused (cond z None (Some 12)) (found (answer (s.view s.planes) a b)) → x ≡ answer (s.view s.planes) a b
      go true e = cc
      go false e = let z : ◌≡◌ {A = ℕ} 0 1 = cc in absurd (omega arith)
