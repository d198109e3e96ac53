-- When two tables make no fall-through.
use Rattle.std.specs.Prelude.{ℕ}
use Rattle.fall_through.specs.declared.refusal.TooManyPlanes.{TooManyPlanes}

-- the number of the refusal: more than eight planes
abbrev pub number : {U L : Type 0} → TooManyPlanes U L → ℕ
number e = 18
