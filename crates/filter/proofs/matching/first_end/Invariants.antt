use Rattle.std.proofs.Common.{◌≡◌, ℕ, ◌<◌, false, get_or, None}
use Rattle.bits.specs.Halves.{front}
use Rattle.filter.specs.Policies.{ends}
use Rattle.filter.proofs.matching.first_end.Given as goal

-- the search ends at none of the places so far
abbrev pub invariant-loop-i : goal.invariant-loop-i
invariant-loop-i l = (k : ℕ) → k < l.i → ends (get_or l.rules k None) (front l.route.len l.route.bits) ≡ false
