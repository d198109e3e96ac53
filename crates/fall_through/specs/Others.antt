-- The table of a fall-through to which a call does not go.
use Rattle.std.specs.Prelude.{ℕ, ◌<◌, ◌≤◌, Some, None}
use Rattle.model.specs.Machine.{Answer}

-- with k planes in the upper table, an act on plane i leaves the other table exactly as it is
abbrev pub OtherStays : ℕ → ℕ → Type 0 → Type 0 → Type 0
OtherStays k i upper_stays lower_stays = (i < k → lower_stays) × (k ≤ i → upper_stays)

-- a lookup to which the upper table has this answer leaves the lower one exactly as it is, unless that answer is none
abbrev pub LowerStays : Answer → Type 0 → Type 0
LowerStays None lower_stays = Unit {0}
LowerStays (Some x) lower_stays = lower_stays
