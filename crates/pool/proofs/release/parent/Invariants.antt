use Rattle.std.proofs.Common.{length, ◌-◌, ◌<◌, ◌≢◌}
use Rattle.trie.specs.Nodes.{at}
use Rattle.trie.specs.Trie.{Under}
use Rattle.pool.proofs.release.parent.Given as goal

abbrev pub invariant-loop-key : goal.invariant-loop-key
invariant-loop-key l = (l.above < length l.ns) × (l.above ≢ l.slot) × Under (at l.ns l.above) (at l.ns l.slot)

abbrev pub decreases-loop-key : goal.decreases-loop-key
decreases-loop-key l = 128 - (at l.ns l.above).prefix.len
