use Rattle.std.proofs.Common.{length, ℕ, ◌-◌}
use Rattle.trie.specs.Nodes.{at}
use Rattle.trie.specs.Search.{Way}
use Rattle.trie.proofs.search.seek.Given as goal

abbrev pub invariant-loop-node : goal.invariant-loop-node
invariant-loop-node l = (d : ℕ) × Way (at l.ns) (length l.ns) l.key l.slot d

abbrev pub decreases-loop-node : goal.decreases-loop-node
decreases-loop-node l = 128 - (at l.ns l.slot).prefix.len
