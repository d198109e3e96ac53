use Rattle.std.proofs.Common.{◌-◌, length, None}
use Rattle.trie.specs.Nodes.{at, unlinked}
use Rattle.trie.specs.Search.{Reaches}
use Rattle.trie.proofs.search.route.Given as goal

abbrev pub invariant-loop-sought : goal.invariant-loop-sought
invariant-loop-sought l = Reaches (at l.ns) (length l.ns) (unlinked l.sought None) l.from l.slot

abbrev pub decreases-loop-sought : goal.decreases-loop-sought
decreases-loop-sought l = 128 - (at l.ns l.slot).prefix.len
