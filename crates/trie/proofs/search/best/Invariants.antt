use Rattle.std.proofs.Common.{◌-◌, length, None}
use Rattle.trie.specs.Nodes.{at, unlinked}
use Rattle.trie.specs.Search.{Scan}
use Rattle.trie.proofs.search.best.Given as goal

abbrev pub invariant-loop-slot : goal.invariant-loop-slot
invariant-loop-slot l = Scan (at l.ns) (length l.ns) (unlinked l.sought None) l.from l.known

abbrev pub decreases-loop-slot : goal.decreases-loop-slot
decreases-loop-slot l = 128 - (at l.ns l.from).prefix.len
