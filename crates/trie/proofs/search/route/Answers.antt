use Rattle.std.proofs.Common.{sym, ◌∙◌}
use Rattle.trie.proofs.Exact.{none_seen}
use Rattle.trie.proofs.Scans.{reach_next}
use Rattle.trie.proofs.search.route.Goals as goal

pub loop-sought-preserved : goal.loop-sought-preserved
loop-sought-preserved c = reach_next _ _ c.requires.trie _ _ c.loop-sought.slot _ c.loop-sought.invariant (none_seen _ (sym c.is_some.ensures ∙ c.if-is_some.false)) c.in_ok-slot.ensures
