use Rattle.std.proofs.Common.{List, sym, subst}
use Rattle.trie.specs.declared.node.Node.{Node}
use Rattle.trie.specs.Changes.{Loose, Pruned}
use Rattle.trie.proofs.Pruning.{cleared, dropped}
use Rattle.trie.proofs.Entries.{dropped_is}
use Rattle.pool.proofs.edit.take.Goals as goal

pub release-requires-clause-loose : goal.release-requires-clause-loose
release-requires-clause-loose c = subst (λ (ms : List Node). Loose ms c.args.used c.args.slot) (sym c.clear.ensures) (cleared c.args.ns.now c.args.used c.args.slot c.requires.trie c.requires.slot)

pub returns : goal.returns
returns c =
    dropped_is _ _ _ _ _ (dropped _ _ c.requires.trie _ c.args.slot c.requires.slot c.requires.same c.requires.routed _ _
    (subst (λ (ms : List Node). Pruned ms c.args.used c.release.new.ns c.release.result) c.clear.ensures c.release.ensures))
