use Rattle.trie.proofs.InUse.{trie_in_use, parent_in_use}
use Rattle.trie.proofs.Pruning.{unlinked_leaf}
use Rattle.pool.proofs.release.unlink.Goals as goal

pub parent-edge-requires-clause-trie : goal.parent-edge-requires-clause-trie
parent-edge-requires-clause-trie c = trie_in_use _ _ c.requires.loose.within c.requires.loose.trie

pub returns : goal.returns
returns c =
    unlinked_leaf c.args.ns.now c.exchange.new.ns c.args.used c.args.slot c.parent-edge.result.slot c.parent-edge.result.side c.requires.loose c.requires.slot c.requires.lower c.requires.none c.requires.leaf
    (parent_in_use _ _ c.requires.loose.within _ _ _ c.parent-edge.ensures) c.exchange.ensures c.moved-to.result c.linked.result c.moved-to.ensures c.linked.ensures
