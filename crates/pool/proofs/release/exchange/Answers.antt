use Rattle.std.proofs.Common.{◌-◌, arith}
use Rattle.trie.proofs.InUse.{trie_in_use, parent_in_use}
use Rattle.trie.proofs.Moves.{moved_by}
use Rattle.pool.proofs.release.exchange.Goals as goal

pub parent-to_last-requires-clause-trie : goal.parent-to_last-requires-clause-trie
parent-to_last-requires-clause-trie c = trie_in_use _ _ c.requires.within c.requires.trie

pub parent-to_slot-requires-clause-trie : goal.parent-to_slot-requires-clause-trie
parent-to_slot-requires-clause-trie c = trie_in_use _ _ c.requires.within c.requires.trie

pub returns : goal.returns
returns c =
    moved_by c.args.ns.now c.args.used c.args.slot (c.args.used - 1) c.parent-to_last.result.slot c.parent-to_slot.result.slot c.parent-to_last.result.side c.parent-to_slot.result.side
    c.requires.within c.requires.trie c.requires.slot (omega (arith, c.requires.slot)) c.if-slot-last.false
    (parent_in_use _ _ c.requires.within _ _ _ c.parent-to_last.ensures) (parent_in_use _ _ c.requires.within _ _ _ c.parent-to_slot.ensures)
    c.linked.result c.linked-2.result c.linked.ensures c.linked-2.ensures c.swap.new.self c.swap.ensures.len
    c.swap.ensures.by_index.0 c.swap.ensures.by_index.1 c.swap.ensures.by_index.2
