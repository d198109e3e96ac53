use Rattle.std.proofs.Common.{length, sym, ap, ◌∙◌}
use Rattle.trie.specs.Nodes.{holds}
use Rattle.trie.proofs.Rooms.{slot_holds}
use Rattle.trie.proofs.search.find.Goals as goal

pub returns : goal.returns
returns c =
    sym (slot_holds _ _ c.requires.trie _ c.in_ok-slot.ensures.0) ∙ ap (holds c.args.ns.now (length c.args.ns.now)) c.in_ok-slot.ensures.1
