use Rattle.std.proofs.Common.{sym, ap, ◌∙◌}
use Rattle.trie.specs.Nodes.{slot_of}
use Rattle.trie.proofs.Nodes.{is_link}
use Rattle.trie.proofs.Pruning.{pulled_up}
use Rattle.pool.proofs.release.pull.Goals as goal

pub unwrap-requires : goal.unwrap-requires
unwrap-requires c = is_link _ (λ z. c.requires.one (ap slot_of (sym c.child.ensures) ∙ z))

pub returns : goal.returns
returns c =
    pulled_up c.args.ns.now c.exchange.new.ns c.args.used c.args.slot c.from-lower.result c.args.side c.requires.loose c.requires.slot c.requires.none c.requires.one c.requires.other
    (c.from-lower.ensures ∙ ap slot_of (sym c.unwrap.ensures ∙ c.child.ensures)) c.exchange.ensures c.moved-to.result c.moved-to.ensures
