use Rattle.trie.specs.Nodes.{at}
use Rattle.trie.proofs.Commons.{reached, not_reached}
use Rattle.trie.proofs.Scans.{scan_off, scan_last, scan_next}
use Rattle.trie.proofs.search.best.Goals as goal

pub returns-then-not-matches : goal.returns-then-not-matches
returns-then-not-matches c =
    scan_off _ _ c.requires.trie _ c.loop-slot.from c.in-Some.slot c.loop-slot.known c.loop-slot.invariant c.in-Some.ensures
    (not_reached (at c.args.ns.now c.in-Some.slot) c.args.sought c.matches.result (c.requires.trie.trie.short _ c.in-Some.ensures.0.slot) c.matches.ensures c.if-not-matches.true)

pub returns-in_default-below : goal.returns-in_default-below
returns-in_default-below c =
    scan_last _ _ c.requires.trie _ c.loop-slot.from c.in-Some.slot c.loop-slot.known c.loop-slot.invariant c.in-Some.ensures
    (reached (at c.args.ns.now c.in-Some.slot) c.args.sought c.matches.result (c.requires.trie.trie.short _ c.in-Some.ensures.0.slot) c.matches.ensures c.if-not-matches.false)
    c.in_default-below.ensures

pub loop-slot-preserved : goal.loop-slot-preserved
loop-slot-preserved c =
    scan_next _ _ c.requires.trie _ c.loop-slot.from c.in-Some.slot c.loop-slot.known c.loop-slot.invariant c.in-Some.ensures
    (reached (at c.args.ns.now c.in-Some.slot) c.args.sought c.matches.result (c.requires.trie.trie.short _ c.in-Some.ensures.0.slot) c.matches.ensures c.if-not-matches.false)
    _ c.in-Some-below.ensures
