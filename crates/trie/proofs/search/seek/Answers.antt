use Rattle.std.proofs.Common.{◌≡◌, length, suc, ◌<◌, ◌≤◌, Bool, Some, sym, ap, ◌∙◌, arith}
use Rattle.trie.specs.Nodes.{at, node_bit, link, slot_of, child}
use Rattle.trie.specs.Search.{Way}
use Rattle.trie.proofs.Commons.{shared_is}
use Rattle.trie.proofs.Nodes.{linked, way_found, way_next}
use Rattle.trie.proofs.search.seek.Goals as goal
use Rattle.trie.proofs.search.seek.Goals.{then-both-node-via-then-both-node, then-both-node-via-else-both-node+then-both-key}

pub returns-then-both-node : goal.returns-then-both-node
returns-then-both-node c = way_found _ _ c.requires.trie _ _ _ _ c.loop-node.invariant.1
    (shared_is (at c.args.ns.now c.loop-node.slot) c.args.key.now c.common_len-both.result (c.requires.trie.short _ c.loop-node.invariant.1.slot) c.requires.short c.common_len-both.ensures)
    (λ e l. absurd (elim c.then-both-node.branch [ then-both-node-via-then-both-node w ↦ omega (arith, w.if-both-node.true, e) | then-both-node-via-else-both-node+then-both-key w ↦ omega (arith, w.if-both-key.true, l) ]))

pub returns-in_default : goal.returns-in_default
returns-in_default c = way_found _ _ c.requires.trie _ _ _ _ c.loop-node.invariant.1
    (shared_is (at c.args.ns.now c.loop-node.slot) c.args.key.now c.common_len-both.result (c.requires.trie.short _ c.loop-node.invariant.1.slot) c.requires.short c.common_len-both.ensures)
    (λ e l. ap (λ (s : Bool). child s (at c.args.ns.now c.loop-node.slot)) (sym c.bit_at.ensures) ∙ ap slot_of (sym c.child.ensures ∙ c.in_default.is))

next : (c : goal.After-from-slot) → (Way (at c.args.ns.now) (length c.args.ns.now) c.args.key.now c.in-Some.next (suc (at c.args.ns.now c.loop-node.slot).prefix.len))
    × ((at c.args.ns.now c.loop-node.slot).prefix.len < (at c.args.ns.now c.in-Some.next).prefix.len)
next c =
    let there : link (node_bit c.args.key.now c.common_len-both.result) (at c.args.ns.now c.loop-node.slot) ≡ Some c.in-Some.next =
    ap (λ (s : Bool). link s (at c.args.ns.now c.loop-node.slot)) (sym c.bit_at.ensures) ∙ sym c.child.ensures ∙ c.in-Some.is in
    way_next _ _ c.requires.trie _ c.loop-node.slot _ c.common_len-both.result c.in-Some.next c.loop-node.invariant.1
    (shared_is (at c.args.ns.now c.loop-node.slot) c.args.key.now c.common_len-both.result (c.requires.trie.short _ c.loop-node.invariant.1.slot) c.requires.short c.common_len-both.ensures)
    c.if-both-node.false c.if-both-key.false
    (sym (ap slot_of there)) (λ z. linked _ _ c.requires.trie _ _ _ c.loop-node.invariant.1.slot there (ap slot_of there ∙ z))

pub loop-node-preserved : goal.loop-node-preserved
loop-node-preserved c = rw c.from-slot.ensures (_, (next c).0)

pub loop-node-smaller : goal.loop-node-smaller
loop-node-smaller c =
    let short : (at c.args.ns.now c.in-Some.next).prefix.len ≤ 128 = c.requires.trie.short c.in-Some.next (next c).0.slot in
    let lt : (at c.args.ns.now c.loop-node.slot).prefix.len < (at c.args.ns.now c.in-Some.next).prefix.len = (next c).1 in
    rw c.from-slot.ensures (omega (arith, short, lt))
