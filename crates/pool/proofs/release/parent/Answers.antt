use Rattle.std.proofs.Common.{length, ◌<◌, ◌≤◌, sym, refl, ap, ◌∙◌, lt_of_lt_of_le, lt_irrefl, arith}
use Rattle.trie.specs.Nodes.{at, slot_of, child}
use Rattle.trie.proofs.Nodes.{is_link}
use Rattle.trie.proofs.Moves.{down, down_len, Step}
use Rattle.pool.proofs.release.parent.Goals as goal

pub loop-key-init : goal.loop-key-init
loop-key-init c = (omega (arith, c.requires.slot, c.requires.lower), omega (arith, c.requires.lower), c.requires.trie.top c.args.slot c.requires.slot)

pub bit_at-side-requires : goal.bit_at-side-requires
bit_at-side-requires c =
    lt_of_lt_of_le (down_len _ _ c.requires.trie c.loop-key.above c.args.slot c.loop-key.invariant.0 c.requires.slot c.loop-key.invariant.1 c.loop-key.invariant.2) (c.requires.trie.short c.args.slot c.requires.slot)

pub unwrap-requires : goal.unwrap-requires
unwrap-requires c =
    let there = down _ _ c.requires.trie c.loop-key.above c.args.slot (child c.bit_at-side.result (at c.args.ns.now c.loop-key.above)) c.bit_at-side.result c.loop-key.invariant.0 c.requires.slot c.loop-key.invariant.1 c.loop-key.invariant.2
    c.bit_at-side.ensures refl in
    is_link _ (λ z. lt_irrefl 65535 (omega (arith, there.slot, ap slot_of (sym c.child_without_jump.ensures) ∙ z, c.requires.trie.few)))

pub returns-then-next-slot : goal.returns-then-next-slot
returns-then-next-slot c = record { slot = c.loop-key.invariant.0; link = ap slot_of (sym c.child_without_jump.ensures ∙ c.unwrap.ensures) ∙ sym c.from-next.ensures ∙ c.if-next-slot.true }

step : (c : goal.Else-next-slot) → Step (at c.args.ns.now) (length c.args.ns.now) c.loop-key.above c.args.slot c.from-next.result
step c =
    down _ _ c.requires.trie c.loop-key.above c.args.slot c.from-next.result c.bit_at-side.result c.loop-key.invariant.0 c.requires.slot c.loop-key.invariant.1 c.loop-key.invariant.2
    c.bit_at-side.ensures (c.from-next.ensures ∙ ap slot_of (sym c.unwrap.ensures ∙ c.child_without_jump.ensures))

pub loop-key-preserved : goal.loop-key-preserved
loop-key-preserved c = ((step c).slot, c.if-next-slot.false, (step c).under)

pub loop-key-smaller : goal.loop-key-smaller
loop-key-smaller c =
    let l : (at c.args.ns.now c.loop-key.above).prefix.len < (at c.args.ns.now c.from-next.result).prefix.len = (step c).longer in
    let s : (at c.args.ns.now c.from-next.result).prefix.len ≤ 128 = c.requires.trie.short c.from-next.result (step c).slot in
    omega (arith, l, s)
