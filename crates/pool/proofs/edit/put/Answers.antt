use Rattle.std.proofs.Common.{◌≡◌, ℕ, suc, ◌+◌, ◌≤◌, Bool, set, Some, None, sym, refl, ap, ◌∙◌, subst, arith}
use Rattle.bits.specs.declared.halves.Halves.{Halves}
use Rattle.model.proofs.MapLaws.{none≢some}
use Rattle.trie.specs.declared.node.Node.{Node}
use Rattle.trie.specs.Nodes.{at, node_bit, unlinked}
use Rattle.trie.specs.Trie.{Compressed}
use Rattle.trie.specs.Changes.{with_leaf, with_split, Placed}
use Rattle.trie.proofs.Entries.{placed_is}
use Rattle.trie.proofs.Placing.{placed_at, way_first, way_exact, way_leaf, way_above, way_fork}
use Rattle.pool.specs.declared.plan.Plan.{Plan}
use Rattle.pool.specs.Plans.{Suits, wanted}
use Rattle.pool.proofs.edit.put.Goals as goal

routed : (k : Node) (h : Halves) → k.hop ≡ Some h → k.hop ≡ None → ⊥
routed k h e z = none≢some h (sym z ∙ e)

pub returns-in-Root : goal.returns-in-Root
returns-in-Root c =
    let z : c.args.used ≡ 0 = subst (Suits c.args.ns.now c.args.used c.args.key) c.in-Root.is c.requires.suits in
    let f : c.args.used + 1 ≤ c.args.room = subst (λ (p : Plan). c.args.used + wanted p ≤ c.args.room) c.in-Root.is c.requires.fits in
    placed_is _ _ _ _ _ _ _ c.requires.some
    (subst (λ (u : ℕ). Placed c.args.ns.now u c.args.room c.args.key (set c.args.ns.now 0 c.args.key) 1) (sym z)
    (way_first c.args.ns.now c.args.room (subst (Compressed c.args.ns.now) z c.requires.trie) c.args.key c.requires.short c.requires.leaf (routed c.args.key c.args.hop c.requires.some) (omega arith) (omega arith)))

pub returns-in-Set : goal.returns-in-Set
returns-in-Set c =
    let s = subst (Suits c.args.ns.now c.args.used c.args.key) c.in-Set.is c.requires.suits in
    placed_is _ _ _ _ _ _ _ c.requires.some (placed_at c.args.ns.now c.args.used c.args.room c.args.key _ _ _ _ c.set_hop.ensures refl
    (way_exact c.args.ns.now c.args.used c.args.room c.requires.trie (omega (arith, c.requires.fits)) c.args.key c.requires.short c.requires.leaf (routed c.args.key c.args.hop c.requires.some) _ _ s.0
    (omega (arith, s.0.shared.left, s.1.0)) (omega (arith, s.0.shared.right, s.1.1))))

pub returns-in-Leaf : goal.returns-in-Leaf
returns-in-Leaf c =
    let s = subst (Suits c.args.ns.now c.args.used c.args.key) c.in-Leaf.is c.requires.suits in
    let f : c.args.used + 1 ≤ c.args.room = subst (λ (p : Plan). c.args.used + wanted p ≤ c.args.room) c.in-Leaf.is c.requires.fits in
    placed_is _ _ _ _ _ _ _ c.requires.some (placed_at c.args.ns.now c.args.used c.args.room c.args.key _ _ _ _
    (c.link.ensures ∙ ap (λ (b : Bool). with_leaf c.args.ns.now c.args.used c.in-Leaf.end.slot b c.args.key) c.bit_at-side.ensures) (omega arith)
    (way_leaf c.args.ns.now c.args.used c.args.room c.requires.trie (omega arith) c.args.key c.requires.short c.requires.leaf (routed c.args.key c.args.hop c.requires.some) _ _ s.0
    (omega arith) c.requires.within c.requires.few (omega (arith, s.0.shared.left, s.1.0)) s.1.1))

pub returns-in-Middle : goal.returns-in-Middle
returns-in-Middle c =
    let s = subst (Suits c.args.ns.now c.args.used c.args.key) c.in-Middle.is c.requires.suits in
    let f : c.args.used + 1 ≤ c.args.room = subst (λ (p : Plan). c.args.used + wanted p ≤ c.args.room) c.in-Middle.is c.requires.fits in
    placed_is _ _ _ _ _ _ _ c.requires.some (placed_at c.args.ns.now c.args.used c.args.room c.args.key _ _ _ _
    (c.split.ensures ∙ ap (λ (b : Bool). with_split c.args.ns.now c.args.used c.in-Middle.end.slot b c.args.key) c.bit_at-side-in-Middle.ensures) (omega arith)
    (way_above c.args.ns.now c.args.used c.args.room c.requires.trie (omega arith) c.args.key c.requires.short c.requires.leaf (routed c.args.key c.args.hop c.requires.some) _ _ s.0
    (omega arith) c.requires.within c.requires.few s.1.0 (omega (arith, s.0.shared.right, s.1.1))))

pub returns-in-Fork : goal.returns-in-Fork
returns-in-Fork c =
    let s = subst (Suits c.args.ns.now c.args.used c.args.key) c.in-Fork.is c.requires.suits in
    let f : c.args.used + 2 ≤ c.args.room = subst (λ (p : Plan). c.args.used + wanted p ≤ c.args.room) c.in-Fork.is c.requires.fits in
    let i : ℕ = c.in-Fork.end.slot in
    let m : ℕ = c.in-Fork.end.shared in
    let e : c.args.used + 1 ≡ suc c.args.used = omega arith in
    placed_is _ _ _ _ _ _ _ c.requires.some (placed_at c.args.ns.now c.args.used c.args.room c.args.key _ _ _ _
    (c.fork.ensures ∙ ap (λ (n : ℕ). with_leaf (with_split c.args.ns.now c.args.used i (node_bit (at c.args.ns.now i) m) (unlinked (record { bits = c.args.key.prefix.bits; len = m }) None)) n i (node_bit c.args.key m) c.args.key) e) (omega arith)
    (way_fork c.args.ns.now c.args.used c.args.room c.requires.trie (omega arith) c.args.key c.requires.short c.requires.leaf (routed c.args.key c.args.hop c.requires.some) _ _ s.0
    (omega arith) c.requires.within c.requires.few s.1.0 s.1.1))
