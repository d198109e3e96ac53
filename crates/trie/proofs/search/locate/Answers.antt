use Rattle.std.proofs.Common.{length, ◌≡◌, is_some, sym, ap, ◌∙◌, arith}
use Rattle.std.proofs.lemmas.Bool.{true≢false}
use Rattle.trie.specs.Nodes.{at, key}
use Rattle.trie.proofs.Keys.{holds_none, found_none}
use Rattle.trie.proofs.Rooms.{slot_holds}
use Rattle.trie.proofs.Pruning.{exact_key}
use Rattle.trie.proofs.Exact.{both_equal, none_seen, unequal}
use Rattle.trie.proofs.search.locate.Goals as goal
use Rattle.trie.proofs.search.locate.Goals.{else-is_exact-via-else-is_exact, else-is_exact-via-then-is_exact+else-is_some}

pub returns-then-is_some : goal.returns-then-is_some
returns-then-is_some c =
    let e : (c.seek-end.result.shared ≡ (at c.args.ns.now c.seek-end.result.slot).prefix.len) × (c.seek-end.result.shared ≡ c.args.key.now.prefix.len) = both_equal _ _ _ _ c.is_exact.ensures c.if-is_exact.true in (
      c.seek-end.ensures.slot,
      exact_key _ _ c.requires.trie _ _ _ c.seek-end.ensures (omega (arith, e.0)) (omega (arith, e.1)),
      λ z. true≢false (sym c.if-is_some.true ∙ c.is_some.ensures ∙ ap is_some z),
    )

pub returns-else-is_exact : goal.returns-else-is_exact
returns-else-is_exact c = elim c.else-is_exact.branch [
  | else-is_exact-via-else-is_exact w ↦
      holds_none _ _ c.requires.trie.within _ (found_none _ _ c.requires.trie.trie _ _ _ c.requires.short c.seek-end.ensures (unequal _ _ _ _ c.is_exact.ensures w.if-is_exact.false))
  | else-is_exact-via-then-is_exact+else-is_some w ↦
      (let e : (c.seek-end.result.shared ≡ (at c.args.ns.now c.seek-end.result.slot).prefix.len) × (c.seek-end.result.shared ≡ c.args.key.now.prefix.len) = both_equal _ _ _ _ c.is_exact.ensures w.if-is_exact.true in
      let k : key (at c.args.ns.now c.seek-end.result.slot) ≡ key c.args.key.now = exact_key _ _ c.requires.trie _ _ _ c.seek-end.ensures (omega (arith, e.0)) (omega (arith, e.1)) in
      ap (Rattle.trie.specs.Nodes.holds c.args.ns.now (length c.args.ns.now)) (sym k) ∙ slot_holds _ _ c.requires.trie _ c.seek-end.ensures.slot ∙ none_seen _ (sym w.is_some.ensures ∙ w.if-is_some.false))
]
