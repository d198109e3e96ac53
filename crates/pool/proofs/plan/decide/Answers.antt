use Rattle.std.proofs.Common.{ℕ, ◌+◌, leb, sym, ap, ◌∙◌}
use Rattle.std.proofs.lemmas.Bool.{leb-true}
use Rattle.trie.proofs.InUse.{in_use}
use Rattle.pool.proofs.Plans.{no_room_for, suits_in_use}
use Rattle.pool.proofs.plan.decide.Goals as goal

pub suited-plan-requires-clause-trie : goal.suited-plan-requires-clause-trie
suited-plan-requires-clause-trie c = in_use _ _ c.requires.trie.within c.requires.trie

pub returns-then-has_room : goal.returns-then-has_room
returns-then-has_room c =
    (suits_in_use _ _ c.requires.trie.within _ c.suited-plan.result c.suited-plan.ensures, leb-true _ _ (ap (λ (n : ℕ). leb (c.args.used + n) c.args.room) (sym c.wanted.ensures) ∙ sym c.has_room.ensures ∙ c.if-has_room.true))

pub returns-else-has_room : goal.returns-else-has_room
returns-else-has_room c =
    no_room_for _ _ _ _ _ c.requires.trie c.requires.fits c.requires.short c.requires.some c.suited-plan.result (suits_in_use _ _ c.requires.trie.within _ c.suited-plan.result c.suited-plan.ensures)
    (ap (λ (n : ℕ). leb (c.args.used + n) c.args.room) (sym c.wanted.ensures) ∙ sym c.has_room.ensures ∙ c.if-has_room.false)
