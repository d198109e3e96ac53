use Rattle.std.proofs.Common.{sym, ◌∙◌, arith}
use Rattle.std.proofs.lemmas.Bool.{le-ltb}
use Rattle.filter.proofs.Places.{decided_at, decided_nowhere}
use Rattle.filter.proofs.matching.first_match.Goals as goal

pub returns-then-i-rules : goal.returns-then-i-rules
returns-then-i-rules c =
    let e = c.first_end-i.ensures in
    c.permits_at.ensures ∙ sym (decided_at _ c.args.rules.now c.first_end-i.result e.before c.if-i-rules.true (e.here c.if-i-rules.true))

pub returns-else-i-rules : goal.returns-else-i-rules
returns-else-i-rules c =
    le-ltb _ _ c.if-i-rules.false
    ∙ sym (decided_nowhere _ c.args.rules.now (λ k h. c.first_end-i.ensures.before k (omega arith)))
