use Rattle.std.proofs.Common.{◌≡◌}
use Rattle.model.proofs.Steps.{at}
use Rattle.model.proofs.FilterLaws.{Asked}
use Rattle.filter.specs.Policies.{rules_of}
use Rattle.filter.proofs.layer.FilterTable.lookup.Given as goal

-- the lookups so far, with the policy as it was
abbrev pub invariant-loop-answer : goal.invariant-loop-answer
invariant-loop-answer g l =
    let t = g.T.Table in
    t.valid l.self.inner
    × (l.self.policy ≡ l.initial.self.policy)
    × Asked (rules_of l.initial.self.policy) (at t.planes t.view t.room t.stack l.initial.self.inner) (at t.planes t.view t.room t.stack l.self.inner) (g.T.Addr.Address.bits l.address) l.bound l.longest

abbrev pub decreases-loop-answer : goal.decreases-loop-answer
decreases-loop-answer g l = l.longest
