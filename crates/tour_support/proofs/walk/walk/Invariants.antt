use Rattle.tour_support.proofs.walk.walk.Given as goal

abbrev pub invariant-loop-call : goal.invariant-loop-call
invariant-loop-call g l = g.T.Table.valid l.stack
