use Rattle.std.proofs.Common.{rules, arith}
use Rattle.fall_through.proofs.Passing.{by_upper, by_lower}
use Rattle.fall_through.proofs.layer.FallThroughTable.announce.Goals as goal

pub returns-in-None-clause-does : goal.returns-in-None-clause-does
returns-in-None-clause-does g c = by_upper g.U.Table g.L.Table _ _ _ _ _ (grind arith) (search rules) (search rules)

pub returns-in-Some-clause-does : goal.returns-in-Some-clause-does
returns-in-Some-clause-does g c = by_lower g.U.Table g.L.Table _ _ _ _ _ (grind arith) (search rules) (grind arith)
