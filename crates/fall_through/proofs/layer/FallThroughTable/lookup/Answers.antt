use Rattle.std.proofs.Common.{rules, arith}
use Rattle.fall_through.proofs.Passing.{none_asked, first_asked, second_asked}
use Rattle.fall_through.proofs.layer.FallThroughTable.lookup.Goals as goal

pub returns-in_err-found-clause-does : goal.returns-in_err-found-clause-does
returns-in_err-found-clause-does g c = none_asked g.U.Table g.L.Table _ _ _ _ _ _ (grind arith) (search rules) (grind arith)

pub returns-in-Some-clause-does : goal.returns-in-Some-clause-does
returns-in-Some-clause-does g c = first_asked g.U.Table g.L.Table _ _ _ _ g.U.Addr.Address.bits c.in-Some.found _ (search rules) (search rules) (search rules)

pub returns-in-None-clause-does : goal.returns-in-None-clause-does
returns-in-None-clause-does g c = second_asked g.U.Table g.L.Table _ _ _ _ _ (search rules) (search rules)
