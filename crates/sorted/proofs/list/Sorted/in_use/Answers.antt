use Rattle.sorted.proofs.Planes.{in_order}
use Rattle.sorted.proofs.list.Sorted.in_use.Goals as goal

pub returns-clause-rising : goal.returns-clause-rising
returns-clause-rising g c = in_order _ _ _ c.requires g.met.A.Address.sized.1
