use Rattle.sorted.proofs.Nth.{prefix_is}
use Rattle.sorted.proofs.list.prefix_of.Goals as goal

pub returns : goal.returns
returns g c = prefix_is _ _ _ _ g.met.A.Address.sized.1 c.requires c.address_in.ensures c.in-Ok.ensures
