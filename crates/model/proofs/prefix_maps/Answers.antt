use Rattle.model.proofs.prefix_maps.Goals as goal
use Rattle.model.proofs.MapLaws.{map_laws}

pub returns : goal.returns
returns g c = map_laws _
