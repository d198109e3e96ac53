use Rattle.model.proofs.room_rules.Goals as goal
use Rattle.model.proofs.RoomLaws.{room_laws}

pub returns : goal.returns
returns g c = room_laws _
