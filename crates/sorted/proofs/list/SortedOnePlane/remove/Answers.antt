use Rattle.std.proofs.Common.{ap}
use Rattle.model.specs.Tables.{rows_room}
use Rattle.sorted.proofs.Planes.{removed_well}
use Rattle.sorted.proofs.Calls.{withdrawn}
use Rattle.sorted.proofs.list.SortedOnePlane.remove.Goals as goal

pub returns-clause-well : goal.returns-clause-well
returns-clause-well g c = removed_well _ _ _ c.requires c.take_row.result _ _ _ c.take_row.ensures.long c.take_row.ensures.taken

pub returns-clause-room : goal.returns-clause-room
returns-clause-room g c = ap rows_room c.take_row.ensures.long

pub returns-clause-plane : goal.returns-clause-plane
returns-clause-plane g c = withdrawn _ _ _ c.requires _ _ c.front_of.ensures.bits c.take_row.result _ _ c.take_row.ensures.taken
