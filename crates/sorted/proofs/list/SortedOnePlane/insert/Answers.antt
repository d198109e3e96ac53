use Rattle.std.proofs.Common.{ap}
use Rattle.model.specs.Tables.{rows_room}
use Rattle.sorted.proofs.Planes.{inserted_well}
use Rattle.sorted.proofs.Calls.{announced}
use Rattle.sorted.proofs.list.SortedOnePlane.insert.Goals as goal

pub returns-clause-well : goal.returns-clause-well
returns-clause-well g c = inserted_well _ _ _ c.requires c.put_row.result c.row_of.result _ _ c.row_of.ensures.proper c.put_row.ensures.long c.put_row.ensures.put

pub returns-clause-room : goal.returns-clause-room
returns-clause-room g c = ap rows_room c.put_row.ensures.long

pub returns-clause-plane : goal.returns-clause-plane
returns-clause-plane g c = announced _ _ _ c.requires c.row_of.result _ _ c.row_of.ensures.key c.row_of.ensures.hop c.put_row.result _ _ c.put_row.ensures.put
