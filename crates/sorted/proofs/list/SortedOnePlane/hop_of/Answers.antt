use Rattle.sorted.proofs.Planes.{held_proper}
use Rattle.sorted.proofs.list.SortedOnePlane.hop_of.Goals as goal

pub next_hop-requires : goal.next_hop-requires
next_hop-requires g c = held_proper _ _ _ c.requires _ _ _ c.in_use.ensures.rows c.in_ok-row.ensures
