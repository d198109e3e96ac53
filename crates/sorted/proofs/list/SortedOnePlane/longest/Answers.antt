use Rattle.sorted.proofs.Planes.{longest_found, none_longest}
use Rattle.sorted.proofs.list.SortedOnePlane.longest.Goals as goal

pub returns-in_err-row : goal.returns-in_err-row
returns-in_err-row g c =
    rw c.from_residual.ensures (none_longest _ _ _ c.requires.well _ _ _ _ _ c.in_use-rows.ensures.rows g.met.A.Address.sized.1 c.to_halves.ensures (g.met.A.Address.reads _) c.requires.within c.in_err-row.ensures)

pub returns : goal.returns
returns g c =
    rw c.next_hop.ensures (longest_found _ _ _ c.requires.well _ _ _ _ _ _ c.in_use-rows.ensures.rows g.met.A.Address.sized.1 c.to_halves.ensures (g.met.A.Address.reads _) c.requires.within c.in_ok-row.ensures)
