-- What the two tables mean: one plane, visible as it is, and a room rule by the storage they have borrowed.
use Rattle.std.specs.Prelude.{ℕ, min}
use Rattle.model.specs.Maps.{held}
use Rattle.model.specs.Room.{fits_rows, fits_nodes}
use Rattle.model.specs.Machine.{View, Room, plane}

-- the view of a table with one plane
abbrev pub plain : View
plain ps = held (plane ps 0)

-- of borrowed rows or nodes no more than the first 65,535 are used
abbrev pub usable : ℕ → ℕ
usable n = min n 65535

-- the sorted list over this many rows
abbrev pub rows_room : ℕ → Room
rows_room n i = fits_rows (usable n)

-- the PATRICIA table over this many nodes
abbrev pub nodes_room : ℕ → Room
nodes_room n i = fits_nodes (usable n)
