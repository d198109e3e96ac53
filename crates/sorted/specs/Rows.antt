-- What the rows of a sorted list mean: the plane that the first of them hold, in order. The rows past those are free.
use Rattle.std.specs.Prelude.{ℕ, ◌≤◌, List, map, length, take, Some, None, Option}
use Rattle.std.specs.List.{AllByRecursion}
use Rattle.bits.specs.Bits.{Bits}
use Rattle.bits.specs.Halves.{front, Aligned, Fit}
use Rattle.model.specs.Maps.{Route, Map, route, Rising}
use Rattle.model.specs.Machine.{Stored, Plane}
use Rattle.model.specs.Tables.{usable}
use Rattle.sorted.specs.declared.row.Row.{Row}

-- a row as an array is made of, with no bit set
abbrev pub unused : Row
unused = record { prefix = record { bits = record { hi = 0; lo = 0 }; len = 0 }; hop = record { hi = 0; lo = 0 } }

-- the prefix of a row: the first bits of its address
abbrev pub key : Row → Bits
key row = front row.prefix.len row.prefix.bits

-- the route that a row holds in a table of addresses of w bits
abbrev pub route_of : ℕ → Row → Route Stored
route_of w row = route (key row) (front w row.hop)

-- the plane that the first n rows hold, in order
abbrev pub routes : ℕ → ℕ → List Row → Plane
routes w n rows = map (route_of w) (take n rows)

-- a row in use: a prefix of at most w bits and a next hop of w bits, nothing set beyond either
pub record RowOk (w : ℕ) (row : Row) : Type 0 where
  pub short : row.prefix.len ≤ w
  pub prefix_clear : Aligned row.prefix.len row.prefix.bits
  pub hop_clear : Aligned w row.hop
  pub prefix_fits : Fit row.prefix.bits
  pub hop_fits : Fit row.hop

-- n rows are in use: no more than may be, in rising order, and each a proper row
pub record WellFormed (w n : ℕ) (rows : List Row) : Type 0 where
  pub few : n ≤ usable (length rows)
  pub rising : Rising (routes w n rows)
  pub proper : AllByRecursion (RowOk w) (take n rows)

-- a row as the value at its own prefix
abbrev pub entry_of : Row → Route Row
entry_of row = route (key row) row

-- the rows as a map from prefixes to rows, whatever the width of the addresses
abbrev pub entries : List Row → Map Row
entries rows = map entry_of rows

-- a route as the code gives it: a prefix with its next hop
abbrev pub as_route : {A P : Type 0} → (A → Bits) → (P → Bits) → Option (P × A) → Option (Route Stored)
as_route bits pbits None = None
as_route bits pbits (Some x) = Some (route (pbits x.0) (bits x.1))
