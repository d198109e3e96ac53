-- What a place for one route means.
use Rattle.std.specs.Prelude.{[], ◌∷◌, Some, None, Option}
use Rattle.bits.specs.Bits.{Bits}
use Rattle.model.specs.Maps.{route}
use Rattle.model.specs.Room.{fits_rows}
use Rattle.model.specs.Machine.{Plane, Room}
use Rattle.minimal.specs.declared.one_route.Route.{Route}

-- the plane: no route, or the one that is held
abbrev pub plane_of : {A P : Type 0} → (A → Bits) → (P → Bits) → Option (Route A P) → Plane
plane_of bits pbits None = []
plane_of bits pbits (Some r) = route (pbits r.prefix) (bits r.hop) ∷ []

-- the room rule: no more than one route
abbrev pub one_room : Room
one_room i = fits_rows 1
