-- A table of one plane, visible as it is.
use Rattle.std.specs.Prelude.{◌≡◌, [], ◌∷◌}
use Rattle.model.specs.Machine.{Plane, Room, Call, Reply, reply_of, next}
use Rattle.model.specs.Tables.{plain}

-- a call takes the plane m to n with reply y, as the reference machine has it
pub record Single (r : Room) (m n : Plane) (c : Call) (y : Reply) : Type 0 where
  pub reply : y ≡ reply_of plain r (m ∷ []) c
  pub planes : n ∷ [] ≡ next r (m ∷ []) c
