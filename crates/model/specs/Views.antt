-- What the layers make of the visible maps below them.
use Rattle.std.specs.Prelude.{ℕ, Bool, false, cond, ◌&&◌, List, [], ◌∷◌, length, Some, None, Option, nat_le}
use Rattle.bits.specs.Bits.{Bits, covers}
use Rattle.model.specs.Maps.{Visible}
use Rattle.model.specs.Longest.{or_else, answer}

-- the second, unless there is a first
abbrev pub unless : {X Y : Type 0} → Option X → Option Y → Option Y
unless None y = y
unless (Some x) y = None

-- fall-through: all routes of the upper map, and those of the lower that are not at or beneath one of the upper
abbrev pub fallen_through : {V : Type 0} → Visible V → Visible V → Visible V
fallen_through u l p = or_else (u p) (unless (answer u p (length p)) (l p))

-- a policy rule: permits or denies the routes at or beneath its prefix whose length is from ge to le
pub record Rule : Type 0 where
  pub permit : Bool
  pub prefix : Bits
  pub ge : ℕ
  pub le : ℕ

abbrev pub matches : Rule → Bits → Bool
matches r p = covers r.prefix p && (nat_le r.ge (length p) && nat_le (length p) r.le)

-- a policy: the first match decides, no match denies
abbrev pub permits : List Rule → Bits → Bool
permits [] p = false
permits (r ∷ rs) p = cond (matches r p) r.permit (permits rs p)

-- policy filter: the map without the routes that the policy denies
abbrev pub filtered : {V : Type 0} → List Rule → Visible V → Visible V
filtered rs s p = cond (permits rs p) (s p) None
