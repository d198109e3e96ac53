-- Bit strings, the highest bit first: the meaning of an address, a prefix and a next hop of every kind.
use Rattle.std.specs.Prelude.{Bool, true, false, List, [], ◌∷◌}

abbrev pub Bits : Type 0
Bits = List Bool

-- how one prefix stands to another in the order by address and then by length
pub data Order : Type 0 where
  before same after : Order

-- bit by bit, a shorter prefix before what goes on from it
abbrev pub order : Bits → Bits → Order
order [] [] = same
order [] (y ∷ q) = before
order (x ∷ p) [] = after
order (false ∷ p) (false ∷ q) = order p q
order (false ∷ p) (true ∷ q) = before
order (true ∷ p) (false ∷ q) = after
order (true ∷ p) (true ∷ q) = order p q

-- the value that goes with each way in which two prefixes can stand
abbrev pub by : {A : Type 0} → Order → A → A → A → A
by before x y z = x
by same x y z = y
by after x y z = z

-- the two are the same prefix
abbrev pub equal : Bits → Bits → Bool
equal p q = by (order p q) false true false

-- prefix p covers the address q; of a prefix q: q is at or beneath p. In both cases q starts with the bits of p
abbrev pub covers : Bits → Bits → Bool
covers [] q = true
covers (x ∷ p) [] = false
covers (false ∷ p) (false ∷ q) = covers p q
covers (false ∷ p) (true ∷ q) = false
covers (true ∷ p) (false ∷ q) = false
covers (true ∷ p) (true ∷ q) = covers p q

-- the longest prefix of both
abbrev pub common : Bits → Bits → Bits
common [] q = []
common (x ∷ p) [] = []
common (false ∷ p) (false ∷ q) = false ∷ common p q
common (false ∷ p) (true ∷ q) = []
common (true ∷ p) (false ∷ q) = []
common (true ∷ p) (true ∷ q) = true ∷ common p q
