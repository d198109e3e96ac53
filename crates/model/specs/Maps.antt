-- A prefix map: routes in strictly rising order, so that two maps that hold the same are the same list.
-- The definitions are over any value: none looks into what a map holds for a prefix.
use Rattle.std.specs.Prelude.{◌≡◌, cond, List, [], ◌∷◌, Some, None, Option}
use Rattle.std.specs.List.{AllByRecursion}
use Rattle.bits.specs.Bits.{Bits, order, before, by, equal}

-- a prefix with what goes with it
pub record Route (V : Type 0) : Type 0 where
  pub prefix : Bits
  pub value : V

abbrev pub Map : Type 0 → Type 0
Map V = List (Route V)

-- a map by what it gives for each prefix: the value, or none
abbrev pub Visible : Type 0 → Type 0
Visible V = Bits → Option V

abbrev pub route : {V : Type 0} → Bits → V → Route V
route p v = record { prefix = p; value = v }

-- what the map holds at a prefix, if anything
abbrev pub held : {V : Type 0} → Map V → Visible V
held [] p = None
held (r ∷ m) p = cond (equal p r.prefix) (Some r.value) (held m p)

-- the map with this value at p, in the place of an older one
abbrev pub put : {V : Type 0} → Map V → Bits → V → Map V
put [] p v = route p v ∷ []
put (r ∷ m) p v = by (order p r.prefix) (route p v ∷ (r ∷ m)) (route p v ∷ m) (r ∷ put m p v)

-- the map without p
abbrev pub removed : {V : Type 0} → Map V → Bits → Map V
removed [] p = []
removed (r ∷ m) p = cond (equal p r.prefix) (removed m p) (r ∷ removed m p)

-- p stands before every prefix of the map
abbrev pub Above : {V : Type 0} → Bits → Map V → Type 0
Above p m = AllByRecursion (λ r. order p r.prefix ≡ before) m

-- each prefix stands before all later ones: by address, then by length, none twice
abbrev pub Rising : {V : Type 0} → Map V → Type 0
Rising [] = Unit {0}
Rising (r ∷ m) = Above r.prefix m × Rising m

-- the laws of maps, whatever the values
pub record MapLaws (V : Type 0) : Type 0 where
  pub put_rises : (m : Map V) (p : Bits) (v : V) → Rising m → Rising (put m p v)
  pub removed_rises : (m : Map V) (p : Bits) → Rising m → Rising (removed m p)
  -- after a put the prefix has the value, and every other what it had
  pub put_holds : (m : Map V) (p : Bits) (v : V) (q : Bits) → held (put m p v) q ≡ cond (equal q p) (Some v) (held m q)
  pub removed_holds : (m : Map V) (p q : Bits) → held (removed m p) q ≡ cond (equal q p) None (held m q)
  -- maps that hold the same are equal
  pub extensional : (m n : Map V) → Rising m → Rising n → ((p : Bits) → held m p ≡ held n p) → m ≡ n
