-- A prefix map with another value for each route, and what holds of every route. Assumes nothing.
use Rattle.std.proofs.Common.{◌≡◌, Bool, true, false, cond, [], ◌∷◌, map, Some, None, Option, refl, ap, subst}
use Rattle.std.specs.List.{AllByRecursion}
use Rattle.bits.specs.Bits.{Bits, Order, before, same, after, order, by, equal}
use Rattle.model.specs.Maps.{Route, Map, route, held, put, removed, Above, Rising}
use Rattle.model.proofs.MapLaws.{none≢some}

module _ {V : Type 0} where
  pub put_all : (Q : Route V → Type 0) (m : Map V) (p : Bits) (v : V) → Q (route p v) → AllByRecursion Q m → AllByRecursion Q (put m p v)
  put_all Q [] p v q a = (q, tt)
  put_all Q (r ∷ m) p v q a = go (put_all Q m p v q a.1) (order p r.prefix)
    where
      go : AllByRecursion Q (put m p v) → (o : Order) → AllByRecursion Q (by o (route p v ∷ (r ∷ m)) (route p v ∷ m) (r ∷ put m p v))
      go ih before = (q, a)
      go ih same = (q, a.1)
      go ih after = (a.0, ih)

  pub removed_all : (Q : Route V → Type 0) (m : Map V) (p : Bits) → AllByRecursion Q m → AllByRecursion Q (removed m p)
  removed_all Q [] p a = tt
  removed_all Q (r ∷ m) p a = go (removed_all Q m p a.1) (equal p r.prefix)
    where
      go : AllByRecursion Q (removed m p) → (b : Bool) → AllByRecursion Q (cond b (removed m p) (r ∷ removed m p))
      go ih true = ih
      go ih false = (a.0, ih)

  some_value : (P : V → Type 0) (x y : V) → Some x ≡ Some y → P x → P y
  some_value P x y e h = let f : x ≡ y = cc in subst P f h

  -- what holds of every value holds of one that is held
  pub held_all : (P : V → Type 0) (m : Map V) (p : Bits) (v : V) → AllByRecursion (λ r. P r.value) m → held m p ≡ Some v → P v
  held_all P [] p v a e = absurd (none≢some v e)
  held_all P (r ∷ m) p v a e = go (held_all P m p v a.1) (equal p r.prefix) e
    where
      go : (held m p ≡ Some v → P v) → (b : Bool) → cond b (Some r.value) (held m p) ≡ Some v → P v
      go ih true f = some_value P r.value v f a.0
      go ih false f = ih f

module _ {V W : Type 0} (f : V → W) where
  -- the route with the value that f makes
  abbrev pub revalued : Route V → Route W
  revalued r = route r.prefix (f r.value)

  abbrev pub mapped : Map V → Map W
  mapped m = map revalued m

  abbrev pub made : Option V → Option W
  made None = None
  made (Some v) = Some (f v)

  pub put_mapped : (m : Map V) (p : Bits) (v : V) → put (mapped m) p (f v) ≡ mapped (put m p v)
  put_mapped [] p v = refl
  put_mapped (r ∷ m) p v = go (put_mapped m p v) (order p r.prefix)
    where
      go : put (mapped m) p (f v) ≡ mapped (put m p v) → (o : Order)
          → by o (route p (f v) ∷ (revalued r ∷ mapped m)) (route p (f v) ∷ mapped m) (revalued r ∷ put (mapped m) p (f v))
          ≡ mapped (by o (route p v ∷ (r ∷ m)) (route p v ∷ m) (r ∷ put m p v))
      go ih before = refl
      go ih same = refl
      go ih after = ap (λ t. revalued r ∷ t) ih

  pub removed_mapped : (m : Map V) (p : Bits) → removed (mapped m) p ≡ mapped (removed m p)
  removed_mapped [] p = refl
  removed_mapped (r ∷ m) p = go (removed_mapped m p) (equal p r.prefix)
    where
      go : removed (mapped m) p ≡ mapped (removed m p) → (b : Bool)
          → cond b (removed (mapped m) p) (revalued r ∷ removed (mapped m) p) ≡ mapped (cond b (removed m p) (r ∷ removed m p))
      go ih true = ih
      go ih false = ap (λ t. revalued r ∷ t) ih

  pub held_mapped : (m : Map V) (p : Bits) → held (mapped m) p ≡ made (held m p)
  held_mapped [] p = refl
  held_mapped (r ∷ m) p = go (held_mapped m p) (equal p r.prefix)
    where
      go : held (mapped m) p ≡ made (held m p) → (b : Bool)
          → cond b (Some (f r.value)) (held (mapped m) p) ≡ made (cond b (Some r.value) (held m p))
      go ih true = refl
      go ih false = ih

  above_mapped : (p : Bits) (m : Map V) → Above p m → Above p (mapped m)
  above_mapped p [] h = tt
  above_mapped p (r ∷ m) h = (h.0, above_mapped p m h.1)

  pub rising_mapped : (m : Map V) → Rising m → Rising (mapped m)
  rising_mapped [] h = tt
  rising_mapped (r ∷ m) h = (above_mapped r.prefix m h.0, rising_mapped m h.1)

  above_unmapped : (p : Bits) (m : Map V) → Above p (mapped m) → Above p m
  above_unmapped p [] h = tt
  above_unmapped p (r ∷ m) h = (h.0, above_unmapped p m h.1)

  pub rising_unmapped : (m : Map V) → Rising (mapped m) → Rising m
  rising_unmapped [] h = tt
  rising_unmapped (r ∷ m) h = (above_unmapped r.prefix m h.0, rising_unmapped m h.1)
