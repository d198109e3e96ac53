-- Room: which prefix maps fit a plane. The rules of the two tables, and the law that every room rule keeps.
use Rattle.std.specs.Prelude.{◌≡◌, ℕ, ◌+◌, ◌≤◌, Bool, true, not, ◌⊎◌, ◌↔◌, List, [], ◌∷◌, ◌++◌, length, is_some, None, filter, nat_le}
use Rattle.std.specs.List.{AllByRecursion}
use Rattle.bits.specs.Bits.{Bits, covers, common}
use Rattle.model.specs.Maps.{Map, Visible, held, put, removed, Rising}

-- the map holds p
abbrev pub Held : {V : Type 0} → Visible V → Bits → Type 0
Held s p = s p ≡ None → ⊥

-- q is longer than p, starts with p, and has this bit next
abbrev pub Beneath : Bits → Bool → Bits → Type 0
Beneath p bit q = covers (p ++ (bit ∷ [])) q ≡ true

-- a branch: a prefix not in the map beneath which the map holds a longer route with next bit 0 and one with next bit 1
pub record Branch {V : Type 0} (s : Visible V) (p : Bits) : Type 0 where
  pub absent : s p ≡ None
  pub sides : (bit : Bool) → (q : Bits) × Held s q × Beneath p bit q

-- where each two neighbours of the map part
abbrev pub partings : {V : Type 0} → Map V → List Bits
partings [] = []
partings (r ∷ []) = []
partings (r ∷ (s ∷ m)) = common r.prefix s.prefix ∷ partings (s ∷ m)

-- the branches of a map, each once: where two neighbours part, unless a route is there
abbrev pub branches : {V : Type 0} → Map V → List Bits
branches m = filter (λ p. not (is_some (held m p))) (partings m)

-- the nodes of the path-compressed trie: one for each route and one for each branch
abbrev pub nodes : {V : Type 0} → Map V → ℕ
nodes m = length m + length (branches m)

-- the sorted list's rule: no more routes than rows
abbrev pub fits_rows : {V : Type 0} → ℕ → Map V → Bool
fits_rows n m = nat_le (length m) n

-- the PATRICIA table's rule: no more routes and branches than nodes
abbrev pub fits_nodes : {V : Type 0} → ℕ → Map V → Bool
fits_nodes n m = nat_le (nodes m) n

-- the room law: a map that fits still fits with a route removed or a value altered
pub record RoomLaw {V : Type 0} (fits : Map V → Bool) : Type 0 where
  pub less : (m : Map V) (p : Bits) → Rising m → fits m ≡ true → fits (removed m p) ≡ true
  pub altered : (m : Map V) (p : Bits) (v : V) → Rising m → Held (held m) p → fits m ≡ true → fits (put m p v) ≡ true

abbrev pub In : {X : Type 0} → X → List X → Type 0
In x [] = ⊥
In x (y ∷ ys) = (x ≡ y) ⊎ In x ys

-- no element twice
abbrev pub Distinct : {X : Type 0} → List X → Type 0
Distinct [] = Unit {0}
Distinct (x ∷ xs) = (In x xs → ⊥) × Distinct xs

-- any distinct prefixes, each a route or a branch, are at most n
abbrev pub Fits : {V : Type 0} → ℕ → Visible V → Type 0
Fits n s = (ps : List Bits) → Distinct ps → AllByRecursion (λ p. Held s p ⊎ Branch s p) ps → length ps ≤ n

-- the list of branches is exact, the count is that of routes and branches, and both rules keep the room law
pub record RoomLaws (V : Type 0) : Type 0 where
  pub exact : (m : Map V) → Rising m → (p : Bits) → In p (branches m) ↔ Branch (held m) p
  pub once : (m : Map V) → Rising m → Distinct (branches m)
  pub counts : (m : Map V) → Rising m → (ps : List Bits) → Distinct ps → ((p : Bits) → In p ps ↔ (Held (held m) p ⊎ Branch (held m) p)) → length ps ≡ nodes m
  pub fits : (n : ℕ) (m : Map V) → Rising m → Fits n (held m) ↔ (fits_nodes n m ≡ true)
  pub rows : (n : ℕ) → RoomLaw {V = V} (fits_rows n)
  pub trie : (n : ℕ) → RoomLaw {V = V} (fits_nodes n)
