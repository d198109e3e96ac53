-- When the storage of a trie is well-formed.
use Rattle.std.specs.Prelude.{◌≡◌, ℕ, ◌≤◌, ◌⊎◌, ◌↔◌, List, map, length, take}
use Rattle.std.specs.List.{AllByRecursion}
use Rattle.bits.specs.Bits.{Bits}
use Rattle.bits.specs.Halves.{Aligned, Fit}
use Rattle.bits.specs.declared.halves.Halves.{Halves}
use Rattle.model.specs.Maps.{held}
use Rattle.model.specs.Room.{Held, Branch, In, Distinct, nodes}
use Rattle.model.specs.Tables.{usable}
use Rattle.trie.specs.declared.node.Node.{Node}
use Rattle.trie.specs.Nodes.{key, entries, routes}
use Rattle.trie.specs.Trie.{Compressed}

-- the halves of an address of w bits: nothing set beyond them
pub record AddressHalves (w : ℕ) (h : Halves) : Type 0 where
  pub fits : Fit h
  pub clear : Aligned w h

-- the first u nodes are in use: no more than may be, a path-compressed trie, as many as the plane has routes and branches, and every
-- next hop an address of w bits
pub record WellFormed (w u : ℕ) (ns : List Node) : Type 0 where
  pub few : u ≤ usable (length ns)
  pub trie : Compressed ns u
  pub count : nodes (routes w u ns) ≡ u
  pub hops : AllByRecursion (λ r. AddressHalves w r.value) (entries u ns)

-- the prefixes of the first u nodes
abbrev pub prefixes : ℕ → List Node → List Bits
prefixes u ns = map key (take u ns)

-- The nodes in use are those of the path-compressed trie of the plane: one for each route and one for each branch, and no other.
pub record NodeLaws : Type 0 where
  pub exact : (w u : ℕ) (ns : List Node) → WellFormed w u ns → (p : Bits) → In p (prefixes u ns) ↔ (Held (held (routes w u ns)) p ⊎ Branch (held (routes w u ns)) p)
  pub once : (w u : ℕ) (ns : List Node) → WellFormed w u ns → Distinct (prefixes u ns)
