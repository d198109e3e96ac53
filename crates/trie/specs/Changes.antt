-- What changing the trie in place leaves of it.
use Rattle.std.specs.Prelude.{◌≡◌, ℕ, ◌-◌, ◌<◌, ◌≤◌, Bool, false, cond, ◌≢◌, List, length, Some, None, Option, ◌==◌, slice_set}
use Rattle.bits.specs.Bits.{Bits}
use Rattle.bits.specs.declared.halves.Halves.{Halves}
use Rattle.model.specs.Maps.{held, put, removed}
use Rattle.model.specs.Room.{fits_nodes}
use Rattle.trie.specs.declared.node.Node.{Node}
use Rattle.trie.specs.Nodes.{at, key, link, child, with_child, holds, altered, entries}
use Rattle.trie.specs.Trie.{Trie, Compressed}

-- the node x in slot u, linked from slot i on the side s
abbrev pub with_leaf : List Node → ℕ → ℕ → Bool → Node → List Node
with_leaf ns u i s x = slice_set (slice_set ns u x) i (with_child s (at ns i) (Some u))

-- the node y in slot i, above what slot i held, which is now in slot u
abbrev pub with_split : List Node → ℕ → ℕ → Bool → Node → List Node
with_split ns u i s y = slice_set (slice_set ns u (at ns i)) i (with_child s y (Some u))

-- where slot j is once slots h and l have changed places
abbrev pub swapped : ℕ → ℕ → ℕ → ℕ
swapped h l j = cond (j == h) l (cond (j == l) h j)

-- a node without its links
abbrev pub bare : Node → Node
bare n = record { prefix = n.prefix; hop = n.hop; left = None; right = None }

-- the nodes of slots h and l have changed places, and the links follow; none is to a slot 65,535
pub record Moved (ns ms : List Node) (u h l : ℕ) : Type 0 where
  pub long : length ms ≡ length ns
  pub nodes : (j : ℕ) → j < u → bare (at ms j) ≡ bare (at ns (swapped h l j))
  pub links : (s : Bool) (j : ℕ) → j < u → child s (at ms j) ≡ swapped h l (child s (at ns (swapped h l j)))
  pub sure : (s : Bool) (j : ℕ) → j < u → link s (at ms j) ≢ Some 65535

-- slot p links slot c on the side s
pub record Parent (ns : List Node) (u c p : ℕ) (s : Bool) : Type 0 where
  pub slot : p < u
  pub link : child s (at ns p) ≡ c

-- the route of k is put into the trie, which has v nodes then
pub record Placed (ns : List Node) (u room : ℕ) (k : Node) (ms : List Node) (v : ℕ) : Type 0 where
  pub good : Compressed ms v
  pub fits : v ≤ room
  pub map : holds ms v ≡ altered (holds ns u) (key k) k.hop

-- path-compressed, but that slot x may be without a route and have one node beneath it or none
pub record Loose (ns : List Node) (u x : ℕ) : Type 0 where
  pub within : u ≤ length ns
  pub trie : Trie (at ns) u
  pub forks : (i : ℕ) → i < u → i ≢ x → (at ns i).hop ≡ None → (s : Bool) → child s (at ns i) ≢ 65535

-- path-compressed again, with the same routes
pub record Pruned (ns : List Node) (u : ℕ) (ms : List Node) (v : ℕ) : Type 0 where
  pub good : Compressed ms v
  pub fewer : v ≤ u
  pub map : holds ms v ≡ holds ns u

-- a leaf without a route has gone from the side s of slot p
pub record Unlinked (ns : List Node) (u : ℕ) (ms : List Node) (p : ℕ) (s : Bool) : Type 0 where
  pub slot : p < u - 1
  pub loose : Loose ms (u - 1) p
  pub map : holds ms (u - 1) ≡ holds ns u
  pub gone : child s (at ms p) ≡ 65535
  pub other : (at ms p).hop ≡ None → (b : Bool) → b ≢ s → child b (at ms p) ≢ 65535

-- the route of k is taken out of the trie, which has v nodes then
pub record Dropped (ns : List Node) (u : ℕ) (k : Node) (ms : List Node) (v : ℕ) : Type 0 where
  pub good : Compressed ms v
  pub fewer : v ≤ u
  pub was : holds ns u (key k) ≡ None → ⊥
  pub map : holds ms v ≡ altered (holds ns u) (key k) None

-- a route for p with next hop h is put into the first u of `room` nodes: so many are then in use, and hold it besides what they held;
-- or the routes with it would not fit, and nothing is changed
abbrev pub Announced : List Node → ℕ → ℕ → Bits → Halves → List Node → Option ℕ → Type 0
Announced ns u room p h ms None = (ms ≡ ns) × (fits_nodes room (put (entries u ns) p h) ≡ false)
Announced ns u room p h ms (Some v) = Compressed ms v × (v ≤ room) × (entries v ms ≡ put (entries u ns) p h)

-- the route of p is taken out of the first u nodes: so many are then in use; or there is none, and nothing is changed
abbrev pub Withdrawn : List Node → ℕ → Bits → List Node → Option ℕ → Type 0
Withdrawn ns u p ms None = (ms ≡ ns) × (held (entries u ns) p ≡ None)
Withdrawn ns u p ms (Some v) = Compressed ms v × (v ≤ u) × (entries v ms ≡ removed (entries u ns) p) × (held (entries u ns) p ≢ None)
