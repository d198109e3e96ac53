-- The nodes of a pool: the prefix of each, its links, and the routes that the nodes in use hold.
use Rattle.std.specs.Prelude.{ℕ, Bool, false, cond, List, [], ◌∷◌, map, take, Some, None, Option, slice_index_or}
use Rattle.bits.specs.Bits.{Bits, equal}
use Rattle.bits.specs.Halves.{word, front}
use Rattle.bits.specs.declared.front.Front.{Front}
use Rattle.bits.specs.declared.halves.Halves.{Halves}
use Rattle.model.specs.Maps.{Map, Visible, route, held, put}
use Rattle.model.specs.Machine.{Plane}
use Rattle.trie.specs.declared.node.Node.{Node}

-- a node as an array is made of
abbrev pub blank : Node
blank = record { prefix = record { bits = record { hi = 0; lo = 0 }; len = 0 }; hop = None; left = None; right = None }

-- the node in slot i
abbrev pub at : List Node → ℕ → Node
at ns i = slice_index_or ns i blank

-- bit k of a node's address; the first len of them are its prefix
abbrev pub node_bit : Node → ℕ → Bool
node_bit n k = slice_index_or (word n.prefix.bits) k false

-- the prefix of a node
unfoldable pub key : Node → Bits
key n = front n.prefix.len n.prefix.bits

-- the link to the node below whose next bit is s
abbrev pub link : Bool → Node → Option ℕ
link s n = cond s n.right n.left

-- the slot of a link; 65,535 is no link
abbrev pub slot_of : Option ℕ → ℕ
slot_of None = 65535
slot_of (Some i) = i

-- the slot of the node below whose next bit is s; 65,535 is no link
abbrev pub child : Bool → Node → ℕ
child s n = slot_of (link s n)

-- the node with another link on side s
abbrev pub with_child : Bool → Node → Option ℕ → Node
with_child s n c = record { prefix = n.prefix; hop = n.hop; left = cond s n.left c; right = cond s c n.right }

-- the node with another hop
abbrev pub with_hop : Node → Option Halves → Node
with_hop n h = record { prefix = n.prefix; hop = h; left = n.left; right = n.right }

-- a node of no links for a prefix
abbrev pub unlinked : Front → Option Halves → Node
unlinked p h = record { prefix = p; hop = h; left = None; right = None }

-- the map with this hop at p, if there is one
abbrev pub with_route : Option Halves → Bits → Map Halves → Map Halves
with_route None p m = m
with_route (Some h) p m = put m p h

-- the routes of the nodes, in the order of their prefixes
abbrev pub collected : List Node → Map Halves
collected [] = []
collected (n ∷ ns) = with_route n.hop (key n) (collected ns)

-- the routes of the first u nodes
abbrev pub entries : ℕ → List Node → Map Halves
entries u ns = collected (take u ns)

-- the plane that the first u nodes hold in a table of addresses of w bits
abbrev pub routes : ℕ → ℕ → List Node → Plane
routes w u ns = map (λ r. route r.prefix (front w r.value)) (entries u ns)

-- what the first u nodes hold at each prefix
abbrev pub holds : List Node → ℕ → Visible Halves
holds ns u = held (entries u ns)

-- a map with h, or nothing, at p
abbrev pub altered : {V : Type 0} → Visible V → Bits → Option V → Visible V
altered m p h q = cond (equal p q) h (m q)
