-- How a new route goes into the trie.
use Rattle.std.specs.Prelude.{◌≡◌, ℕ, ◌+◌, ◌<◌, ◌≤◌, false, List, Some, None, Option}
use Rattle.bits.specs.declared.halves.Halves.{Halves}
use Rattle.model.specs.Maps.{put}
use Rattle.model.specs.Room.{fits_nodes}
use Rattle.trie.specs.declared.node.Node.{Node}
use Rattle.trie.specs.Nodes.{at, key, entries}
use Rattle.trie.specs.Search.{Found}
use Rattle.pool.specs.declared.plan.Meeting.{Meeting}
use Rattle.pool.specs.declared.plan.Meeting.TheVariants.{Same, Below, Above, Apart}
use Rattle.pool.specs.declared.plan.Plan.{Plan}
use Rattle.pool.specs.declared.plan.Plan.TheVariants.{Root, Set, Leaf, Middle, Fork}

-- prefixes of n and k bits that have the first c bits in common
abbrev pub Meets : ℕ → ℕ → ℕ → Meeting → Type 0
Meets n k c Same = (n ≤ c) × (k ≤ c)
Meets n k c Below = (n ≤ c) × (c < k)
Meets n k c Above = (c < n) × (k ≤ c)
Meets n k c Apart = (c < n) × (c < k)

-- the plan is how the prefix of k goes into the first u nodes, by where the search for it ends
abbrev pub Suits : List Node → ℕ → Node → Plan → Type 0
Suits ns u k Root = u ≡ 0
Suits ns u k (Set e) = Found (at ns) u k e.slot e.shared × Meets (at ns e.slot).prefix.len k.prefix.len e.shared Same
Suits ns u k (Leaf e) = Found (at ns) u k e.slot e.shared × Meets (at ns e.slot).prefix.len k.prefix.len e.shared Below
Suits ns u k (Middle e) = Found (at ns) u k e.slot e.shared × Meets (at ns e.slot).prefix.len k.prefix.len e.shared Above
Suits ns u k (Fork e) = Found (at ns) u k e.slot e.shared × Meets (at ns e.slot).prefix.len k.prefix.len e.shared Apart

-- the nodes that a plan takes
abbrev pub wanted : Plan → ℕ
wanted Root = 1
wanted (Set e) = 0
wanted (Leaf e) = 1
wanted (Middle e) = 1
wanted (Fork e) = 2

-- a plan that suits and fits, or none where the routes with the new one would not fit
abbrev pub Planned : List Node → ℕ → ℕ → Node → Halves → Option Plan → Type 0
Planned ns u room k h None = fits_nodes room (put (entries u ns) (key k) h) ≡ false
Planned ns u room k h (Some p) = Suits ns u k p × (u + wanted p ≤ room)
