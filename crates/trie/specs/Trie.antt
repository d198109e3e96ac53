-- A path-compressed binary trie in the first slots of a pool of nodes, as facts on each slot and each two slots.
use Rattle.std.specs.Prelude.{◌≡◌, ℕ, ◌<◌, ◌≤◌, Bool, ◌≢◌, List, length, Some, None}
use Rattle.trie.specs.declared.node.Node.{Node}
use Rattle.trie.specs.Nodes.{at, node_bit, link, child}

-- the first n bits are the same
abbrev pub Agree : ℕ → (ℕ → Bool) → (ℕ → Bool) → Type 0
Agree n f g = (k : ℕ) → k < n → f k ≡ g k

-- a prefix of m bits begins one of n bits
pub record Begins (m : ℕ) (v : ℕ → Bool) (n : ℕ) (w : ℕ → Bool) : Type 0 where
  pub long : m ≤ n
  pub same : Agree m v w

-- a prefix of m bits begins one of n bits, which is longer and goes on with the bit s
pub record Leads (s : Bool) (m : ℕ) (v : ℕ → Bool) (n : ℕ) (w : ℕ → Bool) : Type 0 where
  pub long : m < n
  pub same : Agree m v w
  pub side : w m ≡ s

-- b's prefix is at or beneath a's
abbrev pub Under : Node → Node → Type 0
Under a b = Begins a.prefix.len (node_bit a) b.prefix.len (node_bit b)

-- b's prefix is beneath a's on the side s
abbrev pub Beyond : Bool → Node → Node → Type 0
Beyond s a b = Leads s a.prefix.len (node_bit a) b.prefix.len (node_bit b)

-- the first u slots are a trie with its root in slot 0: each link leads to the next node beneath on its side, none to a slot 65,535,
-- and no prefix stands twice
pub record Trie (f : ℕ → Node) (u : ℕ) : Type 0 where
  pub few : u ≤ 65535
  pub short : (i : ℕ) → i < u → (f i).prefix.len ≤ 128
  pub top : (i : ℕ) → i < u → Under (f 0) (f i)
  pub sure : (s : Bool) (i : ℕ) → i < u → link s (f i) ≢ Some 65535
  pub kid : (s : Bool) (i : ℕ) → i < u → child s (f i) ≢ 65535 → (child s (f i) < u) × Beyond s (f i) (f (child s (f i)))
  pub full : (s : Bool) (i j : ℕ) → i < u → j < u → Beyond s (f i) (f j) → (child s (f i) < u) × Under (f (child s (f i))) (f j)
  pub apart : (i j : ℕ) → i < u → j < u → (f i).prefix.len ≡ (f j).prefix.len → Agree (f i).prefix.len (node_bit (f i)) (node_bit (f j)) → i ≡ j

-- path-compressed: a node without a route has nodes on both sides
pub record Compressed (ns : List Node) (u : ℕ) : Type 0 where
  pub within : u ≤ length ns
  pub trie : Trie (at ns) u
  pub forks : (i : ℕ) → i < u → (at ns i).hop ≡ None → (s : Bool) → child s (at ns i) ≢ 65535

-- a node with nothing beneath it
pub record Leaf (n : Node) : Type 0 where
  pub left : n.left ≡ None
  pub right : n.right ≡ None
