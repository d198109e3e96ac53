-- Where a search in the trie is, and where it ends.
use Rattle.std.specs.Prelude.{◌≡◌, ℕ, ◌<◌, ◌≤◌, ◌≢◌, ◌⊎◌, List, Some, None, Option}
use Rattle.bits.specs.Bits.{Bits}
use Rattle.trie.specs.declared.node.Node.{Node}
use Rattle.trie.specs.Nodes.{at, node_bit, key, link, child, holds}
use Rattle.trie.specs.Trie.{Agree, Under}

-- c first bits are common to the prefixes of a and b, and no more
pub record Shared (a b : Node) (c : ℕ) : Type 0 where
  pub left : c ≤ a.prefix.len
  pub right : c ≤ b.prefix.len
  pub same : Agree c (node_bit a) (node_bit b)
  pub differ : c < a.prefix.len → c < b.prefix.len → node_bit a c ≢ node_bit b c

-- a search for the prefix of k ends in slot i, which has c first bits in common with it: what shares these lies at or beneath slot i, what is
-- above slot i is shorter, and where it would go on there is no node
pub record Found (f : ℕ → Node) (u : ℕ) (k : Node) (i c : ℕ) : Type 0 where
  pub slot : i < u
  pub shared : Shared (f i) k c
  pub above : (j : ℕ) → j < u → (f j).prefix.len < (f i).prefix.len → Agree (f j).prefix.len (node_bit (f j)) (node_bit (f i)) → (f j).prefix.len < c
  pub below : (j : ℕ) → j < u → c ≤ (f j).prefix.len → Agree c (node_bit (f j)) (node_bit k) → Under (f i) (f j)
  pub stop : c ≡ (f i).prefix.len → c < k.prefix.len → child (node_bit k c) (f i) ≡ 65535

-- a search for the prefix of k has come to slot i, and knows that d first bits are in common
pub record Way (f : ℕ → Node) (u : ℕ) (k : Node) (i d : ℕ) : Type 0 where
  pub slot : i < u
  pub near : d ≤ (f i).prefix.len
  pub far : d ≤ k.prefix.len
  pub same : Agree d (node_bit (f i)) (node_bit k)
  pub above : (j : ℕ) → j < u → (f j).prefix.len < (f i).prefix.len → Agree (f j).prefix.len (node_bit (f j)) (node_bit (f i)) → (f j).prefix.len < d
  pub below : (j : ℕ) → j < u → d ≤ (f j).prefix.len → Agree d (node_bit (f j)) (node_bit k) → Under (f i) (f j)

-- the slot of the route to p among the first u, or none where p is not held
abbrev pub Located : List Node → ℕ → Bits → Option ℕ → Type 0
Located ns u p None = holds ns u p ≡ None
Located ns u p (Some i) = (i < u) × (key (at ns i) ≡ p) × ((at ns i).hop ≢ None)

-- a route that covers the prefix of k, by its slot, if there is one
abbrev pub Covering : (ℕ → Node) → ℕ → Node → Option ℕ → Type 0
Covering f u k None = Unit {0}
Covering f u k (Some j) = (j < u) × Under (f j) k × ((f j).hop ≢ None)

-- a length is no longer than the route of that slot
abbrev pub UpTo : (ℕ → Node) → Option ℕ → ℕ → Type 0
UpTo f None n = ⊥
UpTo f (Some j) n = n ≤ (f j).prefix.len

-- the longest route that covers the prefix of k, or none where there is none
pub record Best (f : ℕ → Node) (u : ℕ) (k : Node) (r : Option ℕ) : Type 0 where
  pub covering : Covering f u k r
  pub longest : (j : ℕ) → j < u → Under (f j) k → ((f j).hop ≢ None) → UpTo f r (f j).prefix.len

-- the slot beneath slot i that is next on the way of k's prefix, or none where that goes no further or there is no node
abbrev pub Stepped : (ℕ → Node) → Node → ℕ → Option ℕ → Type 0
Stepped f k i None = (k.prefix.len ≤ (f i).prefix.len) ⊎ (link (node_bit k (f i).prefix.len) (f i) ≡ None)
Stepped f k i (Some j) = link (node_bit k (f i).prefix.len) (f i) ≡ Some j

-- each route that covers the prefix of k and is at or beneath slot a is at or beneath slot i
pub record Reaches (f : ℕ → Node) (u : ℕ) (k : Node) (a i : ℕ) : Type 0 where
  pub slot : i < u
  pub lower : (f a).prefix.len ≤ (f i).prefix.len
  pub rest : (j : ℕ) → j < u → Under (f j) k → ((f j).hop ≢ None) → Under (f a) (f j) → Under (f i) (f j)

-- the slot of the first route on the way from slot a on, or none where no route at or beneath slot a covers the prefix of k
abbrev pub First : (ℕ → Node) → ℕ → Node → ℕ → Option ℕ → Type 0
First f u k a None = (j : ℕ) → j < u → Under (f j) k → ((f j).hop ≢ None) → Under (f a) (f j) → ⊥
First f u k a (Some i) = Reaches f u k a i × ((f i).hop ≢ None)

-- a lookup has come to slot i, with the longest route r of those that are not at or beneath slot i
pub record Scan (f : ℕ → Node) (u : ℕ) (k : Node) (i : ℕ) (r : Option ℕ) : Type 0 where
  pub slot : i < u
  pub covering : Covering f u k r
  pub less : (n : ℕ) → UpTo f r n → n < (f i).prefix.len
  pub rest : (j : ℕ) → j < u → Under (f j) k → ((f j).hop ≢ None) → UpTo f r (f j).prefix.len ⊎ Under (f i) (f j)
