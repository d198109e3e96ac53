-- The longest match: of the visible prefixes that cover an address and are no longer than the bound, the longest.
use Rattle.std.specs.Prelude.{◌≡◌, ℕ, zero, suc, ◌≤◌, true, [], length, take, Some, None, Option}
use Rattle.bits.specs.Bits.{Bits, covers}
use Rattle.model.specs.Maps.{Visible}

-- the first, or the second where the first is none
abbrev pub or_else : {X : Type 0} → Option X → Option X → Option X
or_else None y = y
or_else (Some x) y = Some x

-- a value with the length of its prefix
abbrev pub at_length : {V : Type 0} → ℕ → Option V → Option (ℕ × V)
at_length n None = None
at_length n (Some v) = Some (n, v)

-- the longest match, by trying the address's first b bits, then one fewer, and so on: its length and its value
abbrev pub answer : {V : Type 0} → Visible V → Bits → ℕ → Option (ℕ × V)
answer s a zero = at_length zero (s [])
answer s a (suc k) = or_else (at_length (suc k) (s (take (suc k) a))) (answer s a k)

-- the prefix p is visible, covers the address and is within the bound
pub record Candidate {V : Type 0} (s : Visible V) (a : Bits) (b : ℕ) (p : Bits) : Type 0 where
  pub visible : s p ≡ None → ⊥
  pub covering : covers p a ≡ true
  pub within : length p ≤ b

-- what may be said to be the longest match: a candidate that no candidate is longer than, or none where there is no candidate
pub record LongestFound {V : Type 0} (s : Visible V) (a : Bits) (b : ℕ) (n : ℕ) (v : V) : Type 0 where
  pub prefix : Bits
  pub candidate : Candidate s a b prefix
  pub long : length prefix ≡ n
  pub value : s prefix ≡ Some v
  pub longest : (q : Bits) → Candidate s a b q → length q ≤ n

abbrev pub Longest : {V : Type 0} → Visible V → Bits → ℕ → Option (ℕ × V) → Type 0
Longest s a b None = (q : Bits) → Candidate s a b q → ⊥
Longest s a b (Some x) = LongestFound s a b x.0 x.1

-- at every bound that the address has, the answer is the longest match, and nothing else is
pub record LongestLaws (V : Type 0) : Type 0 where
  pub is_longest : (s : Visible V) (a : Bits) (b : ℕ) → b ≤ length a → Longest s a b (answer s a b)
  pub only_answer : (s : Visible V) (a : Bits) (b : ℕ) (x : Option (ℕ × V)) → b ≤ length a → Longest s a b x → x ≡ answer s a b
