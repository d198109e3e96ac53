-- What the order of prefixes, covering and the common prefix mean.
use Rattle.std.specs.Prelude.{◌≡◌, ℕ, ◌+◌, ◌-◌, ◌^◌, ◌<◌, ◌≤◌, true, false, ◌⊎◌, [], ◌∷◌, ◌++◌, length, take, replicate}
use Rattle.bits.specs.Bits.{Bits, order, before, same, after, covers, common}

-- the number that a bit string writes, the highest bit first
abbrev pub number : Bits → ℕ
number [] = 0
number (false ∷ p) = number p
number (true ∷ p) = 2 ^ length p + number p

-- the address of w bits at which a prefix starts
abbrev pub padded : ℕ → Bits → Bits
padded w p = p ++ replicate (w - length p) false

-- a lower address, or the same address and a shorter prefix
abbrev pub Earlier : ℕ → Bits → Bits → Type 0
Earlier w p q =
    (number (padded w p) < number (padded w q)) ⊎ ((number (padded w p) ≡ number (padded w q)) × (length p < length q))

-- the order of prefixes is by address, then length
pub record OrderLaws : Type 0 where
  pub reflexive : (p : Bits) → order p p ≡ same
  pub separates : (p q : Bits) → order p q ≡ same → p ≡ q
  pub flips_before : (p q : Bits) → order p q ≡ before → order q p ≡ after
  pub flips_after : (p q : Bits) → order p q ≡ after → order q p ≡ before
  pub transitive : (p q r : Bits) → order p q ≡ before → order q r ≡ before → order p r ≡ before
  pub before_earlier : (w : ℕ) (p q : Bits) → length p ≤ w → length q ≤ w → order p q ≡ before → Earlier w p q
  pub earlier_before : (w : ℕ) (p q : Bits) → length p ≤ w → length q ≤ w → Earlier w p q → order p q ≡ before

-- a prefix covers what starts with its bits
pub record CoverLaws : Type 0 where
  pub covers_starts : (p q : Bits) → covers p q ≡ true → (length p ≤ length q) × (p ≡ take (length p) q)
  pub starts_covers : (p q : Bits) → length p ≤ length q → p ≡ take (length p) q → covers p q ≡ true
  pub common_left : (p q : Bits) → covers (common p q) p ≡ true
  pub common_right : (p q : Bits) → covers (common p q) q ≡ true
  pub common_longest : (r p q : Bits) → covers r p ≡ true → covers r q ≡ true → covers r (common p q) ≡ true
