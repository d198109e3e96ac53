-- Addresses as two halves of 64 bits, and the bit string that they stand for.
use Rattle.std.specs.Prelude.{◌≡◌, ℕ, zero, suc, ◌-◌, ◌/◌, ◌%◌, ◌^◌, ◌<◌, Bool, true, false, [], ◌∷◌, ◌++◌, take, drop, replicate, ◌==◌}
use Rattle.std.specs.declared.cmp.Ordering.TheVariants.{Less, Equal, Greater}
use Rattle.std.specs.declared.cmp.Ordering.{Ordering}
use Rattle.bits.specs.Bits.{Bits, Order, before, same, after}
use Rattle.bits.specs.declared.halves.Halves.{Halves}

-- the digit of x at 2 ^ j
unfoldable pub digit : ℕ → ℕ → Bool
digit x j = x / 2 ^ j % 2 == 1

-- the low n bits of x, the highest first
unfoldable pub low_bits : ℕ → ℕ → Bits
low_bits zero x = []
low_bits (suc n) x = digit x n ∷ low_bits n x

-- the 128 bits, the high half first
unfoldable pub word : Halves → Bits
word h = low_bits 64 h.hi ++ low_bits 64 h.lo

-- the first n bits
unfoldable pub front : ℕ → Halves → Bits
front n h = take n (word h)

-- nothing is set beyond the first w bits
abbrev pub Aligned : ℕ → Halves → Type 0
Aligned w h = drop w (word h) ≡ replicate (128 - w) false

-- both halves are numbers of 64 bits
abbrev pub Fit : Halves → Type 0
Fit h = (h.hi < 2 ^ 64) × (h.lo < 2 ^ 64)

-- no bit is set
abbrev pub clear : Bits → Bool
clear [] = true
clear (false ∷ p) = clear p
clear (true ∷ p) = false

-- the order of prefixes as the code names it
abbrev pub stands : Ordering → Order
stands Less = before
stands Equal = same
stands Greater = after
