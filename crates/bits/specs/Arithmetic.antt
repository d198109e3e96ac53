-- The arithmetic on halves by which the code reads bits, in the code's own steps.
use Rattle.std.specs.Prelude.{ℕ, ◌+◌, ◌-◌, ◌*◌, ◌/◌, ◌%◌, ◌^◌, Bool, cond, ◌&&◌, ◌||◌, ◌==◌, bit_xor, nat_le, nat_lt}
use Rattle.std.specs.Int.Count.{count_leading_zeros}
use Rattle.bits.specs.Bits.{Order, before, same, after}
use Rattle.bits.specs.declared.halves.Halves.{Halves}

-- bit i, the highest first
abbrev pub bit_of : Halves → ℕ → Bool
bit_of h i = cond (nat_lt i 64) (h.hi / 2 ^ (63 - i) % 2 == 1) (h.lo / 2 ^ (127 - i) % 2 == 1)

-- how many bits stand before the first in which the two differ
abbrev pub shared : Halves → Halves → ℕ
shared a b = cond (bit_xor a.hi b.hi == 0) (64 + count_leading_zeros 64 (bit_xor a.lo b.lo)) (count_leading_zeros 64 (bit_xor a.hi b.hi))

-- the first n of the 64 bits of x, with zeros after
abbrev pub top : ℕ → ℕ → ℕ
top n x = x / 2 ^ (64 - n) * 2 ^ (64 - n)

-- the first n bits, with zeros after
abbrev pub cut : ℕ → Halves → Halves
cut n h = cond (nat_lt n 64) (record { hi = top n h.hi; lo = 0 }) (record { hi = h.hi; lo = top (n - 64) h.lo })

-- nothing is cut off after the first n bits
abbrev pub uncut : ℕ → Halves → Bool
uncut n h = (cut n h).hi == h.hi && (cut n h).lo == h.lo

-- the first n bits of the two are the same
abbrev pub agree : ℕ → Halves → Halves → Bool
agree n p a =
    cond (nat_le n 64) (n == 0 || bit_xor p.hi a.hi / 2 ^ (64 - n) == 0) (p.hi == a.hi && bit_xor p.lo a.lo / 2 ^ (128 - n) == 0)

-- of two prefixes of one address the shorter stands before
abbrev pub by_length : ℕ → ℕ → Order
by_length n m = cond (nat_lt n m) before (cond (n == m) same after)

-- prefixes of n and m bits that share k first bits, where b is the next bit of the first
abbrev pub settled : ℕ → Bool → ℕ → ℕ → Order
settled k b n m = cond (nat_lt k n && nat_lt k m) (cond b after before) (by_length n m)
