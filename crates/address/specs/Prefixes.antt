-- When an address and a length make a prefix.
use Rattle.std.specs.Prelude.{◌≡◌, ℕ, ◌<◌, ◌≤◌, true, false, cond, length, take, drop, Ok, Err, Result, nat_lt}
use Rattle.bits.specs.Bits.{Bits}
use Rattle.bits.specs.Halves.{word, clear}
use Rattle.bits.specs.declared.halves.Halves.{Halves}
use Rattle.address.specs.declared.refusal.PrefixRefusal.{PrefixRefusal}
use Rattle.address.specs.declared.refusal.PrefixRefusal.TheVariants.{TooLong, StrayBits}

-- the number of a refusal
abbrev pub number : PrefixRefusal → ℕ
number TooLong = 12
number StrayBits = 13

-- the first n bits of the address a, where it has as many and nothing is set beyond them; else the refusal's number
abbrev pub checked : Bits → ℕ → Result Bits ℕ
checked a n = cond (nat_lt (length a) n) (Err 12) (cond (clear (drop n a)) (Ok (take n a)) (Err 13))

-- what the tests of a length and of the bits beyond it say: which fails first, if one does
abbrev pub Tested : {U : Type 0} → ℕ → ℕ → Halves → Result U PrefixRefusal → Type 0
Tested w n h (Ok u) = (n ≤ w) × (clear (drop n (word h)) ≡ true)
Tested w n h (Err TooLong) = w < n
Tested w n h (Err StrayBits) = (n ≤ w) × (clear (drop n (word h)) ≡ false)

-- an answer by the bits of its prefix, or by the number of its refusal
abbrev pub outcome : {P : Type 0} → (P → Bits) → Result P PrefixRefusal → Result Bits ℕ
outcome f (Ok p) = Ok (f p)
outcome f (Err e) = Err (number e)
