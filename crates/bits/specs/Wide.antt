-- Addresses of 128 bits that are two numbers, the higher first.
use Rattle.std.specs.Prelude.{ℕ, ◌++◌, take, drop}
use Rattle.bits.specs.Bits.{Bits}
use Rattle.bits.specs.Halves.{low_bits}
use Rattle.bits.specs.Laws.{number}
use Rattle.bits.specs.Narrow.{opening}

-- the 128 bits of two numbers
abbrev pub paired : ℕ → ℕ → Bits
paired hi lo = low_bits 64 hi ++ low_bits 64 lo

-- the two numbers of the address at which a prefix starts
abbrev pub opening_high : Bits → ℕ
opening_high q = number (take 64 (opening 128 q))

abbrev pub opening_low : Bits → ℕ
opening_low q = number (drop 64 (opening 128 q))
