-- Addresses of w bits, at most 64, that are one number: where their bits stand in the halves.
use Rattle.std.specs.Prelude.{ℕ, ◌-◌, ◌*◌, ◌/◌, ◌%◌, ◌^◌, take}
use Rattle.bits.specs.Bits.{Bits}
use Rattle.bits.specs.Laws.{padded}
use Rattle.bits.specs.declared.halves.Halves.{Halves}

-- the low w bits of x at the top of the high half
abbrev pub lifted : ℕ → ℕ → Halves
lifted w x = record { hi = x % 2 ^ w * 2 ^ (64 - w); lo = 0 }

-- the number that stands in the top w bits of the high half
abbrev pub lowered : ℕ → Halves → ℕ
lowered w h = h.hi / 2 ^ (64 - w) % 2 ^ w

-- the w bits of the address at which a prefix starts, of which at most w bits count
abbrev pub opening : ℕ → Bits → Bits
opening w q = padded w (take w q)
