-- The kind of addresses of 128 bits.
use Rattle.std.specs.Prelude.{◌%◌, ◌^◌, length, take}
use Rattle.bits.specs.Bits.{Bits}
use Rattle.bits.specs.Wide.{opening_high, opening_low}
use Rattle.bits.specs.declared.halves.Halves.{Halves}
use Rattle.bits.proofs.Prefixes.{opening_short}
use Rattle.bits.proofs.Wide.{opening_high_bound, opening_low_bound, wide_clear}
use Rattle.address.specs.declared.ipv6.Ipv6.{Ipv6}
use Rattle.address.specs.declared.ipv6.Prefix6.{Prefix6}

-- the two halves of an address, of 64 bits each
abbrev pub halves6 : Ipv6 → Halves
halves6 a = record { hi = a.hi % 2 ^ 64; lo = a.lo % 2 ^ 64 }

-- the address of two halves
abbrev pub joined6 : Halves → Ipv6
joined6 h = record { hi = h.hi % 2 ^ 64; lo = h.lo % 2 ^ 64 }

-- the prefix of those bits
abbrev pub made6 : Bits → Prefix6
made6 q =
    record {
      address = record { hi = opening_high q; lo = opening_low q };
      len = length (take 128 q);
      high = opening_high_bound q;
      low = opening_low_bound q;
      within = opening_short 128 q;
      zeros = wide_clear q;
    }
