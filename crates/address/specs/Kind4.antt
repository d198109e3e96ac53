-- The kind of addresses of 32 bits.
use Rattle.std.specs.Prelude.{length, take}
use Rattle.bits.specs.Bits.{Bits}
use Rattle.bits.specs.Laws.{number}
use Rattle.bits.specs.Narrow.{lowered, opening}
use Rattle.bits.specs.declared.halves.Halves.{Halves}
use Rattle.bits.proofs.Narrow.{opening_bound, narrow_clear}
use Rattle.bits.proofs.Prefixes.{opening_short}
use Rattle.address.specs.declared.ipv4.Ipv4.{Ipv4}
use Rattle.address.specs.declared.ipv4.Prefix4.{Prefix4}

-- the address in the top 32 bits
abbrev pub joined4 : Halves → Ipv4
joined4 h = record { bits = lowered 32 h }

-- the prefix of those bits
abbrev pub made4 : Bits → Prefix4
made4 q =
    record {
      address = record { bits = number (opening 32 q) };
      len = length (take 32 q);
      small = opening_bound 32 q;
      within = opening_short 32 q;
      zeros = narrow_clear 32 q;
    }
