-- The kind of addresses of 48 bits.
use Rattle.std.specs.Prelude.{length, take}
use Rattle.bits.specs.Bits.{Bits}
use Rattle.bits.specs.Laws.{number}
use Rattle.bits.specs.Narrow.{lowered, opening}
use Rattle.bits.specs.declared.halves.Halves.{Halves}
use Rattle.bits.proofs.Narrow.{opening_bound, narrow_clear}
use Rattle.bits.proofs.Prefixes.{opening_short}
use Rattle.kind48.specs.declared.mac.Mac48.{Mac48}
use Rattle.kind48.specs.declared.mac.Prefix48.{Prefix48}

-- the address in the top 48 bits
abbrev pub joined48 : Halves → Mac48
joined48 h = record { bits = lowered 48 h }

-- the prefix of those bits
abbrev pub made48 : Bits → Prefix48
made48 q =
    record {
      address = record { bits = number (opening 48 q) };
      len = length (take 48 q);
      small = opening_bound 48 q;
      within = opening_short 48 q;
      zeros = narrow_clear 48 q;
    }
