-- An address of 128 bits is its two numbers, a prefix its address and length.
use Rattle.std.specs.Prelude.{◌≡◌, ◌^◌, ◌<◌, ◌≤◌, true, drop}
use Rattle.std.proofs.Common.{ap}
use Rattle.std.proofs.Math.Bool.{Bool-set}
use mathlib.Core.HLevel.{is_prop→PathP}
use Rattle.std.proofs.Math.Bridge.{le_prop}
use Rattle.bits.specs.Halves.{clear}
use Rattle.bits.specs.Wide.{paired}
use Rattle.bits.specs.declared.halves.Halves.{Halves}
use Rattle.address.specs.declared.ipv6.Ipv6.{Ipv6}
use Rattle.address.specs.declared.ipv6.Prefix6.{Prefix6}

pub same_address : (a b : Ipv6) → a.hi ≡ b.hi → a.lo ≡ b.lo → a ≡ b
same_address a b e f = λ i. record { hi = e i; lo = f i }

-- the numbers of an address as they stand
abbrev pub raw : Ipv6 → Halves
raw a = record { hi = a.hi; lo = a.lo }

pub same_raw : (a b : Ipv6) → raw a ≡ raw b → a ≡ b
same_raw a b e = same_address a b (ap (λ (h : Halves). h.hi) e) (ap (λ (h : Halves). h.lo) e)

pub same_prefix : (p q : Prefix6) → p.address ≡ q.address → p.len ≡ q.len → p ≡ q
same_prefix p q e f = λ i. record {
  address = e i;
  len = f i;
  high = is_prop→PathP (λ j. (e j).hi < 2 ^ 64) (λ j. le_prop) p.high q.high i;
  low = is_prop→PathP (λ j. (e j).lo < 2 ^ 64) (λ j. le_prop) p.low q.low i;
  within = is_prop→PathP (λ j. f j ≤ 128) (λ j. le_prop) p.within q.within i;
  zeros = is_prop→PathP (λ j. clear (drop (f j) (paired (e j).hi (e j).lo)) ≡ true) (λ j. Bool-set _ _) p.zeros q.zeros i;
}
