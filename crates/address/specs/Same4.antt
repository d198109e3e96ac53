-- An address of 32 bits is its number, a prefix its address and length.
use Rattle.std.specs.Prelude.{◌≡◌, ◌^◌, ◌<◌, ◌≤◌, true, drop}
use Rattle.std.proofs.Math.Bool.{Bool-set}
use mathlib.Core.HLevel.{is_prop→PathP}
use Rattle.std.proofs.Math.Bridge.{le_prop}
use Rattle.bits.specs.Halves.{clear, low_bits}
use Rattle.address.specs.declared.ipv4.Ipv4.{Ipv4}
use Rattle.address.specs.declared.ipv4.Prefix4.{Prefix4}

pub same_address : (a b : Ipv4) → a.bits ≡ b.bits → a ≡ b
same_address a b e = λ i. record { bits = e i }

pub same_prefix : (p q : Prefix4) → p.address ≡ q.address → p.len ≡ q.len → p ≡ q
same_prefix p q e f = λ i. record {
  address = e i;
  len = f i;
  small = is_prop→PathP (λ j. (e j).bits < 2 ^ 32) (λ j. le_prop) p.small q.small i;
  within = is_prop→PathP (λ j. f j ≤ 32) (λ j. le_prop) p.within q.within i;
  zeros = is_prop→PathP (λ j. clear (drop (f j) (low_bits 32 (e j).bits)) ≡ true) (λ j. Bool-set _ _) p.zeros q.zeros i;
}
