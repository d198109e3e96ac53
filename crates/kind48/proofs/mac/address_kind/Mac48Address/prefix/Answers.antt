use Rattle.std.proofs.Common.{◌≡◌, ℕ, ◌%◌, ◌^◌, take, Ok, ap, ◌∙◌, lit≤}
use Rattle.std.proofs.lemmas.Result.{err_from_is_err_and}
use Rattle.bits.specs.Bits.{Bits}
use Rattle.bits.specs.Halves.{low_bits, front}
use Rattle.bits.specs.Narrow.{lifted}
use Rattle.bits.specs.declared.halves.Halves.{Halves}
use Rattle.bits.proofs.LowBits.{low_length, low_mod, rest_bound}
use Rattle.bits.proofs.Narrow.{halves_aligned, halves_front}
use Rattle.address.proofs.Checked.{checked_ok, checked_ok_at, checked_err_at}
use Rattle.kind48.proofs.mac.address_kind.Mac48Address.prefix.Goals as goal

pub check_prefix-requires : goal.check_prefix-requires
check_prefix-requires c = record { narrow = lit≤ tt; clear = halves_aligned 48 _ (c.args.self.bits % 2 ^ 48) (lit≤ tt) c.to_halves-bits.ensures }

-- the halves of the number's low bits
reads : (h : Halves) (x : ℕ) → h ≡ lifted 48 (x % 2 ^ 48) → front 48 h ≡ low_bits 48 x
reads h x e = halves_front 48 h (x % 2 ^ 48) (lit≤ tt) e ∙ low_mod 48 x

pub returns-in_err-check_prefix : goal.returns-in_err-check_prefix
returns-in_err-check_prefix c =
    let p = err_from_is_err_and c.from_residual.result c.from_residual.ensures.1 in
    rw (p.1, p.2) (checked_err_at _ _ _ _ (reads _ c.args.self.bits c.to_halves-bits.ensures) c.in_err-check_prefix.ensures)

pub invariant_of-result : goal.invariant_of-result
invariant_of-result c =
    let x : ℕ = c.args.self.bits % 2 ^ 48 in
    let ok = checked_ok_at _ _ _ (halves_front 48 _ x (lit≤ tt) c.to_halves-bits.ensures) c.in_ok-check_prefix.ensures in
    let f = checked_ok (low_bits 48 x) c.args.len _ ok in
    record { small = rest_bound 48 c.args.self.bits; within = rw (low_length 48 x) at f.0; zeros = f.1 }

pub returns : goal.returns
returns c =
    ap (λ (s : Bits). Ok (take c.args.len s)) (low_mod 48 c.args.self.bits)
    ∙ checked_ok_at _ _ _ (reads _ c.args.self.bits c.to_halves-bits.ensures) c.in_ok-check_prefix.ensures
