use Rattle.std.proofs.Common.{take, Ok, ap, ◌∙◌, lit≤}
use Rattle.std.proofs.lemmas.Result.{err_from_is_err_and}
use Rattle.bits.specs.Halves.{low_bits}
use Rattle.bits.proofs.LowBits.{low_length}
use Rattle.bits.proofs.Narrow.{halves_aligned, halves_front}
use Rattle.address.specs.declared.ipv4.Ipv4.{Ipv4}
use Rattle.address.proofs.Checked.{checked_ok, checked_ok_at, checked_err_at}
use Rattle.address.proofs.ipv4.address.Ipv4Address.prefix.Goals as goal

pub check_prefix-requires : goal.check_prefix-requires
check_prefix-requires c = record { narrow = lit≤ tt; clear = halves_aligned 32 _ c.args.self.bits (lit≤ tt) c.to_halves-bits.ensures }

pub returns-in_err-check_prefix : goal.returns-in_err-check_prefix
returns-in_err-check_prefix c =
    let p = err_from_is_err_and c.from_residual.result c.from_residual.ensures.1 in
    rw (p.1, p.2) (checked_err_at _ _ _ _ (halves_front 32 _ c.args.self.bits (lit≤ tt) c.to_halves-bits.ensures) c.in_err-check_prefix.ensures)

pub of-requires : goal.of-requires
of-requires c =
    let ok = checked_ok_at _ _ _ (halves_front 32 _ c.args.self.bits (lit≤ tt) c.to_halves-bits.ensures) c.in_ok-check_prefix.ensures in
    let f = checked_ok (low_bits 32 c.args.self.bits) c.args.len _ ok in
    record { within = rw (low_length 32 c.args.self.bits) at f.0; zeros = f.1 }

pub returns : goal.returns
returns c =
    let r = c.of.result in
    ap (λ (a : Ipv4). Ok (take r.len (low_bits 32 a.bits))) c.of.ensures.0 ∙ ap (λ n. Ok (take n (low_bits 32 c.args.self.bits))) c.of.ensures.1
    ∙ checked_ok_at _ _ _ (halves_front 32 _ c.args.self.bits (lit≤ tt) c.to_halves-bits.ensures) c.in_ok-check_prefix.ensures
