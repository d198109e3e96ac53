use Rattle.std.proofs.Common.{◌≡◌, take, Ok, ap, ◌∙◌, lit≤}
use Rattle.std.proofs.lemmas.Result.{err_from_is_err_and}
use Rattle.bits.specs.Halves.{front}
use Rattle.bits.specs.Wide.{paired}
use Rattle.bits.specs.declared.halves.Halves.{Halves}
use Rattle.bits.proofs.Wide.{paired_length, paired_front, paired_rest, aligned_whole}
use Rattle.address.specs.Kind6.{halves6}
use Rattle.address.specs.declared.ipv6.Ipv6.{Ipv6}
use Rattle.address.proofs.Checked.{checked_ok, checked_ok_at, checked_err_at}
use Rattle.address.proofs.ipv6.address.Ipv6Address.prefix.Goals as goal

reads : (h : Halves) (a : Ipv6) → h ≡ halves6 a → front 128 h ≡ paired a.hi a.lo
reads h a e = ap (front 128) e ∙ paired_front (halves6 a) ∙ paired_rest a.hi a.lo

pub check_prefix-requires : goal.check_prefix-requires
check_prefix-requires c = record { narrow = lit≤ tt; clear = aligned_whole c.to_halves-bits.result }

pub returns-in_err-check_prefix : goal.returns-in_err-check_prefix
returns-in_err-check_prefix c =
    let p = err_from_is_err_and c.from_residual.result c.from_residual.ensures.1 in
    rw (p.1, p.2) (checked_err_at _ _ _ _ (reads _ c.args.self c.to_halves-bits.ensures) c.in_err-check_prefix.ensures)

pub of-requires : goal.of-requires
of-requires c =
    let ok = checked_ok_at _ _ _ (reads _ c.args.self c.to_halves-bits.ensures) c.in_ok-check_prefix.ensures in
    let f = checked_ok (paired c.args.self.hi c.args.self.lo) c.args.len _ ok in
    record { within = rw (paired_length c.args.self.hi c.args.self.lo) at f.0; zeros = f.1 }

pub returns : goal.returns
returns c =
    let r = c.of.result in
    ap (λ (a : Ipv6). Ok (take r.len (paired a.hi a.lo))) c.of.ensures.0 ∙ ap (λ n. Ok (take n (paired c.args.self.hi c.args.self.lo))) c.of.ensures.1
    ∙ checked_ok_at _ _ _ (reads _ c.args.self c.to_halves-bits.ensures) c.in_ok-check_prefix.ensures
