use Rattle.std.proofs.Common.{◌≡◌, ◌+◌, ◌-◌, ◌*◌, ◌/◌, ◌%◌, ◌^◌, ap, ◌∙◌, arith}
use Rattle.model.proofs.AddressBits.{last_bits}
use Rattle.cache.proofs.slots.last_16.Goals as goal

pub returns : goal.returns
returns c =
    let h = c.args.f.bits in
    let e : c.from.result * 2 ^ 64 % 2 ^ 128 + c.from-2.result ≡ h.hi * 2 ^ 64 + h.lo = omega arith in
    c.low_16.ensures ∙ ap (λ n. n / 2 ^ (128 - c.args.f.len) % 65536) e ∙ last_bits 16 c.args.f.len h c.requires.some c.requires.most (omega arith)
