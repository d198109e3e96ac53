use Rattle.std.proofs.Common.{sym, ◌∙◌}
use Rattle.bits.proofs.Wide.{wide_length}
use Rattle.address.proofs.ipv6.address.Ipv6Address.front.Goals as goal

pub returns-clause-len : goal.returns-clause-len
returns-clause-len c = let p = c.args.p in c.len.ensures ∙ sym (wide_length p.address.hi p.address.lo p.len p.within)
