use Rattle.std.proofs.Common.{sym, ◌∙◌}
use Rattle.bits.proofs.Narrow.{narrow_length}
use Rattle.address.proofs.ipv4.address.Ipv4Address.front.Goals as goal

pub returns-clause-len : goal.returns-clause-len
returns-clause-len c = let p = c.args.p in c.len.ensures ∙ sym (narrow_length 32 p.address.bits p.len p.within)
