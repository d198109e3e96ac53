use Rattle.std.proofs.Common.{sym}
use Rattle.bits.proofs.Narrow.{narrow_length}
use Rattle.kind48.proofs.mac.address_kind.Mac48Address.front.Goals as goal

pub returns-clause-len : goal.returns-clause-len
returns-clause-len c = let p = c.args.p in sym (narrow_length 48 p.address.bits p.len p.within)
