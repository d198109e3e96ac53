use Rattle.std.proofs.Common.{sym, ◌∙◌, mod-eq_of_lt, arith}
use Rattle.address.specs.Same6.{same_address}
use Rattle.address.proofs.ipv6.address.Ipv6Address.from_halves.Goals as goal

pub returns : goal.returns
returns c = same_address _ _ (c.from.ensures.0 ∙ sym (mod-eq_of_lt {n = c.args.h.hi} (omega arith))) (c.from.ensures.1 ∙ sym (mod-eq_of_lt {n = c.args.h.lo} (omega arith)))
