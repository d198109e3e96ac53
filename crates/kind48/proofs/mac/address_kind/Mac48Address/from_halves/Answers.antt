use Rattle.std.proofs.Common.{sym, arith, lit≤}
use Rattle.bits.proofs.Narrow.{lowered_is}
use Rattle.kind48.specs.Same48.{same_address}
use Rattle.kind48.proofs.mac.address_kind.Mac48Address.from_halves.Goals as goal

pub returns : goal.returns
returns c = same_address _ _ (sym (lowered_is 48 c.args.h (lit≤ tt) (omega arith)))
