use Rattle.std.proofs.Common.{◌∙◌, arith}
use Rattle.bits.proofs.Primitives.{shared_is}
use Rattle.bits.proofs.halves.Halves.common_len.Goals as goal

pub returns : goal.returns
returns c = c.shared_bits.ensures ∙ shared_is _ _ (omega arith, omega arith) (omega arith, omega arith)
