use Rattle.std.proofs.Common.{◌∙◌, arith}
use Rattle.bits.proofs.Primitives.{agree_is}
use Rattle.bits.proofs.front.Front.covers.Goals as goal

pub returns : goal.returns
returns c = c.agree_on.ensures ∙ agree_is _ _ _ c.requires (omega arith, omega arith) (omega arith, omega arith)
