use Rattle.std.proofs.Common.{◌∙◌, arith}
use Rattle.bits.proofs.Primitives.{settled_is}
use Rattle.bits.proofs.front.Front.order.Goals as goal

pub returns : goal.returns
returns c = c.settle.ensures ∙ settled_is _ _ _ _ c.requires.left c.requires.right (omega arith, omega arith) (omega arith, omega arith)
