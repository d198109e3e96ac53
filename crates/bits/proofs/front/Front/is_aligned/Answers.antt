use Rattle.std.proofs.Common.{◌∙◌, arith}
use Rattle.bits.proofs.Primitives.{uncut_is}
use Rattle.bits.proofs.front.Front.is_aligned.Goals as goal

pub returns : goal.returns
returns c = c.uncut.ensures ∙ uncut_is _ _ c.requires (omega arith, omega arith)
