use Rattle.std.proofs.Common.{ap, ◌∙◌}
use Rattle.bits.specs.Halves.{word}
use Rattle.bits.proofs.Primitives.{cut_is}
use Rattle.bits.proofs.front.Front.masked.Goals as goal

pub returns : goal.returns
returns c = ap word c.cut_after.ensures ∙ cut_is _ _ c.requires
