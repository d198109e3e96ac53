use Rattle.std.proofs.Common.{◌∙◌}
use Rattle.bits.proofs.Primitives.{bit_is}
use Rattle.bits.proofs.halves.Halves.bit_at.Goals as goal

pub returns : goal.returns
returns c = c.bit.ensures ∙ bit_is _ _ c.requires
