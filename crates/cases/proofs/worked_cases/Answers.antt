use Rattle.std.proofs.Common.{refl}
use Rattle.bits.specs.Halves.{low_bits, digit}
use Rattle.cases.proofs.worked_cases.Goals as goal

pub returns : goal.returns
unfolding low_bits digit
returns c = refl
