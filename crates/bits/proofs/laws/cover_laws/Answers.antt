use Rattle.bits.proofs.Strings.{covers_starts, starts_covers, common_left, common_right, common_longest}
use Rattle.bits.proofs.laws.cover_laws.Goals as goal

pub returns : goal.returns
returns c = record {
  covers_starts = covers_starts;
  starts_covers = λ p q _ e. starts_covers p q e;
  common_left = common_left;
  common_right = common_right;
  common_longest = common_longest;
}
