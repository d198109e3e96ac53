use Rattle.bits.proofs.Addresses.{before_earlier, earlier_before}
use Rattle.bits.proofs.Orders.{order_self, same_is, flip_before, flip_after, before_trans}
use Rattle.bits.proofs.laws.order_laws.Goals as goal

pub returns : goal.returns
returns c = record {
  reflexive = order_self;
  separates = same_is;
  flips_before = flip_before;
  flips_after = flip_after;
  transitive = before_trans;
  before_earlier = before_earlier;
  earlier_before = earlier_before;
}
