use Rattle.std.proofs.Common.{◌∙◌}
use Rattle.address.specs.Same4.{same_address}
use Rattle.address.proofs.ipv4.address.Ipv4Address.from_halves.Goals as goal

pub returns : goal.returns
returns c = same_address _ _ (c.new.ensures ∙ c.top_half.ensures)
