use Rattle.model.proofs.longest_match.Goals as goal
use Rattle.model.proofs.LongestLaws.{longest_laws}

pub returns : goal.returns
returns g c = longest_laws _
