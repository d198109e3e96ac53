use Rattle.address.proofs.Checked.{tested_checked}
use Rattle.address.proofs.checks.check_prefix.Goals as goal

pub returns : goal.returns
returns c = tested_checked _ _ _ c.test_prefix.result c.requires.narrow c.requires.clear c.test_prefix.ensures
