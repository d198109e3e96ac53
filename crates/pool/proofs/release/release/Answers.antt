use Rattle.std.proofs.Common.{true, false}
use Rattle.trie.proofs.Nodes.{linked}
use Rattle.pool.proofs.release.release.Goals as goal

pub pull-requires-clause-one : goal.pull-requires-clause-one
pull-requires-clause-one c = linked _ _ c.requires.loose.trie false c.args.slot _ c.requires.slot c.in-Some-None.is-0

pub pull-requires-in-None-Some-clause-one : goal.pull-requires-in-None-Some-clause-one
pull-requires-in-None-Some-clause-one c = linked _ _ c.requires.loose.trie true c.args.slot _ c.requires.slot c.in-None-Some.is-1
