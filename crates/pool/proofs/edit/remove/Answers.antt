use Rattle.trie.proofs.InUse.{in_use}
use Rattle.pool.proofs.edit.remove.Goals as goal

pub locate-requires-clause-trie : goal.locate-requires-clause-trie
locate-requires-clause-trie c = in_use _ _ c.requires.trie.within c.requires.trie
