use Rattle.trie.proofs.Planes.{node_laws}
use Rattle.trie.proofs.laws.node_laws.Goals as goal

pub returns : goal.returns
returns c = node_laws
