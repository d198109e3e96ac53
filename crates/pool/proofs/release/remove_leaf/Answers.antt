use Rattle.std.proofs.Common.{◌≡◌, ℕ, None, subst, arith}
use Rattle.trie.specs.Nodes.{at}
use Rattle.trie.specs.Trie.{Leaf}
use Rattle.trie.specs.Changes.{Loose}
use Rattle.trie.proofs.Pruning.{emptied}
use Rattle.pool.proofs.release.remove_leaf.Goals as goal

pub returns-then-slot-eq0 : goal.returns-then-slot-eq0
returns-then-slot-eq0 c =
    emptied c.args.ns.now c.args.used (subst (Loose c.args.ns.now c.args.used) c.if-slot-eq0.true c.requires.loose) (omega (arith, c.requires.slot))
    (subst (λ (n : ℕ). (at c.args.ns.now n).hop ≡ None) c.if-slot-eq0.true c.requires.none)
    (subst (λ (n : ℕ). Leaf (at c.args.ns.now n)) c.if-slot-eq0.true c.requires.leaf)
