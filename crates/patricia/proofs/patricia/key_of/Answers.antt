use Rattle.std.proofs.Common.{◌≤◌, sym, refl, ap, ◌∙◌, subst, arith}
use Rattle.bits.proofs.Fronts.{prefix_front}
use Rattle.trie.specs.declared.node.Node.{Node}
use Rattle.trie.specs.Nodes.{key}
use Rattle.trie.specs.Trie.{Leaf}
use Rattle.patricia.proofs.patricia.key_of.Goals as goal

pub returns : goal.returns
unfolding key
returns g c =
    let p = c.args.prefix in
    let e = c.unlinked.ensures in
    let long : c.front.result.len ≤ 128 = omega (arith, c.front.ensures.len, g.met.A.Address.short p, g.met.A.Address.sized.1) in
    record {
      prefix = ap key e ∙ prefix_front g.A.Address.WIDTH c.front.result.len c.front.result.bits _ (g.A.Address.pbits p) c.front.ensures.bits c.front.ensures.len (g.met.A.Address.short p) (sym (g.met.A.Address.reads (g.A.Address.start p)) ∙ g.met.A.Address.opens p);
      short = subst (λ (n : Node). n.prefix.len ≤ 128) (sym e) long;
      hop = ap (λ (n : Node). n.hop) e;
      leaf = subst Leaf (sym e) (record { left = refl; right = refl });
    }
