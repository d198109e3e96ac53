use Rattle.std.proofs.Common.{◌≡◌, List, length, Some, None, sym, ap, ◌∙◌, subst}
use Rattle.std.proofs.lemmas.Bool.{true≢false}
use Rattle.std.proofs.lemmas.Result.{err_from_is_err_and}
use Rattle.bits.specs.Bits.{Bits}
use Rattle.model.specs.Tables.{nodes_room}
use Rattle.trie.specs.declared.node.Node.{Node}
use Rattle.trie.specs.Nodes.{key, routes}
use Rattle.trie.specs.Changes.{Withdrawn}
use Rattle.trie.specs.Well.{WellFormed}
use Rattle.trie.proofs.Planes.{withdrawn_good, withdrawn, not_held}
use Rattle.patricia.proofs.Refusals.{given, refused_none, refused_as}
use Rattle.patricia.proofs.patricia.PatriciaOnePlane.remove.Goals as goal

pub returns : goal.returns
returns g c =
    let was = c.args.self.now in
    let new = c.remove.new.ns in
    let v = c.in_ok-self.field-0 in
    let long : length new ≡ length was.nodes.now = c.remove.auto.ns in
    let made : c.remove.result ≡ Some v = given _ _ _ (sym c.ok_or.ensures.value ∙ c.in_ok-self.was) in
    let out : Withdrawn was.nodes.now was.used (g.A.Address.pbits c.args.prefix) new (Some v) =
    subst (λ (q : Bits). Withdrawn was.nodes.now was.used q new (Some v)) c.key_of-key.ensures.prefix
    (subst (Withdrawn was.nodes.now was.used (key c.key_of-key.result) new) made c.remove.ensures) in
    record {
      well = withdrawn_good _ _ _ c.requires _ _ _ long out;
      room = ap nodes_room long;
      plane = withdrawn _ _ _ c.requires _ _ _ out;
      refused = λ e. absurd (true≢false e);
    }

pub returns-in_err-self : goal.returns-in_err-self
returns-in_err-self g c =
    let was = c.args.self.now in
    let new = c.remove.new.ns in
    let none : c.remove.result ≡ None = refused_none _ _ _ (sym c.ok_or.ensures.value ∙ c.in_err-self.was) in
    let kept : Withdrawn was.nodes.now was.used (g.A.Address.pbits c.args.prefix) new None =
    subst (λ (q : Bits). Withdrawn was.nodes.now was.used q new None) c.key_of-key.ensures.prefix
    (subst (Withdrawn was.nodes.now was.used (key c.key_of-key.result) new) none c.remove.ensures) in
    let same : new ≡ was.nodes.now = kept.0 in
    let error = err_from_is_err_and c.from_residual.result c.from_residual.ensures.1 in
    let refusal = refused_as _ _ _ (sym c.ok_or.ensures.value ∙ c.in_err-self.was) in
    rw (error.1, error.2, refusal) (record {
      well = subst (λ (ns : List Node). WellFormed g.A.Address.WIDTH was.used ns) (sym same) c.requires;
      room = ap (λ (ns : List Node). nodes_room (length ns)) same;
      plane = not_held _ _ _ c.requires _ _ kept;
      refused = λ e i. record { nodes = record { ref_ptr = was.nodes.ref_ptr; ghost_name = was.nodes.ghost_name; now = same i }; used = was.used; kind = was.kind };
    })
