use Rattle.std.proofs.Common.{◌≡◌, ℕ, List, length, Some, None, sym, ap, ◌∙◌, subst}
use Rattle.std.proofs.lemmas.Bool.{true≢false}
use Rattle.std.proofs.lemmas.Result.{err_from_is_err_and}
use Rattle.bits.specs.Bits.{Bits}
use Rattle.bits.specs.Halves.{front}
use Rattle.model.specs.Tables.{usable, nodes_room}
use Rattle.trie.specs.declared.node.Node.{Node}
use Rattle.trie.specs.Nodes.{key, routes}
use Rattle.trie.specs.Changes.{Announced}
use Rattle.trie.specs.Well.{AddressHalves, WellFormed}
use Rattle.trie.proofs.Planes.{announced_good, announced, no_room}
use Rattle.patricia.proofs.Refusals.{given, refused_none, refused_as}
use Rattle.patricia.proofs.patricia.PatriciaOnePlane.insert.Goals as goal

pub returns : goal.returns
returns g c =
    let w = g.A.Address.WIDTH in
    let p = g.A.Address.pbits c.args.prefix in
    let h = c.args.hop in
    let was = c.args.self.now in
    let new = c.insert.new.ns in
    let v = c.in_ok-self.field-0 in
    let long : length new ≡ length was.nodes.now = c.insert.auto.ns in
    let hop : front w c.to_halves-halves.result ≡ g.A.Address.bits h = ap (front w) c.to_halves-halves.ensures ∙ sym (g.met.A.Address.reads h) in
    let ok : AddressHalves w c.to_halves-halves.result = subst (AddressHalves w) (sym c.to_halves-halves.ensures) (record { fits = (g.met.A.Address.fits h).0; clear = (g.met.A.Address.fits h).1 }) in
    let made : c.insert.result ≡ Some v = given _ _ _ (sym c.ok_or.ensures.value ∙ c.in_ok-self.was) in
    let put : Announced was.nodes.now was.used (usable (length was.nodes.now)) p c.to_halves-halves.result new (Some v) =
    subst (λ (q : Bits). Announced was.nodes.now was.used (usable (length was.nodes.now)) q c.to_halves-halves.result new (Some v)) c.key_of-key.ensures.prefix
    (subst (λ (n : ℕ). Announced was.nodes.now was.used n (key c.key_of-key.result) c.to_halves-halves.result new (Some v)) c.room_in-room.ensures
    (subst (Announced was.nodes.now was.used c.room_in-room.result (key c.key_of-key.result) c.to_halves-halves.result new) made c.insert.ensures)) in
    record {
      well = announced_good _ _ _ c.requires p _ _ hop _ _ long ok put;
      room = ap nodes_room long;
      plane = announced _ _ _ c.requires p _ _ hop _ _ put;
      refused = λ e. absurd (true≢false e);
    }

pub returns-in_err-self : goal.returns-in_err-self
returns-in_err-self g c =
    let w = g.A.Address.WIDTH in
    let p = g.A.Address.pbits c.args.prefix in
    let h = c.args.hop in
    let was = c.args.self.now in
    let new = c.insert.new.ns in
    let hop : front w c.to_halves-halves.result ≡ g.A.Address.bits h = ap (front w) c.to_halves-halves.ensures ∙ sym (g.met.A.Address.reads h) in
    let none : c.insert.result ≡ None = refused_none _ _ _ (sym c.ok_or.ensures.value ∙ c.in_err-self.was) in
    let kept : Announced was.nodes.now was.used (usable (length was.nodes.now)) p c.to_halves-halves.result new None =
    subst (λ (q : Bits). Announced was.nodes.now was.used (usable (length was.nodes.now)) q c.to_halves-halves.result new None) c.key_of-key.ensures.prefix
    (subst (λ (n : ℕ). Announced was.nodes.now was.used n (key c.key_of-key.result) c.to_halves-halves.result new None) c.room_in-room.ensures
    (subst (Announced was.nodes.now was.used c.room_in-room.result (key c.key_of-key.result) c.to_halves-halves.result new) none c.insert.ensures)) in
    let same : new ≡ was.nodes.now = kept.0 in
    let error = err_from_is_err_and c.from_residual.result c.from_residual.ensures.1 in
    let refusal = refused_as _ _ _ (sym c.ok_or.ensures.value ∙ c.in_err-self.was) in
    rw (error.1, error.2, refusal) (record {
      well = subst (λ (ns : List Node). WellFormed w was.used ns) (sym same) c.requires;
      room = ap (λ (ns : List Node). nodes_room (length ns)) same;
      plane = no_room _ _ _ c.requires p _ _ hop _ kept;
      refused = λ e i. record { nodes = record { ref_ptr = was.nodes.ref_ptr; ghost_name = was.nodes.ghost_name; now = same i }; used = was.used; kind = was.kind };
    })
