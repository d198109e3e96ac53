use Rattle.std.proofs.Common.{◌≡◌, length, sym, ap, ◌∙◌, arith}
use Rattle.std.proofs.lemmas.Bool.{lt-leb}
use Rattle.bits.specs.Bits.{Bits, covers}
use Rattle.bits.specs.Halves.{word, front}
use Rattle.bits.proofs.Fronts.{front_is, front_length, covers_front}
use Rattle.model.proofs.FilterLaws.{covers_long}
use Rattle.filter.proofs.matching.at_or_beneath.Goals as goal

pub returns-then-prefix-route : goal.returns-then-prefix-route
returns-then-prefix-route c =
    let p = c.capped-prefix.result in
    let r = c.args.route in
    c.covers.ensures ∙ sym (covers_front p.len r.len p.bits (word r.bits) (omega arith) (omega arith)) ∙ ap (covers (front p.len p.bits)) (sym (front_is r.len r.bits))
    ∙ ap (λ (s : Bits). covers s (front r.len r.bits)) c.capped-prefix.ensures.same

pub returns-else-prefix-route : goal.returns-else-prefix-route
returns-else-prefix-route c =
    let p = c.capped-prefix.result in
    let r = c.args.route in
    let long : length (front p.len p.bits) ≡ p.len = front_length p.len p.bits c.capped-prefix.ensures.short in
    lt-leb _ _ c.if-prefix-route.false ∙ sym (covers_long (front p.len p.bits) (word r.bits) r.len (omega arith))
    ∙ ap (covers (front p.len p.bits)) (sym (front_is r.len r.bits)) ∙ ap (λ (s : Bits). covers s (front r.len r.bits)) c.capped-prefix.ensures.same
