use Rattle.std.proofs.Common.{◌≡◌, length, sym, refl, ap, ◌∙◌}
use Rattle.bits.specs.Bits.{Bits, covers}
use Rattle.bits.specs.Halves.{front, word}
use Rattle.bits.proofs.Fronts.{prefix_front, covers_address}
use Rattle.address.proofs.prefixes.covers_address.Goals as goal

pub returns : goal.returns
returns g c =
    let k = g.A.Address in
    let law = g.met.A.Address in
    let p : front (length (k.pbits c.args.p)) (k.halves (k.start c.args.p)) ≡ k.pbits c.args.p =
    prefix_front k.WIDTH _ _ _ _ refl refl (law.short c.args.p) (sym (law.reads (k.start c.args.p)) ∙ law.opens c.args.p) in
    c.covers_halves.ensures ∙ ap (λ (s : Bits). covers s (word (k.halves c.args.a))) p
    ∙ covers_address k.WIDTH _ (k.bits c.args.a) _ _ refl (law.short c.args.p) (law.reads c.args.a)
