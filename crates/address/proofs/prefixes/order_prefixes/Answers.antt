use Rattle.std.proofs.Common.{◌≡◌, length, sym, refl, ap, ◌∙◌}
use Rattle.bits.specs.Bits.{Bits, order}
use Rattle.bits.specs.Halves.{front}
use Rattle.bits.proofs.Fronts.{prefix_front}
use Rattle.address.proofs.prefixes.order_prefixes.Goals as goal

pub returns : goal.returns
returns g c =
    let k = g.A.Address in
    let law = g.met.A.Address in
    let p : front (length (k.pbits c.args.p)) (k.halves (k.start c.args.p)) ≡ k.pbits c.args.p =
    prefix_front k.WIDTH _ _ _ _ refl refl (law.short c.args.p) (sym (law.reads (k.start c.args.p)) ∙ law.opens c.args.p) in
    let q : front (length (k.pbits c.args.q)) (k.halves (k.start c.args.q)) ≡ k.pbits c.args.q =
    prefix_front k.WIDTH _ _ _ _ refl refl (law.short c.args.q) (sym (law.reads (k.start c.args.q)) ∙ law.opens c.args.q) in
    c.order_halves.ensures ∙ ap (λ (s : Bits). order s (front (length (k.pbits c.args.q)) (k.halves (k.start c.args.q)))) p
    ∙ ap (order (k.pbits c.args.p)) q
