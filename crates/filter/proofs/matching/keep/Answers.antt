use Rattle.std.proofs.Common.{◌≡◌, sym, ap, ◌∙◌}
use Rattle.bits.specs.Bits.{Bits}
use Rattle.bits.specs.Halves.{front}
use Rattle.bits.proofs.Fronts.{prefix_front}
use Rattle.filter.specs.Rules.{allowed}
use Rattle.filter.proofs.matching.keep.Goals as goal

pub returns : goal.returns
returns g c =
    let k = g.A.Address in
    let law = g.met.A.Address in
    let rule = c.args.rule in
    let p : front c.front.result.len c.front.result.bits ≡ k.pbits rule.prefix =
    prefix_front k.WIDTH _ _ _ _ c.front.ensures.bits c.front.ensures.len (law.short rule.prefix) (sym (law.reads (k.start rule.prefix)) ∙ law.opens rule.prefix) in
    ap (λ (bits : Bits). record { permit = allowed rule.action; prefix = bits; ge = rule.ge; le = rule.le }) p
