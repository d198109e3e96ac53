use Rattle.std.proofs.Common.{take, sym, ap, ◌∙◌, arith}
use Rattle.bits.specs.Halves.{front}
use Rattle.bits.proofs.Fronts.{front_front}
use Rattle.filter.proofs.matching.route_at.Goals as goal

pub returns : goal.returns
returns g c =
    let law = g.met.A.Address in
    record {
      bits = ap (front c.args.n) c.to_halves.ensures ∙ sym (front_front c.args.n g.A.Address.WIDTH _ c.requires) ∙ ap (take c.args.n) (sym (law.reads c.args.address));
      short = omega (arith, law.sized.1, c.requires);
    }
