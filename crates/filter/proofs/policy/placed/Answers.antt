use Rattle.std.proofs.Common.{◌≡◌, None, ap, rules, arith, option_map, slice_get}
use Rattle.filter.specs.Rules.{as_rule, entry_rule}
use Rattle.filter.proofs.Places.{made_at, rules_held}
use Rattle.filter.proofs.policy.placed.Goals as goal

pub returns : goal.returns
returns g c =
    let f = as_rule g.A.Address.pbits in
    let n = c.from_fn.ensures.items.long in
    rules_held f c.from_fn.result c.args.rules.now (omega (arith, n, c.requires))
    (λ k l. made_at _ _ c.from_fn.result 64 c.from_fn.ensures.items (λ i y. option_map entry_rule y ≡ option_map f (slice_get c.args.rules.now i)) (λ i y q m. (ap (λ r. (r, record {})) m.met.1, let mm = m.met.0 in search rules)) k None (omega (arith, n)))
