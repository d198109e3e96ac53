use Rattle.std.proofs.Common.{sym, ◌∙◌}
use Rattle.model.proofs.AddressBits.{same_test}
use Rattle.cache.proofs.Caches.{halves_test, halves_same}
use Rattle.cache.proofs.slots.same_address.Goals as goal

pub returns : goal.returns
returns g c =
    let law = g.met.A.Address in
    let e = c.to_halves.ensures in
    let f = c.to_halves-2.ensures in
    same_test _ _ _ _ _ _ (law.reads c.args.a) (law.reads c.args.b) (law.fits c.args.a) (law.fits c.args.b)
    (λ t. sym e ∙ halves_test _ _ (sym c.eq.ensures ∙ t) ∙ f)
    (λ t. c.eq.ensures ∙ halves_same _ _ (e ∙ t ∙ sym f))
