use Rattle.std.proofs.Common.{None, refl, arith, rules}
use Rattle.model.proofs.CacheLaws.{slots_empty, current_empty}
use Rattle.cache.specs.Entries.{as_slot}
use Rattle.cache.proofs.cache.Cache.new.Goals as goal

pub returns-clause-valid : goal.returns-clause-valid
returns-clause-valid g c =
    let e = slots_empty (as_slot g.T.Addr.Address.bits) None 4096 _ refl refl in
    λ v. (v, rw e (current_empty _ 4096), record { few = omega (arith, c.min.ensures); all = search rules })
