use Rattle.std.proofs.Common.{◌<◌, length, ◌∙◌, arith}
use Rattle.std.proofs.lemmas.List.{length-set}
use Rattle.cache.specs.Entries.{as_slot, emptied}
use Rattle.cache.proofs.Caches.{swept_more}
use Rattle.cache.proofs.slots.sweep.Goals as goal

pub loop-slot-preserved : goal.loop-slot-preserved
loop-slot-preserved g c =
    let v = c.loop-slot.invariant in
    let l : c.loop-slot.slot-index < length c.loop-slot.slots = omega arith in (
      length-set c.loop-slot.slots c.loop-slot.slot-index c.swept.result ∙ v.0,
      swept_more (as_slot g.A.Address.bits) (emptied (g.A.Address.pbits c.args.prefix)) c.args.slots.now _ _ c.swept.result c.slot-item.result l v.0 v.1 c.swept.ensures,
    )
