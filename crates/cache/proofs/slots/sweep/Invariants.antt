use Rattle.std.proofs.Common.{◌≡◌, ◌++◌, map, length, take, drop}
use Rattle.cache.specs.Entries.{as_slots, emptied}
use Rattle.cache.proofs.slots.sweep.Given as goal

-- the slots so far are swept, and the others are as they were
abbrev pub invariant-loop-slot : goal.invariant-loop-slot
invariant-loop-slot g l =
    let was = as_slots g.A.Address.bits l.initial.slots in
    (length l.slots ≡ length l.initial.slots) × (as_slots g.A.Address.bits l.slots ≡ map (emptied (g.A.Address.pbits l.prefix)) (take l.slot-index was) ++ drop l.slot-index was)
