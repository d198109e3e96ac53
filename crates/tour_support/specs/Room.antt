-- What stacks of layers take in memory.
use Rattle.std.specs.Borrow.{RattleType}
use Rattle.std.specs.Mem.{FitsInMemory}
use Rattle.filter.specs.contracts.policy.Policy as a_policy
use Rattle.filter.specs.contracts.layer.Filter as a_filter
use Rattle.cache.specs.contracts.cache.Cache as a_cache
use Rattle.fall_through.specs.contracts.layer.FallThrough as a_fall_through

-- the types of a policy, of a filter over U, of a fall-through from it to L, and of a cache over that are no larger than memory, as is so at each kind
abbrev pub CacheOnTopFits : (U L A P : RattleType) → Type 0
CacheOnTopFits U L A P =
    let filtered = a_filter.the_row U A P in
    let both = a_fall_through.the_row filtered L A P in
    FitsInMemory (a_policy.the_row A P) × FitsInMemory filtered × FitsInMemory both × FitsInMemory (a_cache.the_row both A P)

-- and those of a fall-through from U to L, of a cache over it, and of a filter over that
abbrev pub FilterOnTopFits : (U L A P : RattleType) → Type 0
FilterOnTopFits U L A P =
    let both = a_fall_through.the_row U L A P in
    let cached = a_cache.the_row both A P in
    FitsInMemory (a_policy.the_row A P) × FitsInMemory both × FitsInMemory cached × FitsInMemory (a_filter.the_row cached A P)

-- and those of a cache over a filter over U, of a cache over L, and of a fall-through from one to the other
abbrev pub CachesBelowFits : (U L A P : RattleType) → Type 0
CachesBelowFits U L A P =
    let filtered = a_filter.the_row U A P in
    let upper = a_cache.the_row filtered A P in
    let lower = a_cache.the_row L A P in
    FitsInMemory (a_policy.the_row A P) × FitsInMemory filtered × FitsInMemory upper × FitsInMemory lower
    × FitsInMemory (a_fall_through.the_row upper lower A P)
