-- A stack of layers, described down to its tables; the calls that each layer sends down; and what a list of calls leaves.
use Rattle.std.specs.Prelude.{◌≡◌, ℕ, zero, suc, ◌-◌, Bool, true, false, cond, List, [], ◌∷◌, ◌++◌, length, take, drop, Some, None, Option, nat_le, nat_lt}
use Rattle.bits.specs.Bits.{Bits}
use Rattle.model.specs.Maps.{Visible}
use Rattle.model.specs.Longest.{answer}
use Rattle.model.specs.Views.{Rule, fallen_through, permits, filtered}
use Rattle.model.specs.Machine.{Plane, Target, Answer, View, Room, Call, on, lookup, next, end}
use Rattle.model.specs.Slots.{Slot, slot, hits, slot_rule, slots_after}

-- a table is known by its planes, view and room alone; a cache has a slot count and its slots, a filter its policy
pub data Stack : Type 0 where
  table : List Plane → View → Room → Stack
  cache : ℕ → List Slot → Stack → Stack
  filter : List Rule → Stack → Stack
  fall : Stack → Stack → Stack

-- a fall-through has the upper's planes, then the lower's; the other layers have those below
abbrev pub planes_of : Stack → List Plane
planes_of (table ps v r) = ps
planes_of (cache n es d) = planes_of d
planes_of (filter q d) = planes_of d
planes_of (fall u l) = planes_of u ++ planes_of l

abbrev pub filter_view : List Rule → View → View
filter_view q v ps = filtered q (v ps)

-- the upper has the first k planes
abbrev pub fall_view : ℕ → View → View → View
fall_view k v w ps = fallen_through (v (take k ps)) (w (drop k ps))

abbrev pub fall_room : ℕ → Room → Room → Room
fall_room k r s i m = cond (nat_lt i k) (r i m) (s (i - k) m)

abbrev pub view_of : Stack → View
view_of (table ps v r) = v
view_of (cache n es d) = view_of d
view_of (filter q d) = filter_view q (view_of d)
view_of (fall u l) = fall_view (length (planes_of u)) (view_of u) (view_of l)

abbrev pub room_of : Stack → Room
room_of (table ps v r) = r
room_of (cache n es d) = room_of d
room_of (filter q d) = room_of d
room_of (fall u l) = fall_room (length (planes_of u)) (room_of u) (room_of l)

-- what a cache sends down for one call: nothing on a hit, else the call
abbrev pub cache_sends : ℕ → List Slot → Call → List Call
cache_sends n es (on i act) = on i act ∷ []
cache_sends n es (lookup a b) = cond (hits n es a b) [] (lookup a b ∷ [])

-- what a cache sends down for a list of calls
abbrev pub cache_sent : ℕ → View → Room → List Plane → List Slot → List Call → List Call
cache_sent n v r ps es [] = []
cache_sent n v r ps es (c ∷ cs) = cache_sends n es c ++ cache_sent n v r (next r ps c) (slot_rule n v r ps es c) cs

-- what follows a route below: nothing if it is permitted, else another lookup
abbrev pub past : Option Target → Bool → List Call → List Call → List Call
past None permitted again on-down = on-down
past (Some h) true again on-down = []
past (Some h) false again on-down = again

-- the further lookups of a filter: after each denied route, longest first, one at the bound below it, until a permitted route
abbrev pub asked_again : List Rule → Visible Target → Bits → ℕ → List Call
asked_again q s a zero = []
asked_again q s a (suc k) = past (s (take (suc k) a)) (permits q (take (suc k) a)) (lookup a k ∷ asked_again q s a k) (asked_again q s a k)

-- what a filter sends down for one call
abbrev pub filter_sends : List Rule → View → List Plane → Call → List Call
filter_sends q v ps (on i act) = on i act ∷ []
filter_sends q v ps (lookup a b) = cond (nat_le b (length a)) (lookup a b ∷ asked_again q (v ps) a b) []

abbrev pub filter_sent : List Rule → View → Room → List Plane → List Call → List Call
filter_sent q v r ps [] = []
filter_sent q v r ps (c ∷ cs) = filter_sends q v ps c ++ filter_sent q v r (next r ps c) cs

-- what a fall-through sends to its upper table, which has the first k planes
abbrev pub upper_gets : ℕ → Call → List Call
upper_gets k (on i act) = cond (nat_lt i k) (on i act ∷ []) []
upper_gets k (lookup a b) = lookup a b ∷ []

abbrev pub if_none : Answer → List Call → List Call
if_none None cs = cs
if_none (Some x) cs = []

-- what it sends to its lower table: a lookup only where the upper, with view v and planes ps, has none
abbrev pub lower_gets : ℕ → View → List Plane → Call → List Call
lower_gets k v ps (on i act) = cond (nat_lt i k) [] (on (i - k) act ∷ [])
lower_gets k v ps (lookup a b) = cond (nat_le b (length a)) (if_none (answer (v ps) a b) (lookup a b ∷ [])) []

abbrev pub upper_sent : ℕ → List Call → List Call
upper_sent k [] = []
upper_sent k (c ∷ cs) = upper_gets k c ++ upper_sent k cs

abbrev pub lower_sent : ℕ → View → Room → List Plane → List Call → List Call
lower_sent k v r ps [] = []
lower_sent k v r ps (c ∷ cs) = lower_gets k v ps c ++ lower_sent k v r (end r ps (upper_gets k c)) cs

-- the stack after a list of calls that reached its top
abbrev pub after : Stack → List Call → Stack
after (table ps v r) cs = table (end r ps cs) v r
after (cache n es d) cs =
    cache n (slots_after n (view_of d) (room_of d) (planes_of d) es cs) (after d (cache_sent n (view_of d) (room_of d) (planes_of d) es cs))
after (filter q d) cs = filter q (after d (filter_sent q (view_of d) (room_of d) (planes_of d) cs))
after (fall u l) cs =
    fall (after u (upper_sent (length (planes_of u)) cs)) (after l (lower_sent (length (planes_of u)) (view_of u) (room_of u) (planes_of u) cs))

-- the entry of a slot, if any, has the answer that this map gives its address at the largest bound
abbrev pub UpToDate : Visible Target → Slot → Type 0
UpToDate s None = Unit {0}
UpToDate s (Some e) = e.1 ≡ answer s e.0 (length e.0)

pub record AllUpToDate (s : Visible Target) (es : List Slot) : Type 0 where
  pub at : (k : ℕ) → UpToDate s (slot es k)

-- every answer in a cache is what the layer below would give its address now at the largest bound
abbrev pub Current : Stack → Type 0
Current (table ps v r) = Unit {0}
Current (cache n es d) = AllUpToDate (view_of d (planes_of d)) es × Current d
Current (filter q d) = Current d
Current (fall u l) = Current u × Current l

-- the description d of a table is of these planes, this view and this room
pub record Described (d : Stack) (ps : List Plane) (v : View) (r : Room) : Type 0 where
  pub planes : planes_of d ≡ ps
  pub view : view_of d ≡ v
  pub room : room_of d ≡ r
