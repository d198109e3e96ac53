-- What stands after a whole list of calls, by the log of calls and replies alone.
use Rattle.std.specs.Prelude.{◌≡◌, ℕ, ◌<◌, Bool, true, false, ◌&&◌, ◌⊎◌, ◌↔◌, List, [], ◌∷◌, map, length, Some, ◌==◌}
use Rattle.bits.specs.Bits.{Bits, equal}
use Rattle.model.specs.Maps.{held}
use Rattle.model.specs.Machine.{Hop, Plane, Answer, View, Room, Act, announce, withdraw, fetch, Call, on, lookup, Reply, done, holds, found, refused, replies}
use Rattle.model.specs.Slots.{Slot, slot, slot_of, in_full, reaches}
use Rattle.model.specs.Since.{Since, Never, LastUnless}
use Rattle.model.specs.Stack.{Stack, table, cache, filter, fall, planes_of, view_of, room_of, cache_sent, filter_sent, upper_sent, lower_sent}

-- a call with the reply that it got
pub record Event : Type 0 where
  pub call : Call
  pub reply : Reply

abbrev pub event : Call → Reply → Event
event c y = record { call = c; reply = y }

-- the log: each call with its reply
abbrev pub events : List Call → List Reply → List Event
events [] ys = []
events (c ∷ cs) [] = []
events (c ∷ cs) (y ∷ ys) = event c y ∷ events cs ys

abbrev pub calls_of : List Event → List Call
calls_of es = map (λ e. e.call) es

-- the log of the reference machine
abbrev pub log : View → Room → List Plane → List Call → List Event
log v r ps cs = events cs (replies v r ps cs)

-- the reply is no refusal
abbrev pub granted : Reply → Bool
granted done = true
granted (holds o) = true
granted (found x) = true
granted (refused n) = false

-- the act is an update of prefix p
abbrev pub names : Act → Bits → Bool
names (announce q h) p = equal p q
names (withdraw q) p = equal p q
names (fetch q) p = false

-- the call is an update of plane i at prefix p
abbrev pub updates : ℕ → Bits → Call → Bool
updates i p (on j act) = j == i && names act p
updates i p (lookup a b) = false

-- an accepted update of plane i at prefix p
abbrev pub updated : ℕ → Bits → Event → Bool
updated i p e = granted e.reply && updates i p e.call

-- What a plane holds: p with hop h exactly when the last accepted update of plane i at p announced h, or there was none and it
-- was held so before.
abbrev pub HoldsByLog : ℕ → Bits → Hop → List Event → Plane → Plane → Type 0
HoldsByLog i p h es was now =
    (held now p ≡ Some h) ↔ Since (updated i p) es (event (on i (announce p h)) done) (held was p ≡ Some h)

-- the call is an update of a prefix that covers a
abbrev pub covering : Bits → Call → Bool
covering a (on i act) = reaches act a
covering a (lookup b m) = false

-- an accepted update of a prefix that covers a
abbrev pub covered : Bits → Event → Bool
covered a e = granted e.reply && covering a e.call

-- the call is a lookup at the largest bound that falls into slot k of n
abbrev pub falls : ℕ → ℕ → Call → Bool
falls n k (on i act) = false
falls n k (lookup b m) = in_full n b m && slot_of n b == k

-- an accepted one
abbrev pub fell : ℕ → ℕ → Event → Bool
fell n k e = granted e.reply && falls n k e.call

-- What slot k of n holds: a with answer x exactly when the last accepted lookup at the largest bound that fell into it was for a and
-- got x, and no accepted update after it covers a; or no such lookup fell into it, no accepted update covers a, and it held that
-- before. Else it is empty.
abbrev pub CachedByLog : ℕ → ℕ → List Event → Slot → Slot → Type 0
CachedByLog n k es was now = (a : Bits) (x : Answer) →
    (now ≡ Some (a, x))
    ↔ (LastUnless (fell n k) (covered a) es (event (lookup a (length a)) (found x))
    ⊎ (Never (fell n k) es × Never (covered a) es × (was ≡ Some (a, x))))

-- the parts of a description
abbrev pub slots_in : Stack → List Slot
slots_in (table ps v r) = []
slots_in (cache n es d) = es
slots_in (filter q d) = []
slots_in (fall u l) = []

-- the layer below; of a fall-through the upper table
abbrev pub below : Stack → Stack
below (table ps v r) = table ps v r
below (cache n es d) = d
below (filter q d) = d
below (fall u l) = u

-- the lower table of a fall-through
abbrev pub lower : Stack → Stack
lower (table ps v r) = table ps v r
lower (cache n es d) = d
lower (filter q d) = d
lower (fall u l) = l

-- From d to e by these calls: every slot of every cache inside holds what the log of the calls that reached this cache says.
abbrev pub CachesByLog : Stack → Stack → List Call → Type 0
CachesByLog (table ps v r) e cs = Unit {0}
CachesByLog (cache n es d) e cs =
    ((k : ℕ) → k < length es → CachedByLog n k (log (view_of d) (room_of d) (planes_of d) cs) (slot es k) (slot (slots_in e) k))
    × CachesByLog d (below e) (cache_sent n (view_of d) (room_of d) (planes_of d) es cs)
CachesByLog (filter q d) e cs = CachesByLog d (below e) (filter_sent q (view_of d) (room_of d) (planes_of d) cs)
CachesByLog (fall u l) e cs =
    CachesByLog u (below e) (upper_sent (length (planes_of u)) cs)
    × CachesByLog l (lower e) (lower_sent (length (planes_of u)) (view_of u) (room_of u) (planes_of u) cs)
