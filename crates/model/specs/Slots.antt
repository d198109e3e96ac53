-- The slot rule: what the slots of a destination cache hold.
use Rattle.std.specs.Prelude.{ℕ, ◌+◌, ◌-◌, ◌*◌, ◌%◌, Bool, true, false, cond, not, ◌&&◌, List, [], ◌∷◌, map, length, drop, Some, None, Option, ◌==◌, slice_index_or, slice_set}
use Rattle.bits.specs.Bits.{Bits, covers, equal}
use Rattle.model.specs.Longest.{answer}
use Rattle.model.specs.Machine.{Plane, Answer, View, Room, Act, announce, withdraw, fetch, Call, on, lookup, accepted, next}

-- a slot holds nothing, or an address with its answer
abbrev pub Slot : Type 0
Slot = Option (Bits × Answer)

abbrev pub slot : List Slot → ℕ → Slot
slot es k = slice_index_or es k None

-- the number that the bits make, after the digits n
abbrev pub number : ℕ → Bits → ℕ
number n [] = n
number n (true ∷ a) = number (2 * n + 1) a
number n (false ∷ a) = number (2 * n) a

-- the slot of an address: its last 16 bits, modulo the slot count
abbrev pub slot_of : ℕ → Bits → ℕ
slot_of n a = number 0 (drop (length a - 16) a) % n

-- a lookup that slots take part in: some slot is used, and the bound is the largest
abbrev pub in_full : ℕ → Bits → ℕ → Bool
in_full n a b = not (n == 0) && b == length a

-- the slot holds this address
abbrev pub holds_address : Slot → Bits → Bool
holds_address None a = false
holds_address (Some e) a = equal e.0 a

-- a hit: the lookup is answered from its slot
abbrev pub hits : ℕ → List Slot → Bits → ℕ → Bool
hits n es a b = in_full n a b && holds_address (slot es (slot_of n a)) a

-- the act is an update of a prefix that covers the address
abbrev pub reaches : Act → Bits → Bool
reaches (announce p h) a = covers p a
reaches (withdraw p) a = covers p a
reaches (fetch p) a = false

-- a slot after an accepted act: an update empties it where the prefix covers its address
abbrev pub cleared : Act → Slot → Slot
cleared act None = None
cleared act (Some e) = cond (reaches act e.0) None (Some e)

-- the slots after an accepted call: a lookup at the largest bound fills its slot, with none as an answer too
abbrev pub slots_applied : ℕ → View → List Plane → List Slot → Call → List Slot
slots_applied n v ps es (on i act) = map (cleared act) es
slots_applied n v ps es (lookup a b) = cond (in_full n a b) (slice_set es (slot_of n a) (Some (a, answer (v ps) a b))) es

-- the slots after a call: a refused one changes none
abbrev pub slot_rule : ℕ → View → Room → List Plane → List Slot → Call → List Slot
slot_rule n v r ps es c = cond (accepted r ps c) (slots_applied n v ps es c) es

-- the slots after a list of calls that reached the cache
abbrev pub slots_after : ℕ → View → Room → List Plane → List Slot → List Call → List Slot
slots_after n v r ps es [] = es
slots_after n v r ps es (c ∷ cs) = slots_after n v r (next r ps c) (slot_rule n v r ps es c) cs
