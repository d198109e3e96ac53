-- What the entries of the code stand for: slots of the slot rule.
use Rattle.std.specs.Prelude.{◌≡◌, ℕ, ◌≤◌, cond, List, map, length, Some, None, Option}
use Rattle.bits.specs.Bits.{Bits, covers, equal}
use Rattle.model.specs.Machine.{Answer}
use Rattle.model.specs.Slots.{Slot}
use Rattle.table.specs.Meaning.{as_answer}
use Rattle.cache.specs.declared.entry.Entry.{Entry}

-- one slot: empty, or an address with its answer
abbrev pub as_slot : {A : Type 0} → (A → Bits) → Option (Entry A) → Slot
as_slot bits None = None
as_slot bits (Some e) = Some (bits e.address, as_answer bits e.answer)

-- all of them
abbrev pub as_slots : {A : Type 0} → (A → Bits) → List (Option (Entry A)) → List Slot
as_slots bits es = map (as_slot bits) es

-- the answer that a slot has for the address, if it holds this address
abbrev pub answer_in : Slot → Bits → Option Answer
answer_in None a = None
answer_in (Some e) a = cond (equal e.0 a) (Some e.1) None

-- an answer that may be missing
abbrev pub as_hit : {A : Type 0} → (A → Bits) → Option (Option (ℕ × A)) → Option Answer
as_hit bits None = None
as_hit bits (Some x) = Some (as_answer bits x)

-- a slot after an accepted update of the prefix: empty where the prefix covers its address
abbrev pub emptied : Bits → Slot → Slot
emptied p None = None
emptied p (Some e) = cond (covers p e.0) None (Some e)

-- there are 4,096 slots, and no more are used
pub record Sized {X : Type 0} (count : ℕ) (slots : List X) : Type 0 where
  pub few : count ≤ 4096
  pub all : length slots ≡ 4096
