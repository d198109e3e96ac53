-- What the calls and replies of the code stand for: calls and replies of the reference machine, case by case.
use Rattle.std.specs.Prelude.{ℕ, List, map, Some, None, Ok, Err, Option, Result}
use Rattle.std.specs.List.{filter_map}
use Rattle.bits.specs.Bits.{Bits}
use Rattle.model.specs.Machine as machine
use Rattle.model.specs.Machine.{Hop, Answer, on, announce, withdraw, fetch, lookup, done, holds, found, refused}
use Rattle.table.specs.declared.calls.Exchange.{Exchange}
use Rattle.table.specs.declared.calls.Refusal.{Refusal}
use Rattle.table.specs.declared.calls.Refusal.TheVariants.{NoPlane, BoundTooLong, NotHeld, NoRoom}
use Rattle.table.specs.declared.calls.Call.{Call}
use Rattle.table.specs.declared.calls.Call.TheVariants.{Announce, Withdraw, Fetch, Lookup}
use Rattle.table.specs.declared.calls.Granted.{Granted}
use Rattle.table.specs.declared.calls.Granted.TheVariants.{Done, Holds, Found}

-- the number of a refusal
abbrev pub number : Refusal → ℕ
number NoPlane = 6
number BoundTooLong = 12
number NotHeld = 14
number NoRoom = 15

-- a call, by the bits of its prefix and addresses
abbrev pub as_call : {A P : Type 0} → (A → Bits) → (P → Bits) → Call A P → machine.Call
as_call bits pbits (Announce i p h) = on i (announce (pbits p) (bits h))
as_call bits pbits (Withdraw i p) = on i (withdraw (pbits p))
as_call bits pbits (Fetch i p) = on i (fetch (pbits p))
as_call bits pbits (Lookup a b) = lookup (bits a) b

-- a fetched hop
abbrev pub as_hop : {A : Type 0} → (A → Bits) → Option A → Option Hop
as_hop bits None = None
as_hop bits (Some h) = Some (bits h)

-- the answer of a lookup
abbrev pub as_answer : {A : Type 0} → (A → Bits) → Option (ℕ × A) → Answer
as_answer bits None = None
as_answer bits (Some x) = Some (x.0, bits x.1)

-- a reply to a call
abbrev pub Reply : Type 0 → Type 0
Reply A = Result (Granted A) Refusal

-- a reply
abbrev pub as_reply : {A : Type 0} → (A → Bits) → Reply A → machine.Reply
as_reply bits (Ok Done) = done
as_reply bits (Ok (Holds o)) = holds (as_hop bits o)
as_reply bits (Ok (Found x)) = found (as_answer bits x)
as_reply bits (Err e) = refused (number e)

-- what the methods of a table return, as a reply
abbrev pub of_update : {U : Type 0} → Result U Refusal → machine.Reply
of_update (Ok u) = done
of_update (Err e) = refused (number e)

abbrev pub of_fetch : {A : Type 0} → (A → Bits) → Result (Option A) Refusal → machine.Reply
of_fetch bits (Ok o) = holds (as_hop bits o)
of_fetch bits (Err e) = refused (number e)

abbrev pub of_lookup : {A : Type 0} → (A → Bits) → Result (Option (ℕ × A)) Refusal → machine.Reply
of_lookup bits (Ok x) = found (as_answer bits x)
of_lookup bits (Err e) = refused (number e)

-- the calls of a list of exchanges
abbrev pub calls_in : {A P : Type 0} → List (Exchange A P) → List (Call A P)
calls_in xs = map (λ x. x.call) xs

-- the replies that are written in a list of exchanges
abbrev pub replies_in : {A P : Type 0} → List (Exchange A P) → List (Reply A)
replies_in xs = filter_map (λ x. x.reply) xs
