-- How calls and what they give are written, with the texts of the addresses and prefixes in them.
use Rattle.std.specs.Prelude.{ℕ, List, Some, None, Option, codes, decimal}
use Rattle.std.specs.Fmt.{◌++?◌}
use Rattle.table.specs.declared.calls.Call.{Call}
use Rattle.table.specs.declared.calls.Call.TheVariants.{Announce, Withdraw, Fetch, Lookup}
use Rattle.table.specs.declared.calls.Granted.{Granted}
use Rattle.table.specs.declared.calls.Granted.TheVariants.{Done, Holds, Found}

-- a call
abbrev pub call_text : {A P : Type 0} → (A → Option (List ℕ)) → (P → Option (List ℕ)) → Call A P → Option (List ℕ)
call_text show pshow (Announce i p h) = Some (codes "announce ") ++? pshow p ++? Some (codes " via ") ++? show h ++? Some (codes " on plane ") ++? Some (decimal i)
call_text show pshow (Withdraw i p) = Some (codes "withdraw ") ++? pshow p ++? Some (codes " on plane ") ++? Some (decimal i)
call_text show pshow (Fetch i p) = Some (codes "fetch ") ++? pshow p ++? Some (codes " on plane ") ++? Some (decimal i)
call_text show pshow (Lookup a b) = Some (codes "lookup ") ++? show a ++? Some (codes " at bound ") ++? Some (decimal b)

-- what an accepted call gives
abbrev pub granted_text : {A : Type 0} → (A → Option (List ℕ)) → Granted A → Option (List ℕ)
granted_text show Done = Some (codes "done")
granted_text show (Holds None) = Some (codes "none")
granted_text show (Holds (Some h)) = show h
granted_text show (Found None) = Some (codes "none")
granted_text show (Found (Some x)) = Some (codes "length ") ++? Some (decimal x.0) ++? Some (codes " via ") ++? show x.1
