-- The reference machine: what every table and every stack of layers has to answer. Its state is the planes alone.
use Rattle.std.specs.Prelude.{ℕ, Bool, true, false, cond, not, List, [], ◌∷◌, length, is_some, Some, None, Option, nat_le, nat_lt, slice_index_or, slice_set}
use Rattle.bits.specs.Bits.{Bits}
use Rattle.model.specs.Maps.{Map, Visible, held, put, removed}
use Rattle.model.specs.Longest.{answer}

-- a next hop: an address of the table's kind
abbrev pub Hop : Type 0
Hop = Bits

-- what a plane keeps for a prefix
abbrev pub Stored : Type 0
Stored = Hop

-- what a visible map gives for a prefix
abbrev pub Target : Type 0
Target = Hop

-- the answer of a lookup: the length of the longest match with its target, or none
abbrev pub Answer : Type 0
Answer = Option (ℕ × Target)

-- a plane: one of the numbered prefix maps of a table, with routes of its own
abbrev pub Plane : Type 0
Plane = Map Stored

-- a view: the rule from the planes to the one map that lookups see
abbrev pub View : Type 0
View = List Plane → Visible Target

-- a room rule: for each plane, which maps fit
abbrev pub Room : Type 0
Room = ℕ → Plane → Bool

-- what can be done on one plane
pub data Act : Type 0 where
  announce : Bits → Hop → Act
  withdraw : Bits → Act
  fetch : Bits → Act

-- the calls: an act on a plane, or a lookup of an address at a bound
pub data Call : Type 0 where
  on : ℕ → Act → Call
  lookup : Bits → ℕ → Call

pub data Reply : Type 0 where
  done : Reply
  holds : Option Hop → Reply
  found : Answer → Reply
  refused : ℕ → Reply

abbrev pub plane : List Plane → ℕ → Plane
plane ps i = slice_index_or ps i []

-- why an act on a plane that exists is refused, if it is: 15, the plane with the announced prefix would not fit; 14, the prefix to withdraw is not held
abbrev pub act_refusal : (Plane → Bool) → Plane → Act → Option ℕ
act_refusal fits m (announce p h) = cond (fits (put m p h)) None (Some 15)
act_refusal fits m (withdraw p) = cond (is_some (held m p)) None (Some 14)
act_refusal fits m (fetch p) = None

-- why a call is refused, if it is: 6, the plane does not exist, before all else; 12, the bound exceeds the address's width
abbrev pub refusal_of : Room → List Plane → Call → Option ℕ
refusal_of r ps (on i act) = cond (nat_lt i (length ps)) (act_refusal (r i) (plane ps i) act) (Some 6)
refusal_of r ps (lookup a b) = cond (nat_le b (length a)) None (Some 12)

abbrev pub accepted : Room → List Plane → Call → Bool
accepted r ps c = not (is_some (refusal_of r ps c))

-- the plane that an accepted act leaves
abbrev pub applied : Plane → Act → Plane
applied m (announce p h) = put m p h
applied m (withdraw p) = removed m p
applied m (fetch p) = m

-- the planes that a call leaves: a refused one changes nothing
abbrev pub next : Room → List Plane → Call → List Plane
next r ps (on i act) = cond (accepted r ps (on i act)) (slice_set ps i (applied (plane ps i) act)) ps
next r ps (lookup a b) = ps

-- the call only reads: a fetch or a lookup
abbrev pub reads : Call → Bool
reads (on i (announce p h)) = false
reads (on i (withdraw p)) = false
reads (on i (fetch p)) = true
reads (lookup a b) = true

abbrev pub act_reply : Plane → Act → Reply
act_reply m (announce p h) = done
act_reply m (withdraw p) = done
act_reply m (fetch p) = holds (held m p)

-- the reply to an accepted call
abbrev pub accepted_reply : View → List Plane → Call → Reply
accepted_reply v ps (on i act) = act_reply (plane ps i) act
accepted_reply v ps (lookup a b) = found (answer (v ps) a b)

abbrev pub unless_refused : Option ℕ → Reply → Reply
unless_refused None y = y
unless_refused (Some n) y = refused n

abbrev pub reply_of : View → Room → List Plane → Call → Reply
reply_of v r ps c = unless_refused (refusal_of r ps c) (accepted_reply v ps c)

-- the replies to a list of calls
abbrev pub replies : View → Room → List Plane → List Call → List Reply
replies v r ps [] = []
replies v r ps (c ∷ cs) = reply_of v r ps c ∷ replies v r (next r ps c) cs

-- the planes after a list of calls
abbrev pub end : Room → List Plane → List Call → List Plane
end r ps [] = ps
end r ps (c ∷ cs) = end r (next r ps c) cs
