-- Worked cases, in one table: lists of calls on stacks with the replies and the trie nodes they come to, and prefixes as they are made.
use Rattle.std.specs.Prelude.{◌≡◌, ℕ, ◌+◌, ◌*◌, ◌^◌, true, false, List, [], ◌∷◌, map, take, Some, Ok, Err, Result}
use Rattle.bits.specs.Bits.{Bits}
use Rattle.bits.specs.Halves.{low_bits}
use Rattle.model.specs.Views.{Rule}
use Rattle.model.specs.Room.{nodes}
use Rattle.model.specs.Machine.{Hop, Call, on, lookup, announce, withdraw, Reply, done, found, refused, replies, end}
use Rattle.model.specs.Stack.{Stack, table, filter, fall, planes_of, view_of, room_of}
use Rattle.model.specs.Tables.{plain, rows_room, nodes_room}
use Rattle.address.specs.Prefixes.{checked}

-- the address a.b.c.d
abbrev pub dotted : ℕ → ℕ → ℕ → ℕ → Bits
dotted a b c d = low_bits 32 (a * 2 ^ 24 + b * 2 ^ 16 + c * 2 ^ 8 + d)

-- the prefix a.b.0.0/n
abbrev pub net : ℕ → ℕ → ℕ → Bits
net a b n = take n (dotted a b 0 0)

-- three next hops
abbrev pub A : Hop
A = dotted 192 0 2 1

abbrev pub B : Hop
B = dotted 192 0 2 2

abbrev pub C : Hop
C = dotted 192 0 2 3

-- an empty PATRICIA table of n nodes, and an empty sorted list of n rows
abbrev pub trie : ℕ → Stack
trie n = table ([] ∷ []) plain (nodes_room n)

abbrev pub sorted : ℕ → Stack
sorted n = table ([] ∷ []) plain (rows_room n)

-- deny 10.0.0.0/8 ge 16 le 32; permit 0.0.0.0/0 ge 0 le 32
abbrev pub no_long_tens : List Rule
no_long_tens =
    record { permit = false; prefix = net 10 0 8; ge = 16; le = 32 } ∷
    (record { permit = true; prefix = net 0 0 0; ge = 0; le = 32 } ∷ [])

-- what is asked: calls on a stack, or an address and a length for a prefix
pub data Case : Type 0 where
  calls : Stack → List Call → Case
  prefix : Bits → ℕ → Case

-- what comes of it: the replies and the trie nodes of each plane after them, or the prefix or its refusal
pub data Outcome : Type 0 where
  replied : List Reply → List ℕ → Outcome
  made : Result Bits ℕ → Outcome

abbrev pub outcome : Case → Outcome
outcome (calls d cs) = replied (replies (view_of d) (room_of d) (planes_of d) cs) (map nodes (end (room_of d) (planes_of d) cs))
outcome (prefix a n) = made (checked a n)

pub record Worked : Type 0 where
  pub case : Case
  pub comes_to : Outcome

infix 10 ◌⇒◌
abbrev pub ◌⇒◌ : Case → Outcome → Worked
c ⇒ o = record { case = c; comes_to = o }

abbrev pub worked : List Worked
worked =
    -- two /16 side by side take three nodes: a pool of three holds them, one of two does not
    (calls (trie 3) (on 0 (announce (net 10 0 16) A) ∷ (on 0 (announce (net 10 1 16) A) ∷ []))
    ⇒ replied (done ∷ (done ∷ [])) (3 ∷ [])) ∷
    ((calls (trie 2) (on 0 (announce (net 10 0 16) A) ∷ (on 0 (announce (net 10 1 16) A) ∷ []))
    ⇒ replied (done ∷ (refused 15 ∷ [])) (1 ∷ [])) ∷
    -- a /8 over a /16 takes two
    ((calls (trie 2) (on 0 (announce (net 10 0 8) A) ∷ (on 0 (announce (net 10 1 16) A) ∷ []))
    ⇒ replied (done ∷ (done ∷ [])) (2 ∷ [])) ∷
    -- a /8 over both its halves takes three, and three still without the /8
    ((calls (trie 3) (on 0 (announce (net 10 0 8) A) ∷ (on 0 (announce (net 10 0 9) A) ∷ (on 0 (announce (net 10 128 9) A) ∷ [])))
    ⇒ replied (done ∷ (done ∷ (done ∷ []))) (3 ∷ [])) ∷
    ((calls (trie 3) (on 0 (announce (net 10 0 8) A) ∷ (on 0 (announce (net 10 0 9) A) ∷ (on 0 (announce (net 10 128 9) A) ∷ (on 0 (withdraw (net 10 0 8)) ∷ []))))
    ⇒ replied (done ∷ (done ∷ (done ∷ (done ∷ [])))) (3 ∷ [])) ∷
    -- fall-through: the upper /8 hides the lower /16; at bound 4 the lower default shows; without the /8 the /16 does
    ((calls (fall (trie 512) (sorted 512))
    (on 0 (announce (net 10 0 8) A) ∷ (on 1 (announce (net 10 1 16) B) ∷ (on 1 (announce (net 0 0 0) C) ∷
    (lookup (dotted 10 1 2 3) 32 ∷ (lookup (dotted 10 1 2 3) 4 ∷ (on 0 (withdraw (net 10 0 8)) ∷ (lookup (dotted 10 1 2 3) 32 ∷ [])))))))
    ⇒ replied (done ∷ (done ∷ (done ∷ (found (Some (8, A)) ∷ (found (Some (0, C)) ∷ (done ∷ (found (Some (16, B)) ∷ []))))))) (0 ∷ (2 ∷ []))) ∷
    -- a filter goes on below a denied route
    ((calls (filter no_long_tens (sorted 512))
    (on 0 (announce (net 10 0 8) A) ∷ (on 0 (announce (net 10 1 16) B) ∷ (lookup (dotted 10 1 2 3) 32 ∷ (lookup (dotted 10 1 2 3) 33 ∷ []))))
    ⇒ replied (done ∷ (done ∷ (found (Some (8, A)) ∷ (refused 12 ∷ [])))) (2 ∷ [])) ∷
    -- length 32 is taken, 33 is too long; 10.0.0.1/8 has a bit beyond its length
    ((prefix (dotted 10 0 0 1) 32 ⇒ made (Ok (dotted 10 0 0 1))) ∷
    ((prefix (dotted 10 0 0 0) 33 ⇒ made (Err 12)) ∷
    ((prefix (dotted 10 0 0 1) 8 ⇒ made (Err 13)) ∷ [])))))))))

-- every case comes to what is written beside it
abbrev pub WorkedCases : Type 0
WorkedCases = map (λ w. outcome w.case) worked ≡ map (λ w. w.comes_to) worked
