-- The promise of a whole list of calls, over any table that keeps the interface.
use Rattle.std.specs.Prelude.{◌≡◌, ℕ, ◌<◌, true, false, ◌↔◌, List, [], ◌∷◌, ◌++◌, length}
use Rattle.std.specs.List.{AllByRecursion}
use Rattle.bits.specs.Bits.{Bits}
use Rattle.model.specs.Maps.{held, put}
use Rattle.model.specs.Room.{Held}
use Rattle.model.specs.Machine.{Hop, Plane, View, Room, announce, withdraw, Call, on, Reply, done, plane, reads, replies, end}
use Rattle.model.specs.Stack.{Stack, after, Current}
use Rattle.model.specs.Laws.{Sound}
use Rattle.model.specs.Logs.{Event, event, events, calls_of, granted, HoldsByLog, CachesByLog}

-- One call of the list, after the events xs, with reply y: from planes ps, room r and layers d before the list.
pub record InTurn (r : Room) (ps : List Plane) (d : Stack) (xs : List Event) (c : Call) (y : Reply) : Type 0 where
  -- a refused call changes no plane and no cache entry
  pub refused_unchanged : granted y ≡ false → (end r ps (calls_of xs ++ (c ∷ [])) ≡ end r ps (calls_of xs)) × (after d (calls_of xs ++ (c ∷ [])) ≡ after d (calls_of xs))
  -- a fetch or a lookup changes no plane
  pub read_unchanged : reads c ≡ true → end r ps (calls_of xs ++ (c ∷ [])) ≡ end r ps (calls_of xs)
  -- an announcement on a plane that exists is refused exactly when the plane with it would not fit
  pub announced : (i : ℕ) (p : Bits) (h : Hop) → c ≡ on i (announce p h) → i < length ps → (granted y ≡ false) ↔ (r i (put (plane (end r ps (calls_of xs)) i) p h) ≡ false)
  -- a withdrawal of a held route is never refused
  pub withdrawn : (i : ℕ) (p : Bits) → c ≡ on i (withdraw p) → i < length ps → Held (held (plane (end r ps (calls_of xs)) i)) p → y ≡ done

-- Running xs and then zs is running both in one.
pub record InParts (v : View) (r : Room) (ps : List Plane) (d : Stack) (cs : List Call) (ys : List Reply) (qs : List Plane) (e : Stack) (xs zs : List Call) : Type 0 where
  pub replies_join : ys ≡ replies v r ps xs ++ replies v r (end r ps xs) zs
  pub planes_join : qs ≡ end r (end r ps xs) zs
  pub layers_join : e ≡ after (after d xs) zs

-- A list of calls cs takes a table from s to t with replies ys, all as the reference machine has it.
pub record RunsAsReference {X : Type 0} (planes : X → List Plane) (view : X → View) (room : X → Room) (stack : X → Stack) (s t : X) (cs : List Call) (ys : List Reply) : Type 0 where
  pub answers : ys ≡ replies (view s) (room s) (planes s) cs
  pub planes_after : planes t ≡ end (room s) (planes s) cs
  pub same_view : view t ≡ view s
  pub same_room : room t ≡ room s
  pub sound : Sound (room t) (planes t)
  -- every cache holds what the slot rule says for all calls that reached it, from what it held
  pub entries : stack t ≡ after (stack s) cs
  -- every answer in a cache is what the layer below it would give now
  pub current : Current (stack t)
  -- a list of refused calls leaves the very same table, storage and all
  pub unchanged : AllByRecursion (λ y. granted y ≡ false) ys → t ≡ s
  -- each call in its turn
  pub turns : (xs zs : List Event) (c : Call) (y : Reply) → events cs ys ≡ xs ++ (event c y ∷ zs) → InTurn (room s) (planes s) (stack s) xs c y
  -- what each plane holds, by the log alone
  pub routes : (i : ℕ) (p : Bits) (h : Hop) → HoldsByLog i p h (events cs ys) (plane (planes s) i) (plane (planes t) i)
  -- what each slot of each cache holds, by the log of the calls that reached the cache alone
  pub slots : CachesByLog (stack s) (stack t) cs
  pub parts : (xs zs : List Call) → cs ≡ xs ++ zs → InParts (view s) (room s) (planes s) (stack s) cs ys (planes t) (stack t) xs zs
