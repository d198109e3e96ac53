-- The laws that every table keeps.
use Rattle.std.specs.Prelude.{◌≡◌, ℕ, ◌<◌, ◌≤◌, true, List, [], ◌∷◌, length}
use Rattle.bits.specs.Bits.{Bits, covers}
use Rattle.model.specs.Maps.{held, Rising}
use Rattle.model.specs.Longest.{answer}
use Rattle.model.specs.Machine.{Plane, View, Room, Call, Reply, plane, reply_of, next}
use Rattle.model.specs.Stack.{Stack, after}

-- the two lists of planes hold the same routes that cover the address, plane for plane
pub record Agree (ps qs : List Plane) (a : Bits) : Type 0 where
  pub count : length ps ≡ length qs
  pub routes : (i : ℕ) (p : Bits) → covers p a ≡ true → held (plane ps i) p ≡ held (plane qs i) p

-- locality: such planes give the address equal answers at every bound it has
abbrev pub Local : View → Type 0
Local v = (ps qs : List Plane) (a : Bits) → Agree ps qs a → (b : ℕ) → b ≤ length a → answer (v ps) a b ≡ answer (v qs) a b

-- one to eight planes, each a prefix map that fits
pub record Sound (r : Room) (ps : List Plane) : Type 0 where
  pub some : 1 ≤ length ps
  pub few : length ps ≤ 8
  pub rising : (i : ℕ) → Rising (plane ps i)
  pub fits : (i : ℕ) → i < length ps → r i (plane ps i) ≡ true

-- one call, from s to t: the reply and what is left of planes, view, room and cache entries
pub record Does {X : Type 0} (planes : X → List Plane) (view : X → View) (room : X → Room) (stack : X → Stack) (s t : X) (c : Call) (y : Reply) : Type 0 where
  pub reply : y ≡ reply_of (view s) (room s) (planes s) c
  pub planes_after : planes t ≡ next (room s) (planes s) c
  pub same_view : view t ≡ view s
  pub same_room : room t ≡ room s
  pub entries : stack t ≡ after (stack s) (c ∷ [])
