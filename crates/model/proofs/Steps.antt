-- One call on a table, by the values of its planes, view, room and description before and after. Assumes nothing.
use Rattle.std.proofs.Common.{◌≡◌, false, List, [], ◌∷◌, length, sym, ap, ◌∙◌}
use Rattle.model.specs.Machine.{Plane, View, Room, Call, Reply, next, reply_of}
use Rattle.model.specs.Stack.{Stack, after, Described}
use Rattle.model.specs.Laws.{Does}
use Rattle.model.specs.Logs.{granted}
use Rattle.model.proofs.PromiseLaws.{refused_not_accepted}
use Rattle.model.proofs.StackLaws.{length_next, next_refused}

-- what a table means at one moment
pub record At : Type 0 where
  pub planes : List Plane
  pub view : View
  pub room : Room
  pub stack : Stack

abbrev pub at : {X : Type 0} → (X → List Plane) → (X → View) → (X → Room) → (X → Stack) → X → At
at planes view room stack s = record { planes = planes s; view = view s; room = room s; stack = stack s }

pub record Step (s t : At) (c : Call) (y : Reply) : Type 0 where
  pub reply : y ≡ reply_of s.view s.room s.planes c
  pub planes_after : t.planes ≡ next s.room s.planes c
  pub same_view : t.view ≡ s.view
  pub same_room : t.room ≡ s.room
  pub entries : t.stack ≡ after s.stack (c ∷ [])

abbrev pub DescribedAt : At → Type 0
DescribedAt s = Described s.stack s.planes s.view s.room

module _ {X : Type 0} {planes : X → List Plane} {view : X → View} {room : X → Room} {stack : X → Stack} {s t : X} {c : Call} {y : Reply} where
  pub step_of : Does planes view room stack s t c y → Step (at planes view room stack s) (at planes view room stack t) c y
  step_of d = record { reply = d.reply; planes_after = d.planes_after; same_view = d.same_view; same_room = d.same_room; entries = d.entries }

  pub does_of : Step (at planes view room stack s) (at planes view room stack t) c y → Does planes view room stack s t c y
  does_of d = record { reply = d.reply; planes_after = d.planes_after; same_view = d.same_view; same_room = d.same_room; entries = d.entries }

-- the number of planes stays
pub step_count : (s t : At) {c : Call} {y : Reply} → Step s t c y → length t.planes ≡ length s.planes
step_count s t {c} d = ap length d.planes_after ∙ length_next s.room s.planes c

-- a refusal leaves the planes
pub step_refused : (s t : At) {c : Call} {y : Reply} → Step s t c y → granted y ≡ false → t.planes ≡ s.planes
step_refused s t {c} d g =
    d.planes_after ∙ next_refused s.room s.planes c (refused_not_accepted s.view s.room s.planes c (ap granted (sym d.reply) ∙ g))
