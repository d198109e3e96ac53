-- A call on a fall-through, by the calls on its two tables. Assumes nothing.
use Rattle.std.proofs.Common.{◌≡◌, ℕ, ◌-◌, ◌<◌, ◌≤◌, false, ◌++◌, length, is_ok, Some, None, Ok, Err, Option, Result, sym}
use Rattle.std.proofs.lemmas.Bool.{false≢true}
use Rattle.bits.specs.Bits.{Bits}
use Rattle.model.specs.Laws.{Does}
use Rattle.model.specs.Machine.{Act, Call, Reply, on, lookup, found}
use Rattle.model.specs.Stack.{fall, fall_view, fall_room}
use Rattle.model.proofs.Steps.{At, at, step_of, does_of}
use Rattle.model.proofs.FallLaws.{fall_upper, fall_lower, fall_too_long, fall_first, fall_second}
use Rattle.model.proofs.Lookups.{refused_long, found_short}
use Rattle.table.specs.declared.calls.Refusal.{Refusal}
use Rattle.table.specs.declared.interface.Table.{Ghosts}
use Rattle.table.specs.Meaning.{of_lookup}
use Rattle.fall_through.specs.declared.layer.FallThrough.{FallThrough}

module _ {U L A P : Type 0} (u : Ghosts U A P) (l : Ghosts L A P) where
  abbrev upper_of : FallThrough U L A P → At
  upper_of s = at u.planes u.view u.room u.stack s.upper

  abbrev lower_of : FallThrough U L A P → At
  lower_of s = at l.planes l.view l.room l.stack s.lower

  -- what a call does to the two tables as one
  abbrev pub Falls : FallThrough U L A P → FallThrough U L A P → Call → Reply → Type 0
  Falls s t c y = Does {X = FallThrough U L A P} (λ x. u.planes x.upper ++ l.planes x.lower) (λ x. fall_view (length (u.planes x.upper)) (u.view x.upper) (l.view x.lower)) (λ x. fall_room (length (u.planes x.upper)) (u.room x.upper) (l.room x.lower)) (λ x. fall (u.stack x.upper) (l.stack x.lower)) s t c y

  -- the upper table has made the call
  pub by_upper : (s t : FallThrough U L A P) (i : ℕ) (act : Act) (y : Reply) → i < length (u.planes s.upper) → t.lower ≡ s.lower → Does u.planes u.view u.room u.stack s.upper t.upper (on i act) y → Falls s t (on i act) y
  by_upper s t i act y n e f = rw e (does_of (fall_upper (upper_of s) (lower_of s) (u.described s.upper) (upper_of t) i act n (step_of f)))

  -- the lower table has made the call
  pub by_lower : (s t : FallThrough U L A P) (i : ℕ) (act : Act) (y : Reply) → length (u.planes s.upper) ≤ i → t.upper ≡ s.upper → Does l.planes l.view l.room l.stack s.lower t.lower (on (i - length (u.planes s.upper)) act) y → Falls s t (on i act) y
  by_lower s t i act y n e f = rw e (does_of (fall_lower (upper_of s) (lower_of s) (u.described s.upper) (lower_of t) i act n (step_of f)))

  -- the upper table has refused the lookup
  pub none_asked : (s t : FallThrough U L A P) (a : Bits) (b : ℕ) (bits : A → Bits) (r : Result (Option (ℕ × A)) Refusal) → is_ok r ≡ false → t.lower ≡ s.lower → Does u.planes u.view u.room u.stack s.upper t.upper (lookup a b) (of_lookup bits r) → Falls s t (lookup a b) (of_lookup bits r)
  none_asked s t a b bits (Ok x) n e f = absurd (false≢true (sym n))
  none_asked s t a b bits (Err m) n e f =
      let long = refused_long (upper_of s) (upper_of t) a b _ (step_of f) in
      rw e (does_of (fall_too_long (upper_of s) (lower_of s) (u.described s.upper) (upper_of t) a b long (step_of f)))

  -- the upper table has the answer
  pub first_asked : (s t : FallThrough U L A P) (a : Bits) (b : ℕ) (bits : A → Bits) (x : ℕ × A) (y : Reply) → y ≡ found (Some (x.0, bits x.1)) → t.lower ≡ s.lower → Does u.planes u.view u.room u.stack s.upper t.upper (lookup a b) (found (Some (x.0, bits x.1))) → Falls s t (lookup a b) y
  first_asked s t a b bits x y n e f =
      let short = found_short (upper_of s) (upper_of t) a b (Some (x.0, bits x.1)) (step_of f) in
      rw (n, e) (does_of (fall_first (upper_of s) (lower_of s) (u.described s.upper) (upper_of t) a b (x.0, bits x.1) short (step_of f)))

  -- the upper table has none, and the lower is asked
  pub second_asked : (s t : FallThrough U L A P) (a : Bits) (b : ℕ) (y : Reply) → Does u.planes u.view u.room u.stack s.upper t.upper (lookup a b) (found None) → Does l.planes l.view l.room l.stack s.lower t.lower (lookup a b) y → Falls s t (lookup a b) y
  second_asked s t a b y f g =
      let short = found_short (upper_of s) (upper_of t) a b None (step_of f) in
      does_of (fall_second (upper_of s) (lower_of s) (u.described s.upper) (upper_of t) (lower_of t) a b short (step_of f) (step_of g))
