-- What a verdict says about the questions that are left. Assumes nothing.
use Rattle.std.proofs.Common.{◌≡◌, ℕ, zero, suc, ◌-◌, Bool, true, false, cond, leb, List, [], length, take, Some, None, Ok, Err, Option, Result, sym, refl, ap, ◌∙◌, arith}
use Rattle.std.proofs.lemmas.Bool.{ne_eqb}
use Rattle.std.specs.declared.ops.ControlFlow.TheVariants.{Break, Continue}
use Rattle.bits.specs.Bits.{Bits}
use Rattle.model.specs.Maps.{Visible}
use Rattle.model.specs.Views.{Rule, permits}
use Rattle.model.specs.Laws.{Does}
use Rattle.model.specs.Machine.{Plane, View, Room, Target, lookup, found as told}
use Rattle.model.specs.Stack.{Stack}
use Rattle.model.proofs.Steps.{at, Step, step_of}
use Rattle.model.proofs.FilterLaws.{below, under, rest, shows}
use Rattle.model.proofs.Lookups.{refused_long}
use Rattle.table.specs.Meaning.{as_answer, of_lookup}
use Rattle.table.specs.declared.calls.Refusal.{Refusal}
use Rattle.filter.specs.Verdicts.{Verdict, below_denied, verdict, judged, AskedOnce}

-- a denied route: what is asked below it
denied_answer : {A : Type 0} (n : ℕ) (x : Option (ℕ × A)) → Break x ≡ below_denied n → (n ≡ 0) × (x ≡ None)
denied_answer {A} zero x e = (refl, cc)
denied_answer {A} (suc n) x e =
    let h : ◌≡◌ {A = Verdict A} (Break x) (Continue (suc n - 1)) = e ∙ rw (ne_eqb (suc n) 0 (λ z. omega arith)) refl in
    cc

denied_ask : {A : Type 0} (n m : ℕ) → ◌≡◌ {A = Verdict A} (Continue m) (below_denied n) → n ≡ suc m
denied_ask {A} zero m e = cc
denied_ask {A} (suc n) m e =
    let h : ◌≡◌ {A = Verdict A} (Continue m) (Continue (suc n - 1)) = e ∙ rw (ne_eqb (suc n) 0 (λ z. omega arith)) refl in
    let k : m ≡ suc n - 1 = cc in omega arith

module _ {A : Type 0} (bits : A → Bits) (q : List Rule) (a : Bits) where
  -- an answer that stands: nothing more is asked, and it is the filter's
  pub stands : (s : Visible Target) (y x : Option (ℕ × A)) → Break x ≡ verdict q a y → (rest q s a (as_answer bits y) ≡ []) × (shows q s a (as_answer bits y) ≡ as_answer bits x)
  stands s None x e = let h : x ≡ None = cc in (refl, ap (as_answer bits) (sym h))
  stands s (Some y) x e = go (permits q (take y.0 a)) e
    where
      go : (b : Bool) → Break x ≡ cond b (Break (Some y)) (below_denied y.0) → (cond b [] (below q s a y.0) ≡ []) × (cond b (Some (y.0, bits y.1)) (under q s a y.0) ≡ as_answer bits x)
      go true h = let k : x ≡ Some y = cc in (refl, ap (as_answer bits) (sym k))
      go false h =
          let k = denied_answer y.0 x h in
          (ap (below q s a) k.0, ap (under q s a) k.0 ∙ ap (as_answer bits) (sym k.1))

  -- a further question: the route was denied, and the bound is just below it
  pub asks : (y : Option (ℕ × A)) (m : ℕ) → Continue m ≡ verdict q a y → (h : Target) × ((as_answer bits y ≡ Some (suc m, h)) × (permits q (take (suc m) a) ≡ false))
  asks None m e = cc
  asks (Some y) m e = go (permits q (take y.0 a)) refl e
    where
      go : (b : Bool) → permits q (take y.0 a) ≡ b → Continue m ≡ cond b (Break (Some y)) (below_denied y.0) → (h : Target) × (◌≡◌ {A = Option (ℕ × Target)} (Some (y.0, bits y.1)) (Some (suc m, h)) × (permits q (take (suc m) a) ≡ false))
      go true p h = cc
      go false p h =
          let k = denied_ask {A = A} y.0 m h in
          (bits y.1, (ap (λ n. Some (n, bits y.1)) k, ap (λ n. permits q (take n a)) (sym k) ∙ p))

  module _ {X : Type 0} {planes : X → List Plane} {view : X → View} {room : X → Room} {stack : X → Stack} {s t : X} (n : ℕ) where
    -- the answer that was judged
    pub heard : (w : Verdict A) → AskedOnce bits q a (Does planes view room stack s t (lookup a n)) (Ok w) → (y : Option (ℕ × A)) × (Step (at planes view room stack s) (at planes view room stack t) (lookup a n) (told (as_answer bits y)) × (w ≡ verdict q a y))
    heard w o = go o.told o.asked o.comes_to
      where
        go : (x : Result (Option (ℕ × A)) Refusal) → Does planes view room stack s t (lookup a n) (of_lookup bits x) → Ok w ≡ judged q a x → (y : Option (ℕ × A)) × (Step (at planes view room stack s) (at planes view room stack t) (lookup a n) (told (as_answer bits y)) × (w ≡ verdict q a y))
        go (Ok y) d e = let h : w ≡ verdict q a y = cc in (y, (step_of d, h))
        go (Err m) d e = cc

    -- refused below: the bound was too long
    pub unheard : (m : Refusal) → AskedOnce bits q a (Does planes view room stack s t (lookup a n)) (Err m) → leb n (length a) ≡ false
    unheard m o = go o.told o.asked o.comes_to
      where
        go : (x : Result (Option (ℕ × A)) Refusal) → Does planes view room stack s t (lookup a n) (of_lookup bits x) → ◌≡◌ {A = Result (Verdict A) Refusal} (Err m) (judged q a x) → leb n (length a) ≡ false
        go (Ok y) d e = cc
        go (Err k) d e = refused_long (at planes view room stack s) (at planes view room stack t) a n _ (step_of d)
