-- Rules in the places of a policy, one after the other. Assumes nothing.
use Rattle.std.proofs.Common.{◌≡◌, ℕ, zero, suc, ◌+◌, ◌<◌, true, false, List, [], ◌∷◌, map, length, get_or, Some, None, Option, refl, arith, Bool, cond, not, nat_lt, zero-add, add-zero, ◌≤◌, option_map, slice_get, subst}
use Rattle.std.proofs.lemmas.Bool.{true≢false}
use Rattle.std.proofs.lemmas.Bool.Decides.{nat_tests}
use Rattle.std.specs.List.{position, position_or_len}
use Rattle.std.specs.Fn.{Called, Mut}
use Rattle.std.specs.Array.{IsFromFnResultFrom, IsFromFnResult}
use Rattle.bits.specs.Bits.{Bits}
use Rattle.model.specs.Views as views
use Rattle.model.specs.Views.{permits}
use Rattle.filter.specs.declared.entry.Entry.{Entry}
use Rattle.filter.specs.Rules.{entry_rule, well_formed}
use Rattle.filter.specs.Policies.{rules_in, ends, permitted, first_bad}

module _ {X : Type 0} (w : ℕ) (f : X → views.Rule) where
  -- the same search, with places counted from i
  bad_from : (i : ℕ) (xs : List X) → first_bad w i (map f xs) ≡ cond (nat_lt (position_or_len (λ x. not (well_formed w (f x))) xs) (length xs)) (Some (i + position_or_len (λ x. not (well_formed w (f x))) xs)) None
  bad_from i [] = refl
  bad_from i (x ∷ xs) = go (bad_from (suc i) xs) (well_formed w (f x)) refl
    where
      go : first_bad w (suc i) (map f xs) ≡ cond (nat_lt (position_or_len (λ x. not (well_formed w (f x))) xs) (length xs)) (Some (suc i + position_or_len (λ x. not (well_formed w (f x))) xs)) None → (b : Bool) → well_formed w (f x) ≡ b → first_bad w i (map f (x ∷ xs)) ≡ cond (nat_lt (position_or_len (λ x. not (well_formed w (f x))) (x ∷ xs)) (length (x ∷ xs))) (Some (i + position_or_len (λ x. not (well_formed w (f x))) (x ∷ xs))) None
      go h true e = grind (arith, nat_tests)
      go h false e = grind (arith, nat_tests)

  -- the first bad rule is at the first place whose rule is not well-formed
  pub first_bad_at : (xs : List X) → first_bad w 0 (map f xs) ≡ position (λ x. not (well_formed w (f x))) xs
  first_bad_at xs = rw zero-add at (bad_from 0 xs)

module _ (p : Bits) where
  -- the first place where the search ends decides
  pub decided_at : (xs : List (Option Entry)) (i : ℕ) → ((k : ℕ) → k < i → ends (get_or xs k None) p ≡ false) → i < length xs → ends (get_or xs i None) p ≡ true → permits (rules_in xs) p ≡ permitted (get_or xs i None)
  decided_at [] i before l here = absurd (omega arith)
  decided_at (None ∷ xs) zero before l here = refl
  decided_at (Some e ∷ xs) zero before l here = rw here refl
  decided_at (None ∷ xs) (suc i) before l here = absurd (true≢false (before 0 (omega arith)))
  decided_at (Some e ∷ xs) (suc i) before l here = rw (before 0 (omega arith)) (decided_at xs i (λ k h. before (suc k) (omega arith)) (omega arith) here)

  -- where it ends nowhere the route is denied
  pub decided_nowhere : (xs : List (Option Entry)) → ((k : ℕ) → k < length xs → ends (get_or xs k None) p ≡ false) → permits (rules_in xs) p ≡ false
  decided_nowhere [] before = refl
  decided_nowhere (None ∷ xs) before = absurd (true≢false (before 0 (omega arith)))
  decided_nowhere (Some e ∷ xs) before = rw (before 0 (omega arith)) (decided_nowhere xs (λ k h. before (suc k) (omega arith)))

-- a list that was made by calls of a function, which it leaves as it is: what each call gives, the list has at its number
module _ {F B : Type 0} (g : Mut F (ℕ × Unit {0}) B) (f : F) (R : ℕ → B → Type 0) (each : (i : ℕ) (y : B) (q : F) → Called g f (i, tt) y q → (q ≡ f) × R i y) where
  made_from : (n i : ℕ) (p : F) → p ≡ f → (ys : List B) → IsFromFnResultFrom g p ys i n → (k : ℕ) (d : B) → k < n → R (i + k) (get_or ys (i + k) d)
  made_from zero i p e ys m k d l = absurd (omega arith)
  made_from (suc n) i p e ys m zero d l = rw (add-zero, m.2.1 d) (each i m.1 m.0 (rw e at m.3)).1
  made_from (suc n) i p e ys m (suc k) d l =
      let at = made_from n (i + 1) m.0 (each i m.1 m.0 (rw e at m.3)).0 ys m.4 k d (omega arith) in
      let P : ℕ → Type 0 = λ j. R j (get_or ys j d) in subst P (omega arith) at

-- the same for such a list as a whole
pub made_at : {F B : Type 0} (g : Mut F (ℕ × Unit {0}) B) (f : F) (ys : List B) (n : ℕ) → IsFromFnResult g f ys n → (R : ℕ → B → Type 0) → ((i : ℕ) (y : B) (q : F) → Called g f (i, tt) y q → (q ≡ f) × R i y) → (k : ℕ) (d : B) → k < n → R k (get_or ys k d)
made_at g f ys n m R each k d l = let at = made_from g f R each n 0 f refl ys m.each k d l in let P : ℕ → Type 0 = λ j. R j (get_or ys j d) in subst P (omega arith) at

-- places that hold these rules, in their order
pub rules_held : {X : Type 0} (f : X → views.Rule) (ps : List (Option Entry)) (xs : List X) → length xs ≤ length ps → ((k : ℕ) → k < length ps → option_map entry_rule (get_or ps k None) ≡ option_map f (slice_get xs k)) → rules_in ps ≡ map f xs
rules_held f [] [] l h = refl
rules_held f [] (x ∷ xs) l h = absurd (omega arith)
rules_held f (None ∷ ps) [] l h = refl
rules_held f (Some e ∷ ps) [] l h = let a = h 0 (omega arith) in cc
rules_held f (None ∷ ps) (x ∷ xs) l h = let a = h 0 (omega arith) in cc
rules_held f (Some e ∷ ps) (x ∷ xs) l h = let a = h 0 (omega arith) in let b = rules_held f ps xs (omega arith) (λ k m. h (suc k) (omega arith)) in cc
