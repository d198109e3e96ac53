-- What the code's slots and caches say of those of the slot rule. Assumes nothing.
use Rattle.std.proofs.Common.{◌≡◌, ℕ, ◌+◌, ◌<◌, Bool, true, false, cond, nat_eq, ◌&&◌, List, [], ◌∷◌, ◌++◌, map, length, get_or, take, drop, set, Some, None, sym, refl, ap, ◌∙◌, arith}
use Rattle.std.proofs.lemmas.List.{length-map, get_or-map, map-set}
use Rattle.std.proofs.lemmas.List.Edits.{map_over_more}
use Rattle.std.proofs.lemmas.Bool.{and_parts, eqb-true, eq-eqb}
use Rattle.bits.specs.Bits.{Bits, covers, equal}
use Rattle.bits.specs.declared.halves.Halves.{Halves}
use Rattle.bits.proofs.Fronts.{halves_equal}
use Rattle.bits.proofs.Orders.{equal_is, equal_self}
use Rattle.model.specs.Laws.{Local, Does}
use Rattle.model.specs.Machine.{Plane, View, Room, Act, Reply, Answer, on}
use Rattle.model.specs.Slots.{Slot, slot, slot_of, in_full, holds_address, hits, reaches, cleared}
use Rattle.model.specs.Stack.{Stack, cache, AllUpToDate, Described}
use Rattle.model.proofs.CacheLaws.{slots_left, cache_act, current_acted}
use Rattle.model.proofs.Steps.{at, step_of, does_of}
use Rattle.cache.specs.Entries.{as_slots, answer_in, emptied}
use Rattle.cache.specs.declared.cache.Cache.{Cache}

-- the derived test of halves holds exactly where they are the same
pub halves_test : (x y : Halves) → (nat_eq x.hi y.hi && nat_eq x.lo y.lo) ≡ true → x ≡ y
halves_test x y t = let k = and_parts _ _ t in halves_equal x y (eqb-true _ _ k.0) (eqb-true _ _ k.1)

pub halves_same : (x y : Halves) → x ≡ y → (nat_eq x.hi y.hi && nat_eq x.lo y.lo) ≡ true
halves_same x y e = rw (eq-eqb _ _ (ap (λ (h : Halves). h.hi) e), eq-eqb _ _ (ap (λ (h : Halves). h.lo) e)) refl

-- a loop that writes over each element one that stands for the change h of what it stood for
pub swept_more : {X : Type 0} (f : X → Slot) (h : Slot → Slot) (xs ys : List X) (i : ℕ) (z d : X) → i < length ys → length ys ≡ length xs → map f ys ≡ map h (take i (map f xs)) ++ drop i (map f xs) → f z ≡ h (f (get_or ys i d)) → map f (set ys i z) ≡ map h (take (i + 1) (map f xs)) ++ drop (i + 1) (map f xs)
swept_more f h xs ys i z d l n e now =
    let m : i < length (map f xs) = omega (arith, length-map xs f) in
    map-set f ys i z ∙ ap (set (map f ys) i) now ∙ map_over_more h (map f xs) (map f ys) i (f (get_or ys i d)) m e (sym (get_or-map f ys i d (f (get_or ys i d)) l))

-- the slot has an answer for the address exactly where it holds it
pub answer_there : (s : Slot) (a : Bits) (w : Answer) → Some w ≡ answer_in s a → s ≡ Some (a, w)
answer_there None a w e = cc
answer_there (Some x) a w e = go (equal x.0 a) refl e
  where
    go : (b : Bool) → equal x.0 a ≡ b → Some w ≡ cond b (Some x.1) None → Some x ≡ Some (a, w)
    go true f h = let i : x.0 ≡ a = equal_is x.0 a f in let j : w ≡ x.1 = cc in rw (← i, j) refl
    go false f h = cc

pub answer_not : (s : Slot) (a : Bits) → None ≡ answer_in s a → holds_address s a ≡ false
answer_not None a e = refl
answer_not (Some x) a e = go (equal x.0 a) e
  where
    go : (b : Bool) → None ≡ cond b (Some x.1) None → b ≡ false
    go true h = cc
    go false h = refl

-- a lookup at the largest bound is a hit exactly where its slot holds the address
pub hit_is : (n : ℕ) (es : List Slot) (a : Bits) (b : ℕ) (w : Answer) → in_full n a b ≡ true → slot es (slot_of n a) ≡ Some (a, w) → hits n es a b ≡ true
hit_is n es a b w full e = rw (full, e, equal_self a) refl

pub miss_is : (n : ℕ) (es : List Slot) (a : Bits) (b : ℕ) → in_full n a b ≡ true → holds_address (slot es (slot_of n a)) a ≡ false → hits n es a b ≡ false
miss_is n es a b full m = rw (full, m) refl

-- an accepted act that reaches what the prefix covers empties those slots
pub update_clears : (act : Act) (p : Bits) → ((a : Bits) → reaches act a ≡ covers p a) → (es : List Slot) → map (emptied p) es ≡ map (cleared act) es
update_clears act p r [] = refl
update_clears act p r (None ∷ es) = ap (λ (t : List Slot). None ∷ t) (update_clears act p r es)
update_clears act p r (Some e ∷ es) = rw (r e.0, update_clears act p r es) refl

module _ {T : Type 0} (planes : T → List Plane) (view : T → View) (room : T → Room) (stack : T → Stack) where
  -- an act below: the slots that it leaves are up to date
  pub act_current : (s t : T) (i : ℕ) (act : Act) (y : Reply) (es left : List Slot) → left ≡ slots_left act y es → Does planes view room stack s t (on i act) y → Local (view s) → AllUpToDate (view s (planes s)) es → AllUpToDate (view t (planes t)) left
  act_current s t i act y es left l f local h = current_acted (at planes view room stack s) (at planes view room stack t) i act es left local l (step_of f) h

  -- and with them the cache did the act
  pub act_done : {A P : Type 0} (bits : A → Bits) (s t : Cache T A P) (i : ℕ) (act : Act) (y : Reply) → as_slots bits t.slots ≡ slots_left act y (as_slots bits s.slots) → Does planes view room stack s.inner t.inner (on i act) y → Described (stack s.inner) (planes s.inner) (view s.inner) (room s.inner) → t.count ≡ s.count → Does (λ x. planes x.inner) (λ x. view x.inner) (λ x. room x.inner) (λ x. cache x.count (as_slots bits x.slots) (stack x.inner)) s t (on i act) y
  act_done bits s t i act y l f x e = rw e (does_of (cache_act s.count (as_slots bits s.slots) (at planes view room stack s.inner) x (at planes view room stack t.inner) i act _ l (step_of f)))
