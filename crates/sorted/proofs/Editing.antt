-- A row written, put in or taken out, in rows of which the first n are in use. Assumes nothing.
use Rattle.std.proofs.Common.{◌≡◌, ℕ, ◌+◌, ◌-◌, ◌<◌, ◌≤◌, List, length, take, set, None, refl, ap, sym, ◌∙◌, arith}
use Rattle.std.specs.List.{insert, remove}
use Rattle.std.proofs.lemmas.List.{length-take-le}
use Rattle.bits.specs.Bits.{Bits}
use Rattle.model.specs.Maps.{held, put, removed}
use Rattle.model.proofs.MapLaws.{none≢some}
use Rattle.model.proofs.Edits.{take_set_within, opened_takes, closed_takes}
use Rattle.sorted.specs.declared.row.Row.{Row}
use Rattle.sorted.specs.Rows.{unused, key, entries}
use Rattle.sorted.specs.Places.{PutIn, TakenOut, HeldAt, AbsentAt}

module _ (n : ℕ) (was xs : List Row) (within : n ≤ length was) (used : xs ≡ take n was) where
  long : length xs ≡ n
  long = ap length used ∙ length-take-le n was within

  -- a row written over that of its prefix
  pub written : (i : ℕ) (row : Row) → HeldAt xs (key row) i → entries (take n (set was i row)) ≡ put (entries (take n was)) (key row) row
  written i row h =
      let l : i < n = omega (arith, h.inside, long) in
      ap entries (take_set_within n was i row l ∙ ap (λ ys. set ys i row) (sym used))
      ∙ h.replaced row refl ∙ ap (λ ys. put (entries ys) (key row) row) used

  -- a row put in
  pub entered : (new : List Row) (i : ℕ) (row : Row) → n < length was → AbsentAt xs (key row) i → PutIn i n row was new
      → entries (take (n + 1) new) ≡ put (entries (take n was)) (key row) row
  entered new i row m h p =
      let l : i ≤ n = omega (arith, h.within, long) in
      ap entries (opened_takes was new unused i n row l m p.long p.below p.there p.moved ∙ ap (λ ys. insert ys i row) (sym used))
      ∙ h.entered row refl ∙ ap (λ ys. put (entries ys) (key row) row) used

  -- a row taken out
  pub taken : (new : List Row) (i : ℕ) (p : Bits) → HeldAt xs p i → TakenOut i n was new
      → entries (take (n - 1) new) ≡ removed (entries (take n was)) p
  taken new i p h t =
      let l : i < n = omega (arith, h.inside, long) in
      ap entries (closed_takes was new unused i n l within t.long t.below t.moved ∙ ap (λ ys. remove ys i) (sym used))
      ∙ h.taken ∙ ap (λ ys. removed (entries ys) p) used

  pub some_used : (i : ℕ) (p : Bits) → HeldAt xs p i → n - 1 + 1 ≡ n
  some_used i p h = omega (arith, h.inside, long)

  pub was_held : (i : ℕ) (p : Bits) → HeldAt xs p i → held (entries (take n was)) p ≡ None → ⊥
  was_held i p h e = none≢some _ (sym e ∙ ap (λ ys. held (entries ys) p) (sym used) ∙ h.found)
