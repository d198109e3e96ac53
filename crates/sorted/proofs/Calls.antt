-- What a call does to the plane, by what it does to the rows; and the rows that a kind of address makes.
use Rattle.std.proofs.Common.{◌≡◌, ℕ, ◌-◌, ◌≤◌, true, false, List, ◌++◌, length, take, replicate, Some, None, Ok, Err, Option, Result, sym, refl, ap, ◌∙◌, arith}
use Rattle.std.proofs.lemmas.List.{length-map, length-take}
use Rattle.std.proofs.lemmas.Bool.{le-leb}
use Rattle.bits.specs.Bits.{Bits}
use Rattle.bits.specs.Halves.{front, Aligned, Fit}
use Rattle.bits.specs.declared.halves.Halves.{Halves}
use Rattle.bits.proofs.Fronts.{start_aligned}
use Rattle.model.specs.Maps.{held, put, removed}
use Rattle.model.specs.Room.{fits_rows}
use Rattle.model.specs.Machine.{Hop, on, announce, withdraw, done}
use Rattle.model.specs.Tables.{usable, rows_room}
use Rattle.model.specs.Single.{Single}
use Rattle.model.proofs.OnePlane.{announce_done, announce_full, withdraw_done, withdraw_absent}
use Rattle.model.proofs.Mapped.{made}
use Rattle.table.specs.declared.calls.Refusal.{Refusal}
use Rattle.table.specs.Meaning.{of_update}
use Rattle.sorted.specs.declared.row.Row.{Row}
use Rattle.sorted.specs.Rows.{key, route_of, routes, WellFormed, entries}
use Rattle.sorted.specs.Places.{Inserted, Removed}
use Rattle.sorted.proofs.Planes.{hop_of, plane_holds, inserted_plane, full, removed_plane}

-- a front of the halves at which p starts has nothing set beyond it
pub start_clear : (w n : ℕ) (h s : Halves) (p : Bits) → w ≤ 128 → h ≡ s → n ≡ length p → length p ≤ w
    → front w s ≡ p ++ replicate (w - length p) false → Fit s × Aligned w s → Aligned n h
start_clear w n h s p narrow e f l start fits = rw (e, f) (start_aligned w s p l narrow fits.1 start)

fits : (w k c : ℕ) (rows : List Row) → k ≤ usable c → fits_rows (usable c) (routes w k rows) ≡ true
fits w k c rows l = le-leb _ _ (omega (arith, length-map (take k rows) (route_of w), length-take k rows))

module _ (w n : ℕ) (rows : List Row) (good : WellFormed w n rows) where
  -- a row put in, or refused
  pub announced : {U : Type 0} (row : Row) (p : Bits) (h : Hop) → key row ≡ p → hop_of w row ≡ h → (r : Result U Refusal) (k : ℕ) (new : List Row)
      → Inserted (usable (length rows)) row n rows k new r
      → Single (rows_room (length rows)) (routes w n rows) (routes w k new) (on 0 (announce p h)) (of_update r)
  announced row p h e f (Ok u) k new x =
      let plane : routes w k new ≡ put (routes w n rows) p h =
      inserted_plane w n rows good u row k new x ∙ ap (λ (q : Bits). put (routes w n rows) q (hop_of w row)) e ∙ ap (put (routes w n rows) p) f in
      rw plane (announce_done (rows_room (length rows)) (routes w n rows) p h (ap (fits_rows (usable (length rows))) (sym plane) ∙ fits w k (length rows) new x.0))
  announced row p h e f (Err y) k new x =
      rw (x.1, x.2, x.0)
      (announce_full (rows_room (length rows)) (routes w n rows) p h
      (ap (λ (q : Hop). fits_rows (usable (length rows)) (put (routes w n rows) p q)) (sym f)
      ∙ ap (λ (q : Bits). fits_rows (usable (length rows)) (put (routes w n rows) q (hop_of w row))) (sym e) ∙ full w n rows good row x.3 x.4))

  -- a row taken out, or refused
  pub withdrawn : {U : Type 0} (q p : Bits) → q ≡ p → (r : Result U Refusal) (k : ℕ) (new : List Row)
      → Removed q n rows k new r
      → Single (rows_room (length rows)) (routes w n rows) (routes w k new) (on 0 (withdraw p)) (of_update r)
  withdrawn q p e (Ok u) k new x = go (held (entries (take n rows)) q) refl
    where
      plane : routes w k new ≡ removed (routes w n rows) p
      plane = removed_plane w n rows good u q k new x ∙ ap (removed (routes w n rows)) e

      go : (o : Option Row) → held (entries (take n rows)) q ≡ o → Single (rows_room (length rows)) (routes w n rows) (routes w k new) (on 0 (withdraw p)) done
      go None f = absurd (x.2 f)
      go (Some row) f =
          rw plane
          (withdraw_done (rows_room (length rows)) (routes w n rows) p (hop_of w row)
          (ap (held (routes w n rows)) (sym e) ∙ plane_holds w n rows good q ∙ ap (made (hop_of w)) f))
  withdrawn q p e (Err y) k new x =
      rw (x.1, x.2, x.0)
      (withdraw_absent (rows_room (length rows)) (routes w n rows) p
      (ap (held (routes w n rows)) (sym e) ∙ plane_holds w n rows good q ∙ ap (made (hop_of w)) x.3))

  -- what is fetched
  is_held : (xs : List Row) (q p : Bits) → xs ≡ take n rows → q ≡ p → made (hop_of w) (held (entries xs) q) ≡ held (routes w n rows) p
  is_held xs q p u e = ap (λ ys. made (hop_of w) (held (entries ys) q)) u ∙ sym (plane_holds w n rows good q) ∙ ap (held (routes w n rows)) e

  pub fetched : (xs : List Row) (q p : Bits) (row : Row) → xs ≡ take n rows → q ≡ p → Some row ≡ held (entries xs) q
      → Some (hop_of w row) ≡ held (routes w n rows) p
  fetched xs q p row u e f = ap (made (hop_of w)) f ∙ is_held xs q p u e

  pub none_fetched : (xs : List Row) (q p : Bits) → xs ≡ take n rows → q ≡ p → None ≡ held (entries xs) q → None ≡ held (routes w n rows) p
  none_fetched xs q p u e f = ap (made (hop_of w)) f ∙ is_held xs q p u e
