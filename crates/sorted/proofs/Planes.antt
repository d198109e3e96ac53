-- The rows as a plane of addresses of w bits: what the rows hold, and what stays well-formed.
use Rattle.std.proofs.Common.{◌≡◌, ℕ, suc, ◌<◌, ◌≤◌, true, false, List, [], ◌∷◌, map, length, get_or, take, Some, None, Ok, Err, Option, Result, sym, refl, ap, ◌∙◌, subst, arith}
use Rattle.std.specs.List.{AllByRecursion}
use Rattle.std.proofs.lemmas.List.{length-map, length-take-le, get_or-map}
use Rattle.std.proofs.ByRecursion.{All-get_or, All-map}
use Rattle.std.proofs.lemmas.Bool.{le-leb, lt-leb, leb-true, and_parts, and_from, true≢false}
use Rattle.bits.specs.Bits.{Bits, covers}
use Rattle.bits.specs.Halves.{word, front}
use Rattle.bits.specs.declared.halves.Halves.{Halves}
use Rattle.bits.proofs.Fronts.{front_is, front_length, covers_front}
use Rattle.model.specs.Maps.{Route, held, put, removed, Rising}
use Rattle.model.specs.Room.{fits_rows}
use Rattle.model.specs.Longest.{answer}
use Rattle.model.specs.Machine.{Hop, Stored, Plane}
use Rattle.model.specs.Tables.{usable}
use Rattle.model.proofs.MapLaws.{put_rises, removed_rises}
use Rattle.model.proofs.Places.{put_length, last_answers, none_answers}
use Rattle.model.proofs.Mapped.{mapped, made, held_all, put_all, removed_all, put_mapped, removed_mapped, held_mapped, rising_mapped, rising_unmapped}
use Rattle.table.specs.declared.calls.Refusal.{Refusal}
use Rattle.sorted.specs.declared.row.Row.{Row}
use Rattle.sorted.specs.Rows.{unused, key, route_of, routes, RowOk, WellFormed, entry_of, entries}
use Rattle.sorted.specs.Places.{at, InOrder, matching, LastMatch, Inserted, Removed}

-- the hop of a row
abbrev pub hop_of : ℕ → Row → Hop
hop_of w row = front w row.hop

routes_by : (w : ℕ) (xs : List Row) → map (route_of w) xs ≡ mapped (hop_of w) (map entry_of xs)
routes_by w [] = refl
routes_by w (x ∷ xs) = ap (λ t. route_of w x ∷ t) (routes_by w xs)

-- the plane is the map of the rows, with their hops for values
pub routes_are : (w n : ℕ) (rows : List Row) → routes w n rows ≡ mapped (hop_of w) (entries (take n rows))
routes_are w n rows = routes_by w (take n rows)

all_rows : (P : Row → Type 0) (xs : List Row) → AllByRecursion (λ r. P r.value) (map entry_of xs) → AllByRecursion P xs
all_rows P [] a = tt
all_rows P (x ∷ xs) a = (a.0, all_rows P xs a.1)

-- each row in use holds one route
pub each_one : (w n : ℕ) (rows : List Row) → WellFormed w n rows → n ≡ length (routes w n rows)
each_one w n rows good = sym (length-map (take n rows) (route_of w) ∙ length-take-le n rows (omega (arith, good.few)))

-- from the map of the rows to the plane
from_entries : (w n : ℕ) (rows : List Row) → n ≤ usable (length rows) → Rising (entries (take n rows))
    → AllByRecursion (λ r. RowOk w r.value) (entries (take n rows)) → WellFormed w n rows
from_entries w n rows l g a = record {
  few = l;
  rising = subst Rising (sym (routes_are w n rows)) (rising_mapped (hop_of w) (entries (take n rows)) g);
  proper = all_rows (RowOk w) (take n rows) a;
}

module _ (w n : ℕ) (rows : List Row) (good : WellFormed w n rows) where
  -- the rows in use
  abbrev xs : List Row
  xs = take n rows

  used : length xs ≡ n
  used = length-take-le n rows (omega (arith, good.few))

  entries_rise : Rising (entries xs)
  entries_rise = rising_unmapped (hop_of w) (entries xs) (subst Rising (routes_are w n rows) good.rising)

  entries_proper : AllByRecursion (λ r. RowOk w r.value) (entries xs)
  entries_proper = All-map (λ r. RowOk w r.value) entry_of xs good.proper

  pub proper_at : (k : ℕ) → k < length xs → RowOk w (at xs k)
  proper_at k l = All-get_or (RowOk w) xs k unused l good.proper

  pub in_order : w ≤ 128 → InOrder xs
  in_order narrow = record { short = λ k l. omega (arith, (proper_at k l).short); rising = entries_rise }

  -- what the plane holds
  pub plane_holds : (p : Bits) → held (routes w n rows) p ≡ made (hop_of w) (held (entries xs) p)
  plane_holds p = ap (λ (m : Plane). held m p) (routes_are w n rows) ∙ held_mapped (hop_of w) (entries xs) p

  pub held_proper : (ys : List Row) (p : Bits) (row : Row) → ys ≡ xs → Some row ≡ held (entries ys) p → RowOk w row
  held_proper ys p row u e = held_all (RowOk w) (entries xs) p row entries_proper (ap (λ zs. held (entries zs) p) (sym u) ∙ sym e)

  -- a row put in
  inserted_good : (row : Row) (k : ℕ) (new : List Row) → length new ≡ length rows → RowOk w row → k ≤ usable (length rows)
      → entries (take k new) ≡ put (entries xs) (key row) row → WellFormed w k new
  inserted_good row k new e ok l i = from_entries w k new (omega arith)
      (subst Rising (sym i) (put_rises (entries xs) (key row) row entries_rise))
      (subst (AllByRecursion (λ r. RowOk w r.value)) (sym i) (put_all (λ r. RowOk w r.value) (entries xs) (key row) row ok entries_proper))

  pub inserted_plane : {U : Type 0} (u : U) (row : Row) (k : ℕ) (new : List Row) → Inserted (usable (length rows)) row n rows k new (Ok u)
      → routes w k new ≡ put (routes w n rows) (key row) (hop_of w row)
  inserted_plane u row k new i =
      routes_are w k new ∙ ap (mapped (hop_of w)) i.1 ∙ sym (put_mapped (hop_of w) (entries xs) (key row) row)
      ∙ ap (λ (m : Plane). put m (key row) (hop_of w row)) (sym (routes_are w n rows))

  -- no row left for a new prefix
  pub full : (row : Row) → n ≡ usable (length rows) → held (entries xs) (key row) ≡ None
      → fits_rows (usable (length rows)) (put (routes w n rows) (key row) (hop_of w row)) ≡ false
  full row f h =
      let e : held (routes w n rows) (key row) ≡ None = plane_holds (key row) ∙ ap (made (hop_of w)) h in
      let long : length (put (routes w n rows) (key row) (hop_of w row)) ≡ suc (length (routes w n rows)) = put_length (routes w n rows) (key row) (hop_of w row) e in
      lt-leb _ _ (omega (arith, f, long, length-map xs (route_of w), used))

  -- a row taken out
  removed_good : (p : Bits) (k : ℕ) (new : List Row) → length new ≡ length rows → k ≤ n → entries (take k new) ≡ removed (entries xs) p → WellFormed w k new
  removed_good p k new e l i = from_entries w k new (omega (arith, good.few))
      (subst Rising (sym i) (removed_rises (entries xs) p entries_rise))
      (subst (AllByRecursion (λ r. RowOk w r.value)) (sym i) (removed_all (λ r. RowOk w r.value) (entries xs) p entries_proper))

  pub removed_plane : {U : Type 0} (u : U) (p : Bits) (k : ℕ) (new : List Row) → Removed p n rows k new (Ok u) → routes w k new ≡ removed (routes w n rows) p
  removed_plane u p k new i =
      routes_are w k new ∙ ap (mapped (hop_of w)) i.1 ∙ sym (removed_mapped (hop_of w) (entries xs) p)
      ∙ ap (λ (m : Plane). removed m p) (sym (routes_are w n rows))

  pub inserted_well : {U : Type 0} (r : Result U Refusal) (row : Row) (k : ℕ) (new : List Row) → RowOk w row → length new ≡ length rows
      → Inserted (usable (length rows)) row n rows k new r → WellFormed w k new
  inserted_well (Ok u) row k new ok e i = inserted_good row k new e ok i.0 i.1
  inserted_well (Err y) row k new ok e i = rw (i.1, i.2) good

  pub removed_well : {U : Type 0} (r : Result U Refusal) (p : Bits) (k : ℕ) (new : List Row) → length new ≡ length rows
      → Removed p n rows k new r → WellFormed w k new
  removed_well (Ok u) p k new e i = removed_good p k new e (omega (arith, i.0)) i.1
  removed_well (Err y) p k new e i = rw (i.1, i.2) good

  -- a row's match is a covering route within the bound
  abbrev none : Route Stored
  none = route_of w unused

  abbrev m : Plane
  m = routes w n rows

  plane_length : length m ≡ length xs
  plane_length = length-map xs (route_of w)

  plane_at : (k : ℕ) → k < length xs → get_or m k none ≡ route_of w (at xs k)
  plane_at k l = get_or-map (route_of w) xs k unused none l

  row_length : w ≤ 128 → (k : ℕ) → k < length xs → length (key (at xs k)) ≡ (at xs k).prefix.len
  row_length narrow k l = front_length (at xs k).prefix.len (at xs k).prefix.bits (omega (arith, (proper_at k l).short))

  row_covers : w ≤ 128 → (a : Halves) (k : ℕ) → k < length xs → covers (key (at xs k)) (front w a) ≡ covers (key (at xs k)) (word a)
  row_covers narrow a k l =
      ap (covers (key (at xs k))) (front_is w a)
      ∙ covers_front (at xs k).prefix.len w (at xs k).prefix.bits (word a) (proper_at k l).short (omega (arith, (proper_at k l).short))

  misses : w ≤ 128 → (a : Halves) (b k : ℕ) → k < length xs → matching (word a) b (at xs k) ≡ false
      → covers (get_or m k none).prefix (front w a) ≡ true → length (get_or m k none).prefix ≤ b → ⊥
  misses narrow a b k l f e h =
      let long : length (get_or m k none).prefix ≡ (at xs k).prefix.len = ap (λ r. length r.prefix) (plane_at k l) ∙ row_length narrow k l in
      true≢false (sym (and_from _ _ (le-leb _ _ (omega arith)) (sym (row_covers narrow a k l) ∙ ap (λ r. covers r.prefix (front w a)) (sym (plane_at k l)) ∙ e)) ∙ f)

  -- the answer of a lookup, by the last match
  found_is : w ≤ 128 → (a : Halves) (b i : ℕ) → b ≤ w → LastMatch xs (word a) b (Some i)
      → Some ((at xs i).prefix.len, hop_of w (at xs i)) ≡ answer (held m) (front w a) b
  found_is narrow a b i l f =
      let x = and_parts _ _ f.1 in
      let e : get_or m i none ≡ route_of w (at xs i) = plane_at i f.0 in
      let long : length (get_or m i none).prefix ≡ (at xs i).prefix.len = ap (λ r. length r.prefix) e ∙ row_length narrow i f.0 in
      let wide : length (front w a) ≡ w = front_length w a narrow in
      let short : (at xs i).prefix.len ≤ b = leb-true _ _ x.0 in
      ap (λ t. Some (t, hop_of w (at xs i))) (sym long) ∙ ap (λ r. Some (length (get_or m i none).prefix, r.value)) (sym e)
      ∙ last_answers m none (front w a) b i (omega arith) good.rising (omega (arith, f.0, plane_length))
      (ap (λ r. covers r.prefix (front w a)) e ∙ row_covers narrow a i f.0 ∙ x.1) (omega arith)
      (λ k h t. misses narrow a b k (omega (arith, plane_length)) (f.2 k h (omega (arith, plane_length))))

  none_is : w ≤ 128 → (a : Halves) (b : ℕ) → b ≤ w → LastMatch xs (word a) b None
      → ◌≡◌ {A = Option (ℕ × Hop)} None (answer (held m) (front w a) b)
  none_is narrow a b l f =
      let wide : length (front w a) ≡ w = front_length w a narrow in
      none_answers m none (front w a) b (omega arith) (λ k t. misses narrow a b k (omega (arith, plane_length)) (f k (omega (arith, plane_length))))

  -- the same, of rows that are those in use, and of the address by its own bits
  pub longest_found : (ys : List Row) (a h : Halves) (q : Bits) (b i : ℕ) → ys ≡ xs → w ≤ 128 → a ≡ h → q ≡ front w h → b ≤ w → LastMatch ys (word a) b (Some i)
      → Some ((at ys i).prefix.len, hop_of w (at ys i)) ≡ answer (held m) q b
  longest_found ys a h q b i u narrow d e l f =
      ap (λ zs. Some ((at zs i).prefix.len, hop_of w (at zs i))) u ∙ found_is narrow a b i l (subst (λ (zs : List Row). LastMatch zs (word a) b (Some i)) u f)
      ∙ ap (λ t. answer (held m) t b) (ap (front w) d ∙ sym e)

  pub none_longest : (ys : List Row) (a h : Halves) (q : Bits) (b : ℕ) → ys ≡ xs → w ≤ 128 → a ≡ h → q ≡ front w h → b ≤ w → LastMatch ys (word a) b None
      → ◌≡◌ {A = Option (ℕ × Hop)} None (answer (held m) q b)
  none_longest ys a h q b u narrow d e l f =
      none_is narrow a b l (subst (λ (zs : List Row). LastMatch zs (word a) b None) u f)
      ∙ ap (λ t. answer (held m) t b) (ap (front w) d ∙ sym e)
