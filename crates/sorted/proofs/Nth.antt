-- The route at a place of the order. Assumes nothing.
use Rattle.std.specs.List.{slice_get}
use Rattle.std.specs.Option.{option_map}
use Rattle.std.proofs.lemmas.Option.{slice_get-map, slice_get-get_or, slice_get_past}
use Rattle.std.proofs.Common.{map, get_or, take, ◌≡◌, ℕ, ◌<◌, ◌≤◌, true, List, length, drop, Some, None, Ok, Err, Result, sym, ap, ◌∙◌, arith}
use Rattle.bits.specs.Bits.{Bits}
use Rattle.bits.specs.Halves.{front, Aligned, clear}
use Rattle.bits.proofs.Fronts.{front_length, front_front, clear_front, aligned_clear, aligned_wider}
use Rattle.address.specs.Prefixes.{checked}
use Rattle.address.proofs.Checked.{checked_fine}
use Rattle.sorted.specs.declared.row.Row.{Row}
use Rattle.sorted.specs.Rows.{key, route_of, routes, RowOk}

module _ (w n : ℕ) (rows ys : List Row) (used : ys ≡ take n rows) where
  route_at : (k : ℕ) → slice_get (routes w n rows) k ≡ option_map (route_of w) (slice_get ys k)
  route_at k = ap (λ zs. slice_get (map (route_of w) zs) k) (sym used) ∙ slice_get-map (route_of w) ys k

  pub nth_here : (k : ℕ) (row : Row) → k < length ys → row ≡ get_or ys k row → Some (route_of w row) ≡ slice_get (routes w n rows) k
  nth_here k row l e = ap (λ r. Some (route_of w r)) e ∙ ap (option_map (route_of w)) (sym (slice_get-get_or ys k row l)) ∙ sym (route_at k)

  pub nth_past : (k : ℕ) → length ys ≤ k → None ≡ slice_get (routes w n rows) k
  nth_past k l = ap (option_map (route_of w)) (sym (slice_get_past ys k l)) ∙ sym (route_at k)

-- a proper row's address and length make its prefix
row_checked : (w : ℕ) (row : Row) → w ≤ 128 → RowOk w row → checked (front w row.prefix.bits) row.prefix.len ≡ Ok (key row)
row_checked w row l ok =
    let h = row.prefix.bits in
    let n : length (front w h) ≡ w = front_length w h l in
    let s : row.prefix.len ≤ w = ok.short in
    let a : Aligned w h = aligned_wider row.prefix.len w h s ok.prefix_clear in
    let c : clear (drop row.prefix.len (front w h)) ≡ true = sym (clear_front row.prefix.len w h s l a) ∙ aligned_clear row.prefix.len h ok.prefix_clear in
    checked_fine (front w h) row.prefix.len (omega arith) c ∙ ap Ok (front_front row.prefix.len w h s)

pub prefix_is : (w : ℕ) (row : Row) (a p : Bits) → w ≤ 128 → RowOk w row → a ≡ front w row.prefix.bits → Ok p ≡ checked a row.prefix.len → p ≡ key row
prefix_is w row a p l ok e f = is_ok (f ∙ ap (λ b. checked b row.prefix.len) e ∙ row_checked w row l ok)
  where
    is_ok : {q : Bits} → ◌≡◌ {A = Result Bits ℕ} (Ok p) (Ok q) → p ≡ q
    is_ok g = cc

pub never_refused : (w : ℕ) (row : Row) (a : Bits) (n : ℕ) → w ≤ 128 → RowOk w row → a ≡ front w row.prefix.bits → Err n ≡ checked a row.prefix.len → ⊥
never_refused w row a n l ok e f = not_ok (f ∙ ap (λ b. checked b row.prefix.len) e ∙ row_checked w row l ok)
  where
    not_ok : {q : Bits} → ◌≡◌ {A = Result Bits ℕ} (Err n) (Ok q) → ⊥
    not_ok g = let z : ◌≡◌ {A = ℕ} 0 1 = cc in omega arith
