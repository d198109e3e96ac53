-- Places among the rows: where a prefix stands, which row matches an address, and what moving rows by one leaves.
use Rattle.std.specs.Prelude.{◌≡◌, ℕ, ◌+◌, ◌<◌, ◌≤◌, Bool, true, false, ◌&&◌, List, length, take, Some, None, Ok, Err, Option, Result, ◌≢◌, nat_le, slice_index_or, slice_set}
use Rattle.std.specs.List.{insert, remove}
use Rattle.bits.specs.Bits.{Bits, order, before, covers}
use Rattle.model.specs.Maps.{held, put, removed, Rising}
use Rattle.table.specs.declared.calls.Refusal.{Refusal}
use Rattle.table.specs.declared.calls.Refusal.TheVariants.{NotHeld, NoRoom}
use Rattle.sorted.specs.declared.row.Row.{Row}
use Rattle.sorted.specs.Rows.{unused, key, entries}

-- the row at place k
abbrev pub at : List Row → ℕ → Row
at rows k = slice_index_or rows k unused

-- the rows are prefixes in rising order
pub record InOrder (rows : List Row) : Type 0 where
  pub short : (k : ℕ) → k < length rows → (at rows k).prefix.len ≤ 128
  pub rising : Rising (entries rows)

-- just the first i rows stand before the prefix p
pub record StandsAt (rows : List Row) (p : Bits) (i : ℕ) : Type 0 where
  pub within : i ≤ length rows
  pub earlier : (k : ℕ) → k < i → order (key (at rows k)) p ≡ before
  pub later : (k : ℕ) → i ≤ k → k < length rows → order (key (at rows k)) p ≢ before

-- where p is: in the row at its place, or in none
abbrev pub Located : List Row → Bits → Result ℕ ℕ → Type 0
Located rows p (Ok i) = (i < length rows) × StandsAt rows p i × (key (at rows i) ≡ p)
Located rows p (Err i) = StandsAt rows p i × (i < length rows → key (at rows i) ≢ p)

-- the row's prefix covers the address a and is no longer than the bound b
abbrev pub matching : Bits → ℕ → Row → Bool
matching a b row = nat_le row.prefix.len b && covers (key row) a

-- the last matching row, or none where none matches
abbrev pub LastMatch : List Row → Bits → ℕ → Option ℕ → Type 0
LastMatch rows a b None = (k : ℕ) → k < length rows → matching a b (at rows k) ≡ false
LastMatch rows a b (Some i) = (i < length rows) × (matching a b (at rows i) ≡ true) × ((k : ℕ) → i < k → k < length rows → matching a b (at rows k) ≡ false)

-- the row is put in at i: those from there up to n have moved one place up
pub record PutIn (i n : ℕ) (row : Row) (was new : List Row) : Type 0 where
  pub long : length new ≡ length was
  pub below : (k : ℕ) → k < i → at new k ≡ at was k
  pub there : at new i ≡ row
  pub moved : (k : ℕ) → i ≤ k → k < n → at new (k + 1) ≡ at was k

-- the row at i is taken out: those past it up to n have moved one place down
pub record TakenOut (i n : ℕ) (was new : List Row) : Type 0 where
  pub long : length new ≡ length was
  pub below : (k : ℕ) → k < i → at new k ≡ at was k
  pub moved : (k : ℕ) → i ≤ k → k + 1 < n → at new k ≡ at was (k + 1)

-- the row at i is that of p: it is what they hold for p; a row of p written over it, or taking it out, is that edit of the map
pub record HeldAt (rows : List Row) (p : Bits) (i : ℕ) : Type 0 where
  pub inside : i < length rows
  pub found : held (entries rows) p ≡ Some (at rows i)
  pub replaced : (row : Row) → key row ≡ p → entries (slice_set rows i row) ≡ put (entries rows) p row
  pub taken : entries (remove rows i) ≡ removed (entries rows) p

-- no row is that of p: they hold nothing for it; a row of p put in at i is that edit of the map
pub record AbsentAt (rows : List Row) (p : Bits) (i : ℕ) : Type 0 where
  pub within : i ≤ length rows
  pub nothing : held (entries rows) p ≡ None
  pub entered : (row : Row) → key row ≡ p → entries (insert rows i row) ≡ put (entries rows) p row

-- where p is in the map that the rows are
abbrev pub InMap : List Row → Bits → Result ℕ ℕ → Type 0
InMap rows p (Ok i) = HeldAt rows p i
InMap rows p (Err i) = AbsentAt rows p i

-- a row is put into the first n of some rows: so many are then in use, and hold it besides what they held; or it is refused, as none of `room`
-- rows is left for a new prefix
abbrev pub Inserted : {U : Type 0} → ℕ → Row → ℕ → List Row → ℕ → List Row → Result U Refusal → Type 0
Inserted room row n was k new (Ok u) = (k ≤ room) × (entries (take k new) ≡ put (entries (take n was)) (key row) row)
Inserted room row n was k new (Err e) = (e ≡ NoRoom) × (k ≡ n) × (new ≡ was) × (n ≡ room) × (held (entries (take n was)) (key row) ≡ None)

-- the row of p is taken out of the first n of some rows: one fewer is then in use; or it is refused, as there is none
abbrev pub Removed : {U : Type 0} → Bits → ℕ → List Row → ℕ → List Row → Result U Refusal → Type 0
Removed p n was k new (Ok u) = (k + 1 ≡ n) × (entries (take k new) ≡ removed (entries (take n was)) p) × (held (entries (take n was)) p ≢ None)
Removed p n was k new (Err e) = (e ≡ NotHeld) × (k ≡ n) × (new ≡ was) × (held (entries (take n was)) p ≡ None)
