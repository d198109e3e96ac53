-- Rows in rising order, place by place.
use Rattle.std.proofs.Common.{◌≡◌, ℕ, ◌<◌, min, List, length, get_or, take, sym, ap, ◌∙◌, arith}
use Rattle.std.proofs.lemmas.List.{length-map, get_or-map, take_min}
use Rattle.bits.specs.Bits.{order, before}
use Rattle.bits.specs.Halves.{word, front}
use Rattle.bits.specs.declared.halves.Halves.{Halves}
use Rattle.bits.proofs.Fronts.{front_is, word_length}
use Rattle.model.proofs.Places.{rising_at}
use Rattle.sorted.specs.declared.row.Row.{Row}
use Rattle.sorted.specs.Rows.{unused, key, entry_of, entries}
use Rattle.sorted.specs.Places.{at, InOrder}

pub entries_length : (rows : List Row) → length (entries rows) ≡ length rows
entries_length rows = length-map rows entry_of

pub entry_at : (rows : List Row) (k : ℕ) → k < length rows → get_or (entries rows) k (entry_of unused) ≡ entry_of (at rows k)
entry_at rows k l = get_or-map entry_of rows k unused (entry_of unused) l

pub order_at : (rows : List Row) → InOrder rows → (j k : ℕ) → j < k → k < length rows → order (key (at rows j)) (key (at rows k)) ≡ before
order_at rows o j k l h =
    ap (λ r. order (key (at rows j)) r.prefix) (sym (entry_at rows k h))
    ∙ ap (λ r. order r.prefix (get_or (entries rows) k (entry_of unused)).prefix) (sym (entry_at rows j (omega arith)))
    ∙ rising_at (entries rows) (entry_of unused) o.rising j k l (omega (arith, entries_length rows))
