-- The place of a prefix among the rows: what is held there, and what writing, putting in and taking out a row means for the map that the rows are.
use Rattle.std.proofs.Common.{◌≡◌, ℕ, ◌<◌, List, length, get_or, take, drop, set, Some, Ok, Err, Result, sym, ap, ◌∙◌, subst, arith}
use Rattle.std.specs.List.{insert}
use Rattle.std.proofs.lemmas.List.{length-take-le, get_or-take, take-map, map-set}
use Rattle.std.proofs.ByRecursion.{All-from_get_or, All-map}
use Rattle.bits.specs.Bits.{Bits, order, before}
use Rattle.bits.proofs.Orders.{flip_after}
use Rattle.model.specs.Maps.{Map, Route, route, Above}
use Rattle.model.proofs.Places.{Below, after_else, above_from, put_there, removed_there, held_there, put_between, held_between}
use Rattle.model.proofs.Edits.{map_inserted, map_removed}
use Rattle.sorted.specs.declared.row.Row.{Row}
use Rattle.sorted.specs.Rows.{unused, key, entry_of, entries}
use Rattle.sorted.specs.Places.{at, InOrder, StandsAt, Located, HeldAt, AbsentAt, InMap}
use Rattle.sorted.proofs.Orderly.{entries_length, entry_at}

module _ (rows : List Row) (good : InOrder rows) where
  abbrev m : Map Row
  m = entries rows

  abbrev none : Route Row
  none = entry_of unused

  long : length m ≡ length rows
  long = entries_length rows

  below : (p : Bits) (i : ℕ) → StandsAt rows p i → Below p (take i m)
  below p i s = subst (Below p) (sym (take-map entry_of i rows))
      (All-map (λ r. order r.prefix p ≡ before) entry_of (take i rows)
      (All-from_get_or (λ row. order (key row) p ≡ before) (take i rows) unused
      (λ k l. let h : k < i = omega (arith, length-take-le i rows s.within) in
      ap (λ row. order (key row) p) (get_or-take i rows k unused h) ∙ s.earlier k h)))

  module _ (p : Bits) (i : ℕ) (s : StandsAt rows p i) where
    above : (i < length rows → key (at rows i) ≡ p → ⊥) → Above p (drop i m)
    above f = above_from m none i p good.rising (λ l.
        let h : i < length rows = omega (arith, long) in
        ap (λ r. order p r.prefix) (entry_at rows i h)
        ∙ flip_after (key (at rows i)) p (after_else (key (at rows i)) p (s.later i (omega arith) h) (f h)))

    -- the row at the place of p is that of p
    pub held_at : i < length rows → key (at rows i) ≡ p → HeldAt rows p i
    held_at l e = record {
      inside = l;
      found = held_there m none i p inside (below p i s) there ∙ ap (λ r. Some r.value) (entry_at rows i l);
      replaced = λ row k. map-set entry_of rows i row ∙ ap (λ q. set m i (route q row)) k ∙ sym (put_there m none i p row inside (below p i s) there);
      taken = map_removed entry_of rows i ∙ sym (removed_there m none i p inside good.rising (below p i s) there);
    }
      where
        inside : i < length m
        inside = omega (arith, long)

        there : (get_or m i none).prefix ≡ p
        there = ap (λ r. r.prefix) (entry_at rows i l) ∙ e

    -- it is not, and so no row is
    pub absent_at : (i < length rows → key (at rows i) ≡ p → ⊥) → AbsentAt rows p i
    absent_at f = record {
      within = s.within;
      nothing = held_between m i p (below p i s) (above f);
      entered = λ row k.
          map_inserted entry_of rows i row ∙ ap (λ q. insert m i (route q row)) k
          ∙ sym (put_between m i p row (omega (arith, s.within, long)) (below p i s) (above f));
    }

-- where a prefix is among the rows is where it is in their map
pub in_map : (rows : List Row) → InOrder rows → (p : Bits) (x : Result ℕ ℕ) → Located rows p x → InMap rows p x
in_map rows good p (Ok i) s = held_at rows good p i s.1 s.0 s.2
in_map rows good p (Err i) s = absent_at rows good p i s.0 s.1
