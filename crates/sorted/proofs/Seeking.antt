-- Where a binary search among the rows ends.
use Rattle.std.proofs.Common.{◌≡◌, ℕ, ◌<◌, ◌≤◌, ◌⊎◌, List, length, Ok, Err, Result, sym, ap, ◌∙◌, refl, inl, inr, arith}
use Rattle.std.proofs.lemmas.List.Sorted.{IsNonDecreasingBy-from_default}
use Rattle.std.proofs.lemmas.Bool.{cases_eq}
use Rattle.std.specs.declared.cmp.Ordering.TheVariants.{Less, Equal, Greater}
use Rattle.std.specs.declared.cmp.Ordering.{Ordering}
use Rattle.std.specs.Ordering.{ordering_index}
use Rattle.std.specs.List.Sorted.{IsNonDecreasingBy, IsBinarySearchResult, IsSearchInRange}
use Rattle.bits.specs.Bits.{Bits, Order, before, same, after, order}
use Rattle.bits.specs.Halves.{stands}
use Rattle.bits.proofs.Orders.{before_trans, order_self, same_is, flip_before, before≢same, before≢after, same≢after}
use Rattle.sorted.specs.declared.row.Row.{Row}
use Rattle.sorted.specs.Rows.{unused, key}
use Rattle.sorted.specs.Places.{at, InOrder, StandsAt, Located}
use Rattle.sorted.proofs.Orderly.{order_at}

-- an order as the library names it
abbrev pub named : Order → Ordering
named before = Less
named same = Equal
named after = Greater

pub named_stands : (o : Ordering) (p : Order) → stands o ≡ p → o ≡ named p
named_stands Less p e = ap named e
named_stands Equal p e = ap named e
named_stands Greater p e = ap named e

-- the orders of rising prefixes to p rise
index_low : (o : Order) → ordering_index (named o) ≤ 2
index_low before = omega arith
index_low same = omega arith
index_low after = omega arith

rises : (p q r : Bits) → order p q ≡ before → ordering_index (named (order p r)) ≤ ordering_index (named (order q r))
rises p q r e = go (order q r) refl
  where
    low : order p r ≡ before → (o : Order) → ordering_index (named (order p r)) ≤ ordering_index (named o)
    low f o = let z : ordering_index (named (order p r)) ≡ 0 = ap (λ x. ordering_index (named x)) f in omega (arith, z)

    go : (o : Order) → order q r ≡ o → ordering_index (named (order p r)) ≤ ordering_index (named (order q r))
    go before f = low (before_trans p q r e f) (order q r)
    go same f = low (ap (order p) (sym (same_is q r f)) ∙ e) (order q r)
    go after f = let z : ordering_index (named (order q r)) ≡ 2 = ap (λ x. ordering_index (named x)) f in omega (arith, z, index_low (order p r))

-- the place in Ordering of a row's order to p
abbrev rank : Bits → Row → ℕ
rank p row = ordering_index (named (order (key row) p))

orders_rise : (rows : List Row) (p : Bits) → InOrder rows → IsNonDecreasingBy (rank p) rows
orders_rise rows p o = IsNonDecreasingBy-from_default (rank p) rows unused (λ i j l h. go i j l h (cases_eq i j))
  where
    go : (i j : ℕ) → i ≤ j → j < length rows → (i ≡ j) ⊎ (i ≡ j → ⊥) → rank p (at rows i) ≤ rank p (at rows j)
    go i j l h (inl f) = let z : rank p (at rows i) ≡ rank p (at rows j) = ap (λ k. rank p (at rows k)) f in omega (arith, z)
    go i j l h (inr f) = rises (key (at rows i)) (key (at rows j)) p (order_at rows o i j (omega arith) h)

is_named : (o x : Order) → named o ≡ named x → o ≡ x
is_named o x e = back o ∙ ap stands e ∙ sym (back x)
  where
    back : (y : Order) → y ≡ stands (named y)
    back before = refl
    back same = refl
    back after = refl

-- the row of p is at the place of p
at_own_place : (rows : List Row) (p : Bits) (i : ℕ) → InOrder rows → i < length rows → order (key (at rows i)) p ≡ same → StandsAt rows p i
at_own_place rows p i o l e = record {
  within = omega arith;
  earlier = λ k h. ap (order (key (at rows k))) (sym is) ∙ order_at rows o k i h l;
  later = λ k h m f. go k h m f (cases_eq i k);
}
  where
    is : key (at rows i) ≡ p
    is = same_is (key (at rows i)) p e

    go : (k : ℕ) → i ≤ k → k < length rows → order (key (at rows k)) p ≡ before → (i ≡ k) ⊎ (i ≡ k → ⊥) → ⊥
    go k h m f (inl g) = before≢same (sym f ∙ ap (λ j. order (key (at rows j)) p) (sym g) ∙ e)
    go k h m f (inr g) =
        before≢after (sym f ∙ flip_before p (key (at rows k)) (ap (λ q. order q (key (at rows k))) (sym is) ∙ order_at rows o i k (omega arith) m))

-- what a binary search by the order to p answers
pub located : (rows : List Row) (p : Bits) → InOrder rows → (r : Result ℕ ℕ) → IsSearchInRange r (length rows)
    → IsBinarySearchResult (λ row. named (order (key row) p)) rows r → Located rows p r
located rows p o (Ok i) l x =
    let e : order (key (at rows i)) p ≡ same = is_named _ same (x unused) in
    (l, at_own_place rows p i o l e, same_is _ _ e)
located rows p o (Err i) l x =
    let y = x (orders_rise rows p o) in
    let past : (k : ℕ) → i ≤ k → k < length rows → order (key (at rows k)) p ≡ after = λ k h m. is_named _ after (y.1 k unused h m) in (
      record {
        within = l;
        earlier = λ k h. is_named _ before (y.0 k unused (omega arith) h);
        later = λ k h m f. before≢after (sym f ∙ past k h m);
      },
      λ m f. same≢after (sym (order_self (key (at rows i))) ∙ ap (order (key (at rows i))) f ∙ past i (omega arith) m),
    )
