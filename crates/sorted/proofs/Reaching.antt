-- Rows past the place of an address's first bits do not match it.
use Rattle.std.proofs.Common.{◌≡◌, ℕ, ◌+◌, ◌<◌, ◌≤◌, true, false, ◌⊎◌, List, length, take, Some, None, Option, Ok, Err, Result, sym, ap, ◌∙◌, inl, inr, arith}
use Rattle.std.proofs.lemmas.List.{length-take-le, get_or-take}
use Rattle.std.proofs.lemmas.Bool.{cases_Bool, cases_eq, cases_lt, and_parts, leb-true}
use Rattle.bits.specs.Bits.{Bits, after, order}
use Rattle.bits.specs.Halves.{word, front}
use Rattle.bits.specs.declared.halves.Halves.{Halves}
use Rattle.bits.proofs.Fronts.{front_is, front_length}
use Rattle.bits.proofs.Orders.{flip_before}
use Rattle.model.proofs.Places.{after_else, covering_not_after}
use Rattle.sorted.specs.declared.row.Row.{Row}
use Rattle.sorted.specs.Rows.{unused, key}
use Rattle.sorted.specs.Places.{at, InOrder, Located, matching, LastMatch}
use Rattle.sorted.proofs.Orderly.{order_at}

-- where the rows end that may match p: behind its row, or at its place where there is none
abbrev end_of : Result ℕ ℕ → ℕ
end_of (Ok i) = i + 1
end_of (Err i) = i

-- a row past that end stands after p
past : (rows : List Row) (p : Bits) → InOrder rows → (r : Result ℕ ℕ) → Located rows p r → (k : ℕ) → end_of r ≤ k → k < length rows
    → order (key (at rows k)) p ≡ after
past rows p o (Ok i) s k h l = flip_before p (key (at rows k)) (ap (λ q. order q (key (at rows k))) (sym s.2) ∙ order_at rows o i k (omega arith) l)
past rows p o (Err i) s k h l = after_else (key (at rows k)) p (s.0.later k h l) (λ e. go e (cases_eq i k))
  where
    go : key (at rows k) ≡ p → (i ≡ k) ⊎ (i ≡ k → ⊥) → ⊥
    go e (inl f) = s.1 (omega arith) (ap (λ j. key (at rows j)) f ∙ e)
    go e (inr f) = s.0.later i (omega arith) (omega arith) (ap (order (key (at rows i))) (sym e) ∙ order_at rows o i k (omega arith) l)

past_misses : (rows : List Row) (a : Halves) (b : ℕ) → InOrder rows → (r : Result ℕ ℕ) → Located rows (front b a) r
    → (k : ℕ) → end_of r ≤ k → k < length rows → matching (word a) b (at rows k) ≡ false
past_misses rows a b o r s k l m = go (cases_Bool (matching (word a) b (at rows k)))
  where
    go : (matching (word a) b (at rows k) ≡ true) ⊎ (matching (word a) b (at rows k) ≡ false) → matching (word a) b (at rows k) ≡ false
    go (inr e) = e
    go (inl e) =
        let x = and_parts _ _ e in
        let long : length (key (at rows k)) ≡ (at rows k).prefix.len = front_length _ _ (o.short k m) in
        let short : (at rows k).prefix.len ≤ b = leb-true _ _ x.0 in
        absurd (covering_not_after (key (at rows k)) (word a) b x.1 (omega arith)
        (ap (order (key (at rows k))) (sym (front_is b a)) ∙ past rows (front b a) o r s k l m))

-- the end is among the rows
end_within : (rows : List Row) (p : Bits) (r : Result ℕ ℕ) → Located rows p r → end_of r ≤ length rows
end_within rows p (Ok i) s = omega (arith, s.0)
end_within rows p (Err i) s = s.0.within

-- so the last match up to that end is the last of all
reaches_all : (rows : List Row) (a : Halves) (b : ℕ) → InOrder rows → (r : Result ℕ ℕ) → Located rows (front b a) r
    → (x : Option ℕ) → LastMatch (take (end_of r) rows) (word a) b x → LastMatch rows (word a) b x
reaches_all rows a b o r s x f = last x f
  where
    long : length (take (end_of r) rows) ≡ end_of r
    long = length-take-le (end_of r) rows (end_within rows (front b a) r s)

    same : (k : ℕ) → k < end_of r → matching (word a) b (at rows k) ≡ matching (word a) b (at (take (end_of r) rows) k)
    same k l = ap (matching (word a) b) (sym (get_or-take (end_of r) rows k unused l))

    rest : (k : ℕ) → k < length rows → (k < end_of r → matching (word a) b (at (take (end_of r) rows) k) ≡ false) → matching (word a) b (at rows k) ≡ false
    rest k l g = elim (cases_lt k (end_of r)) [ inl t ↦ same k t ∙ g t | inr t ↦ past_misses rows a b o r s k t l ]

    last : (y : Option ℕ) → LastMatch (take (end_of r) rows) (word a) b y → LastMatch rows (word a) b y
    last None g = λ k l. rest k l (λ t. g k (omega (arith, long)))
    last (Some j) g =
        let h : j < end_of r = omega (arith, long, g.0) in
        (omega (arith, end_within rows (front b a) r s), same j h ∙ g.1, λ k m l. rest k l (λ t. g.2 k m (omega (arith, long))))

pub reaches_held : (rows : List Row) (a : Halves) (b i : ℕ) (x : Option ℕ) → InOrder rows → Located rows (front b a) (Ok i)
    → LastMatch (take (i + 1) rows) (word a) b x → LastMatch rows (word a) b x
reaches_held rows a b i x o s f = reaches_all rows a b o (Ok i) s x f

pub reaches_absent : (rows : List Row) (a : Halves) (b i : ℕ) (x : Option ℕ) → InOrder rows → Located rows (front b a) (Err i)
    → LastMatch (take i rows) (word a) b x → LastMatch rows (word a) b x
reaches_absent rows a b i x o s f = reaches_all rows a b o (Err i) s x f
