-- Laws of the order of prefixes. Assumes nothing.
use Rattle.std.proofs.Common.{◌≡◌, ℕ, true, false, [], ◌∷◌, sym, refl, ap, arith}
use Rattle.bits.specs.Bits.{Bits, Order, before, same, after, order, by, equal}

pub before≢same : before ≡ same → ⊥
before≢same e = let z : ◌≡◌ {A = ℕ} 0 1 = cc in omega arith

pub before≢after : before ≡ after → ⊥
before≢after e = let z : ◌≡◌ {A = ℕ} 0 1 = cc in omega arith

pub same≢after : same ≡ after → ⊥
same≢after e = let z : ◌≡◌ {A = ℕ} 0 1 = cc in omega arith

pub order_self : (p : Bits) → order p p ≡ same
order_self [] = refl
order_self (false ∷ p) = order_self p
order_self (true ∷ p) = order_self p

pub equal_self : (p : Bits) → equal p p ≡ true
equal_self p = ap (λ o. by o false true false) (order_self p)

pub same_is : (p q : Bits) → order p q ≡ same → p ≡ q
same_is [] [] e = refl
same_is [] (y ∷ q) e = absurd (before≢same e)
same_is (x ∷ p) [] e = absurd (same≢after (sym e))
same_is (false ∷ p) (false ∷ q) e = ap (λ r. false ∷ r) (same_is p q e)
same_is (false ∷ p) (true ∷ q) e = absurd (before≢same e)
same_is (true ∷ p) (false ∷ q) e = absurd (same≢after (sym e))
same_is (true ∷ p) (true ∷ q) e = ap (λ r. true ∷ r) (same_is p q e)

pub equal_is : (p q : Bits) → equal p q ≡ true → p ≡ q
equal_is p q e = go (order p q) refl e
  where
    go : (o : Order) → order p q ≡ o → by o false true false ≡ true → p ≡ q
    go before f g = let z : ◌≡◌ {A = ℕ} 0 1 = cc in absurd (omega arith)
    go same f g = same_is p q f
    go after f g = let z : ◌≡◌ {A = ℕ} 0 1 = cc in absurd (omega arith)

pub flip_before : (p q : Bits) → order p q ≡ before → order q p ≡ after
flip_before [] [] e = absurd (before≢same (sym e))
flip_before [] (y ∷ q) e = refl
flip_before (x ∷ p) [] e = absurd (before≢after (sym e))
flip_before (false ∷ p) (false ∷ q) e = flip_before p q e
flip_before (false ∷ p) (true ∷ q) e = refl
flip_before (true ∷ p) (false ∷ q) e = absurd (before≢after (sym e))
flip_before (true ∷ p) (true ∷ q) e = flip_before p q e

pub flip_after : (p q : Bits) → order p q ≡ after → order q p ≡ before
flip_after [] [] e = absurd (same≢after e)
flip_after [] (y ∷ q) e = absurd (before≢after e)
flip_after (x ∷ p) [] e = refl
flip_after (false ∷ p) (false ∷ q) e = flip_after p q e
flip_after (false ∷ p) (true ∷ q) e = absurd (before≢after e)
flip_after (true ∷ p) (false ∷ q) e = refl
flip_after (true ∷ p) (true ∷ q) e = flip_after p q e

pub before_trans : (p q r : Bits) → order p q ≡ before → order q r ≡ before → order p r ≡ before
before_trans p q [] e f = go q e f
  where
    go : (q : Bits) → order p q ≡ before → order q [] ≡ before → order p [] ≡ before
    go [] e f = absurd (before≢same (sym f))
    go (y ∷ q) e f = absurd (before≢after (sym f))
before_trans [] q (z ∷ r) e f = refl
before_trans (x ∷ p) [] (z ∷ r) e f = absurd (before≢after (sym e))
before_trans (false ∷ p) (false ∷ q) (false ∷ r) e f = before_trans p q r e f
before_trans (false ∷ p) (y ∷ q) (true ∷ r) e f = refl
before_trans (false ∷ p) (true ∷ q) (false ∷ r) e f = absurd (before≢after (sym f))
before_trans (true ∷ p) (false ∷ q) (z ∷ r) e f = absurd (before≢after (sym e))
before_trans (true ∷ p) (true ∷ q) (false ∷ r) e f = absurd (before≢after (sym f))
before_trans (true ∷ p) (true ∷ q) (true ∷ r) e f = before_trans p q r e f

pub not_equal : (p q : Bits) → order p q ≡ before → equal p q ≡ false
not_equal p q e = ap (λ o. by o false true false) e

pub not_equal_after : (p q : Bits) → order p q ≡ after → equal p q ≡ false
not_equal_after p q e = ap (λ o. by o false true false) e
