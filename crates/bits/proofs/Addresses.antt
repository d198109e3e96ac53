-- The order of prefixes is by the address at which each starts, and then by length.
use Rattle.std.proofs.Common.{◌≡◌, ℕ, zero, suc, ◌+◌, ◌-◌, ◌^◌, ◌<◌, ◌≤◌, Bool, true, false, ◌⊎◌, [], ◌∷◌, ◌++◌, length, replicate, sym, refl, ap, ◌∙◌, inl, inr, arith}
use native.Mathlib.Nat.{suc-sub-suc}
use Rattle.std.proofs.lemmas.List.{length-append, length-replicate}
use Rattle.std.proofs.lemmas.Bool.{cases_eq}
use Rattle.bits.specs.Bits.{Bits, Order, before, same, after, order}
use Rattle.bits.specs.Laws.{number, padded, Earlier}
use Rattle.bits.proofs.LowBits.{number_bound}
use Rattle.bits.proofs.Orders.{before≢same, before≢after, same_is, flip_after}

pub number_zeros : (n : ℕ) → number (replicate n false) ≡ 0
number_zeros zero = refl
number_zeros (suc n) = number_zeros n

pub padded_length : (w : ℕ) (p : Bits) → length p ≤ w → length (padded w p) ≡ w
padded_length w p h = length-append p (replicate (w - length p) false) ∙ ap (λ n. length p + n) (length-replicate (w - length p) false) ∙ omega arith

padded_more : (w : ℕ) (b : Bool) (p : Bits) → padded (suc w) (b ∷ p) ≡ b ∷ padded w p
padded_more w b p = ap (λ n. b ∷ (p ++ replicate n false)) (suc-sub-suc w (length p))

number_false : (w : ℕ) (p : Bits) → number (padded (suc w) (false ∷ p)) ≡ number (padded w p)
number_false w p = ap number (padded_more w false p)

number_true : (w : ℕ) (p : Bits) → length p ≤ w → number (padded (suc w) (true ∷ p)) ≡ 2 ^ w + number (padded w p)
number_true w p h = ap number (padded_more w true p) ∙ ap (λ n. 2 ^ n + number (padded w p)) (padded_length w p h)

number_below : (w : ℕ) (p : Bits) → length p ≤ w → number (padded w p) < 2 ^ w
number_below w p h = let e : 2 ^ length (padded w p) ≡ 2 ^ w = ap (λ n. 2 ^ n) (padded_length w p h) in let b : number (padded w p) < 2 ^ length (padded w p) = number_bound (padded w p) in omega arith

-- an earlier prefix with a bit, and one with the same bit, before both
earlier_more : (m a b c d : ℕ) (i j : ℕ) → c ≡ m + a → d ≡ m + b → (a < b) ⊎ ((a ≡ b) × (i < j)) → (c < d) ⊎ ((c ≡ d) × (suc i < suc j))
earlier_more m a b c d i j e f (inl h) = inl (omega arith)
earlier_more m a b c d i j e f (inr h) = inr (omega arith, omega arith)

pub before_earlier : (w : ℕ) (p q : Bits) → length p ≤ w → length q ≤ w → order p q ≡ before → Earlier w p q
before_earlier w [] [] h k e = absurd (before≢same (sym e))
before_earlier w (x ∷ p) [] h k e = absurd (before≢after (sym e))
before_earlier w [] (y ∷ q) h k e =
    let z : number (padded w []) ≡ 0 = number_zeros (w - 0) in
    elim (cases_eq (number (padded w (y ∷ q))) 0) [ inl f ↦ inr (z ∙ sym f, omega arith) | inr f ↦ inl (omega arith) ]
before_earlier zero (x ∷ p) (y ∷ q) h k e = absurd (omega arith)
before_earlier (suc w) (false ∷ p) (false ∷ q) h k e =
    earlier_more 0 _ _ _ _ _ _ (number_false w p ∙ omega arith) (number_false w q ∙ omega arith) (before_earlier w p q (omega arith) (omega arith) e)
before_earlier (suc w) (false ∷ p) (true ∷ q) h k e =
    inl (let f = number_false w p in let g = number_true w q (omega arith) in let b = number_below w p (omega arith) in omega arith)
before_earlier (suc w) (true ∷ p) (false ∷ q) h k e = absurd (before≢after (sym e))
before_earlier (suc w) (true ∷ p) (true ∷ q) h k e =
    earlier_more (2 ^ w) _ _ _ _ _ _ (number_true w p (omega arith)) (number_true w q (omega arith)) (before_earlier w p q (omega arith) (omega arith) e)

earlier_apart : (a b i j : ℕ) → (a < b) ⊎ ((a ≡ b) × (i < j)) → (b < a) ⊎ ((b ≡ a) × (j < i)) → ⊥
earlier_apart a b i j (inl h) (inl k) = omega arith
earlier_apart a b i j (inl h) (inr k) = omega arith
earlier_apart a b i j (inr h) (inl k) = omega arith
earlier_apart a b i j (inr h) (inr k) = omega arith

earlier_other : (a b i j : ℕ) → (a < b) ⊎ ((a ≡ b) × (i < j)) → a ≡ b → i ≡ j → ⊥
earlier_other a b i j (inl h) e f = omega arith
earlier_other a b i j (inr h) e f = omega arith

pub earlier_before : (w : ℕ) (p q : Bits) → length p ≤ w → length q ≤ w → Earlier w p q → order p q ≡ before
earlier_before w p q h k e = go (order p q) refl
  where
    go : (o : Order) → order p q ≡ o → order p q ≡ before
    go before f = f
    go same f = let i : p ≡ q = same_is p q f in absurd (earlier_other _ _ _ _ e (ap (λ (s : Bits). number (padded w s)) i) (ap length i))
    go after f = absurd (earlier_apart _ _ _ _ e (before_earlier w q p k h (flip_after p q f)))
