-- The low bits of a number: their length, their parts, and the number back from them.
use Rattle.std.proofs.Common.{◌≡◌, ℕ, zero, suc, ◌+◌, ◌-◌, ◌*◌, ◌/◌, ◌%◌, ◌^◌, ◌<◌, ◌≤◌, true, false, eqb, [], ◌∷◌, ◌++◌, length, get_or, take, drop, replicate, sym, refl, ap, ◌∙◌, mod-lt, mod-eq_of_lt, add_comm, suc-add, pow-suc, zero-add, arith, pow_pos, shr-shr}
use native.Mathlib.Nat.{mul-mod_left, div-eq_of_lt}
use lib.Pow.{shl-shr, field, mod-mod-pow, mod-pow-add, low, high}
use Rattle.std.proofs.lemmas.List.{take_at, drop_at}
use Rattle.bits.specs.Bits.{Bits}
use Rattle.bits.specs.Halves.{digit, low_bits}
use Rattle.bits.specs.Laws.{number}

pub low_length : (n x : ℕ) → length (low_bits n x) ≡ n
unfolding low_bits
low_length zero x = refl
low_length (suc n) x = ap suc (low_length n x)

pub low_none : (x : ℕ) → low_bits 0 x ≡ []
unfolding low_bits
low_none x = refl

pub low_more : (n x : ℕ) → low_bits (suc n) x ≡ digit x n ∷ low_bits n x
unfolding low_bits
low_more n x = refl

digit_shr : (x m k : ℕ) → digit x (k + m) ≡ digit (x / 2 ^ m) k
unfolding digit
digit_shr x m k = ap (λ n. eqb (n % 2) 1) (ap (λ n. x / 2 ^ n) (add_comm k m) ∙ sym (shr-shr x m k))

-- the higher bits are those of the number shifted
pub low_split : (k m x : ℕ) → low_bits (k + m) x ≡ low_bits k (x / 2 ^ m) ++ low_bits m x
low_split zero m x = ap (λ n. low_bits n x) (zero-add m) ∙ ap (λ (p : Bits). p ++ low_bits m x) (sym (low_none (x / 2 ^ m)))
low_split (suc k) m x =
    ap (λ n. low_bits n x) (suc-add k m) ∙ low_more (k + m) x
    ∙ ap (λ b. b ∷ low_bits (k + m) x) (digit_shr x m k)
    ∙ ap (λ (p : Bits). digit (x / 2 ^ m) k ∷ p) (low_split k m x)
    ∙ ap (λ (p : Bits). p ++ low_bits m x) (sym (low_more k (x / 2 ^ m)))

pub low_front : (n w x : ℕ) → n ≤ w → take n (low_bits w x) ≡ low_bits n (x / 2 ^ (w - n))
low_front n w x h =
    let e : w ≡ n + (w - n) = omega arith in
    ap (λ m. take n (low_bits m x)) e ∙ ap (take n) (low_split n (w - n) x) ∙ take_at _ _ n (low_length n (x / 2 ^ (w - n)))

pub low_back : (n w x : ℕ) → n ≤ w → drop n (low_bits w x) ≡ low_bits (w - n) x
low_back n w x h =
    let e : w ≡ n + (w - n) = omega arith in
    ap (λ m. drop n (low_bits m x)) e ∙ ap (drop n) (low_split n (w - n) x) ∙ drop_at _ _ n (low_length n (x / 2 ^ (w - n)))

-- bit i counts from the highest
pub low_at : (w x i : ℕ) → i < w → get_or (low_bits w x) i false ≡ digit x (w - 1 - i)
unfolding low_bits
low_at zero x i h = absurd (omega arith)
low_at (suc w) x zero h = let e : w ≡ suc w - 1 - 0 = omega arith in ap (digit x) e
low_at (suc w) x (suc i) h = let e : w - 1 - i ≡ suc w - 1 - suc i = omega arith in low_at w x i (omega arith) ∙ ap (digit x) e

digit_mod : (x m j : ℕ) → j < m → digit (x % 2 ^ m) j ≡ digit x j
unfolding digit
digit_mod x m j h =
    let i : ℕ = m - j - 1 in
    let e : m ≡ (i + 1) + j = omega arith in
    let f : x % 2 ^ m / 2 ^ j ≡ x / 2 ^ j % 2 ^ (i + 1) = ap (λ n. x % 2 ^ n / 2 ^ j) e ∙ field x (i + 1) j in
    ap (λ n. eqb (n % 2) 1) f ∙ ap (λ n. eqb n 1) (mod-mod-pow (x / 2 ^ j) i 1)

low_mod_of : (n m x : ℕ) → n ≤ m → low_bits n (x % 2 ^ m) ≡ low_bits n x
unfolding low_bits
low_mod_of zero m x h = refl
low_mod_of (suc n) m x h = ap (λ b. b ∷ low_bits n (x % 2 ^ m)) (digit_mod x m n h) ∙ ap (λ (p : Bits). digit x n ∷ p) (low_mod_of n m x (omega arith))

pub rest_bound : (w x : ℕ) → x % 2 ^ w < 2 ^ w
rest_bound w x = mod-lt x {m = 2 ^ w} (pow_pos w)

-- only the low bits count
pub low_mod : (n x : ℕ) → low_bits n (x % 2 ^ n) ≡ low_bits n x
low_mod n x = low_mod_of n n x (omega arith)

digit_zero : (j : ℕ) → digit 0 j ≡ false
unfolding digit
digit_zero j = ap (λ n. eqb (n % 2) 1) (div-eq_of_lt (pow_pos j))

pub low_zero : (n : ℕ) → low_bits n 0 ≡ replicate n false
unfolding low_bits
low_zero zero = refl
low_zero (suc n) = ap (λ b. b ∷ low_bits n 0) (digit_zero n) ∙ ap (λ (p : Bits). false ∷ p) (low_zero n)

-- a number shifted up has zeros below
pub low_shl : (m x : ℕ) → low_bits m (x * 2 ^ m) ≡ replicate m false
low_shl m x = sym (low_mod m (x * 2 ^ m)) ∙ ap (low_bits m) (mul-mod_left x (2 ^ m)) ∙ low_zero m

pub low_shifted : (n w x : ℕ) → n ≤ w → low_bits w (x * 2 ^ (w - n)) ≡ low_bits n x ++ replicate (w - n) false
low_shifted n w x h =
    let k : ℕ = w - n in
    let e : w ≡ n + k = omega arith in
    ap (λ m. low_bits m (x * 2 ^ k)) e ∙ low_split n k (x * 2 ^ k)
    ∙ ap (λ y. low_bits n y ++ low_bits k (x * 2 ^ k)) (shl-shr x k)
    ∙ ap (λ (p : Bits). low_bits n x ++ p) (low_shl k x)

digit_number : (x n r : ℕ) → number (digit x n ∷ low_bits n r) ≡ x / 2 ^ n % 2 * 2 ^ n + number (low_bits n r)
unfolding digit
digit_number x n r = go (x / 2 ^ n % 2) (mod-lt (x / 2 ^ n) {m = 2} (omega arith))
  where
    go : (d : ℕ) → d < 2 → number (eqb d 1 ∷ low_bits n r) ≡ d * 2 ^ n + number (low_bits n r)
    go zero h = omega arith
    go (suc zero) h = let e : 2 ^ length (low_bits n r) ≡ 2 ^ n = ap (λ k. 2 ^ k) (low_length n r) in omega arith
    go (suc (suc d)) h = absurd (omega arith)

-- the number that the low n bits write
pub low_number : (n x : ℕ) → number (low_bits n x) ≡ x % 2 ^ n
low_number zero x = ap number (low_none x) ∙ omega arith
low_number (suc n) x =
    ap number (low_more n x) ∙ digit_number x n x ∙ ap (λ k. x / 2 ^ n % 2 * 2 ^ n + k) (low_number n x)
    ∙ sym (mod-pow-add x 1 n) ∙ (let e : 1 + n ≡ suc n = omega arith in ap (λ k. x % 2 ^ k) e)

pub low_injective : (n x y : ℕ) → x < 2 ^ n → y < 2 ^ n → low_bits n x ≡ low_bits n y → x ≡ y
low_injective n x y h k e = sym (mod-eq_of_lt h) ∙ sym (low_number n x) ∙ ap number e ∙ low_number n y ∙ mod-eq_of_lt k

pub number_bound : (p : Bits) → number p < 2 ^ length p
number_bound [] = omega arith
number_bound (false ∷ p) = let h : number p < 2 ^ length p = number_bound p in let e : 2 ^ suc (length p) ≡ 2 ^ length p * 2 = pow-suc 2 (length p) in omega arith
number_bound (true ∷ p) = let h : number p < 2 ^ length p = number_bound p in let e : 2 ^ suc (length p) ≡ 2 ^ length p * 2 = pow-suc 2 (length p) in omega arith

top_unset : (p : Bits) → digit (number p) (length p) ≡ false
unfolding digit
top_unset p = ap (λ n. eqb (n % 2) 1) (div-eq_of_lt (number_bound p))

with_top : (p : Bits) → 2 ^ length p + number p ≡ 1 * 2 ^ length p + number p
with_top p = omega arith

top_set : (p : Bits) → digit (2 ^ length p + number p) (length p) ≡ true
unfolding digit
top_set p =
    ap (λ n. eqb (n % 2) 1) (ap (λ n. n / 2 ^ length p) (with_top p) ∙ high 1 (length p) (number_bound p))

below_top : (p : Bits) → low_bits (length p) (2 ^ length p + number p) ≡ low_bits (length p) (number p)
below_top p =
    sym (low_mod (length p) (2 ^ length p + number p))
    ∙ ap (low_bits (length p)) (ap (λ n. n % 2 ^ length p) (with_top p) ∙ low 1 (length p) (number_bound p))

-- the low bits of a string's number are the string
pub number_low : (p : Bits) → low_bits (length p) (number p) ≡ p
number_low [] = low_none 0
number_low (false ∷ p) =
    low_more (length p) (number p) ∙ ap (λ b. b ∷ low_bits (length p) (number p)) (top_unset p)
    ∙ ap (λ (q : Bits). false ∷ q) (number_low p)
number_low (true ∷ p) =
    low_more (length p) (2 ^ length p + number p)
    ∙ ap (λ b. b ∷ low_bits (length p) (2 ^ length p + number p)) (top_set p)
    ∙ ap (λ (q : Bits). true ∷ q) (below_top p ∙ number_low p)
