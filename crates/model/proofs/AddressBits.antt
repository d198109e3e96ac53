-- What the halves of addresses say of their bits: the last ones as a number, and which addresses are the same. Assumes nothing.
use Rattle.std.proofs.Common.{◌≡◌, ℕ, suc, ◌+◌, ◌-◌, ◌*◌, ◌/◌, ◌%◌, ◌^◌, ◌<◌, ◌≤◌, Bool, true, false, [], ◌∷◌, ◌++◌, length, take, drop, sym, refl, ap, ◌∙◌, mul_assoc, add-mul, pow-suc, arith}
use lib.Pow.{high, low}
use Rattle.bits.specs.Bits.{Bits, equal}
use Rattle.bits.specs.Halves.{low_bits, word, front, Aligned, Fit}
use Rattle.bits.specs.Laws as plain
use Rattle.bits.specs.declared.halves.Halves.{Halves}
use Rattle.bits.proofs.LowBits.{low_split, low_mod, low_front, low_back, low_number}
use Rattle.bits.proofs.Fronts.{word_is, front_is, front_injective}
use Rattle.bits.proofs.Orders.{equal_is, equal_self}
use Rattle.model.specs.Slots.{number, slot_of}

-- the number that bits make after the digits n
number_after : (n : ℕ) (a : Bits) → number n a ≡ n * 2 ^ length a + plain.number a
number_after n [] = omega arith
number_after n (false ∷ a) =
    let i : number (2 * n) a ≡ 2 * n * 2 ^ length a + plain.number a = number_after (2 * n) a in
    let d : n * 2 ^ suc (length a) ≡ n * (2 ^ length a * 2) = ap (λ k. n * k) (pow-suc 2 (length a)) in
    let e : n * 2 ^ length a * 2 ≡ n * (2 ^ length a * 2) = mul_assoc n (2 ^ length a) 2 in
    let f : 2 * n * 2 ^ length a ≡ 2 * (n * 2 ^ length a) = mul_assoc 2 n (2 ^ length a) in
    omega arith
number_after n (true ∷ a) =
    let i : number (2 * n + 1) a ≡ (2 * n + 1) * 2 ^ length a + plain.number a = number_after (2 * n + 1) a in
    let d : n * 2 ^ suc (length a) ≡ n * (2 ^ length a * 2) = ap (λ k. n * k) (pow-suc 2 (length a)) in
    let e : n * 2 ^ length a * 2 ≡ n * (2 ^ length a * 2) = mul_assoc n (2 ^ length a) 2 in
    let f : 2 * n * 2 ^ length a ≡ 2 * (n * 2 ^ length a) = mul_assoc 2 n (2 ^ length a) in
    let g : (2 * n + 1) * 2 ^ length a ≡ 2 * n * 2 ^ length a + 1 * 2 ^ length a = add-mul (2 * n) 1 (2 ^ length a) in
    omega arith

-- the bits of a number make its low bits' number
low_bits_number : (n x : ℕ) → number 0 (low_bits n x) ≡ x % 2 ^ n
low_bits_number n x = number_after 0 (low_bits n x) ∙ (let e : plain.number (low_bits n x) ≡ x % 2 ^ n = low_number n x in omega arith)

-- the halves as one number
whole_word : (h : Halves) → h.lo < 2 ^ 64 → word h ≡ low_bits 128 (h.hi * 2 ^ 64 + h.lo)
whole_word h l =
    let x : ℕ = h.hi * 2 ^ 64 + h.lo in
    word_is h
    ∙ ap (λ n. low_bits 64 n ++ low_bits 64 h.lo) (sym (high h.hi 64 l))
    ∙ ap (λ n. low_bits 64 (x / 2 ^ 64) ++ low_bits 64 n) (sym (low h.hi 64 l))
    ∙ ap (λ (s : Bits). low_bits 64 (x / 2 ^ 64) ++ s) (low_mod 64 x)
    ∙ sym (low_split 64 64 x)

-- the last k of the first w bits
pub last_bits : (k w : ℕ) (h : Halves) → k ≤ w → w ≤ 128 → h.lo < 2 ^ 64 → (h.hi * 2 ^ 64 + h.lo) / 2 ^ (128 - w) % 2 ^ k ≡ number 0 (drop (w - k) (front w h))
last_bits k w h j l f =
    let x : ℕ = h.hi * 2 ^ 64 + h.lo in
    let y : ℕ = x / 2 ^ (128 - w) in
    let e : w - (w - k) ≡ k = omega arith in
    sym (ap (λ (s : Bits). number 0 (drop (w - k) s)) (front_is w h ∙ ap (take w) (whole_word h f) ∙ low_front w 128 x l)
    ∙ ap (number 0) (low_back (w - k) w y (omega arith) ∙ ap (λ n. low_bits n y) e)
    ∙ low_bits_number k y)

-- the slot of an address of w bits, by its halves
pub slot_is : (w n m : ℕ) (h : Halves) (a : Bits) → a ≡ front w h → length a ≡ w → m ≡ number 0 (drop (w - 16) (front w h)) → m % n ≡ slot_of n a
slot_is w n m h a e l d = ap (λ k. k % n) (d ∙ ap (λ (s : Bits). number 0 (drop (w - 16) s)) (sym e) ∙ ap (λ k. number 0 (drop (k - 16) a)) (sym l))

same_truth : (t u : Bool) → (t ≡ true → u ≡ true) → (u ≡ true → t ≡ true) → t ≡ u
same_truth true u there back = sym (there refl)
same_truth false true there back = back refl
same_truth false false there back = refl

-- a test whether halves are the same tells whether the addresses of w bits are
pub same_test : (w : ℕ) (a b : Bits) (x y : Halves) (t : Bool) → a ≡ front w x → b ≡ front w y → Fit x × Aligned w x → Fit y × Aligned w y → (t ≡ true → x ≡ y) → (x ≡ y → t ≡ true) → t ≡ equal a b
same_test w a b x y t e f g h there back =
    same_truth t (equal a b)
    (λ s. let i : a ≡ b = e ∙ ap (front w) (there s) ∙ sym f in ap (λ (p : Bits). equal p b) i ∙ equal_self b)
    (λ s. back (front_injective w x y g.0 h.0 g.1 h.1 (sym e ∙ equal_is a b s ∙ f)))
