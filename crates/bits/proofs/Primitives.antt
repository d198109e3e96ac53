-- What the arithmetic on halves says of the bit strings.
use Rattle.std.proofs.Common.{◌≡◌, ℕ, zero, suc, ◌+◌, ◌-◌, ◌*◌, ◌/◌, ◌%◌, ◌^◌, ◌<◌, ◌≤◌, Bool, true, false, cond, ◌&&◌, ◌||◌, eqb, ◌≢◌, ◌⊎◌, [], ◌∷◌, ◌++◌, length, get_or, take, drop, replicate, sym, refl, ap, ◌∙◌, inl, inr, add-zero, pow-suc, div-mul-le_self, arith, shr_lt}
use native.Mathlib.Nat.{div-eq_of_lt, div-eq_of_lt-le}
use lib.Bits.{bit_xor, xor_assoc, xor_self, xor_zero_l, xor_zero_r, xor_shr, xor_mod, xor_lt}
use lib.Count.{count_leading_zeros, leading_length, leading_of_zero}
use Rattle.std.proofs.lemmas.List.{take_at, drop_at, take-append-le, get_or_append_left, get_or-append_right, append_assoc, replicate-append-replicate, append_cancel_left, take-append-drop, append-nil, length-take-le}
use Rattle.std.proofs.lemmas.Bool.{eqb-true, eqb-false, eq-eqb, ne_eqb, lt-ltb, le-ltb, le-leb, lt-leb, cases_eq, cases_lt, cases_Bool, both_ways, true≢false, and_parts, and_from, or_cases, or_right}
use Rattle.bits.specs.Bits.{Bits, before, same, after, order, covers, common}
use Rattle.bits.specs.Halves.{digit, low_bits, word, front, clear, Fit}
use Rattle.bits.specs.Arithmetic.{bit_of, shared, top, cut, uncut, agree, by_length, settled}
use Rattle.bits.specs.declared.halves.Halves.{Halves}
use Rattle.bits.proofs.LowBits.{low_length, low_split, low_front, low_at, low_more, low_zero, low_shifted, low_injective}
use Rattle.bits.proofs.Strings.{covers_test, common_self, common_after, common_apart, order_shorter, order_longer, order_alike, order_parted}
use Rattle.bits.proofs.Fronts.{word_is, word_length, word_high, word_low, halves_equal, clear_aligned, aligned_clear}

-- bit i of a word
bit_high : (h : Halves) (i : ℕ) → i < 64 → digit h.hi (63 - i) ≡ get_or (word h) i false
unfolding word
bit_high h i l =
    let e : length (low_bits 64 h.hi) ≡ 64 = low_length 64 h.hi in
    sym (get_or_append_left (low_bits 64 h.hi) (low_bits 64 h.lo) false i (omega arith) ∙ low_at 64 h.hi i l)

bit_low : (h : Halves) (i : ℕ) → 64 ≤ i → i < 128 → digit h.lo (127 - i) ≡ get_or (word h) i false
unfolding word
bit_low h i l k =
    let e : 64 - 1 - (i - 64) ≡ 127 - i = omega arith in
    sym (get_or-append_right (low_bits 64 h.hi) (low_bits 64 h.lo) 64 i false (low_length 64 h.hi) l
    ∙ low_at 64 h.lo (i - 64) (omega arith) ∙ ap (digit h.lo) e)

pub bit_is : (h : Halves) (i : ℕ) → i < 128 → bit_of h i ≡ get_or (word h) i false
unfolding digit
bit_is h i l = elim (cases_lt i 64) [ inl e ↦ rw (lt-ltb i 64 e) (bit_high h i e) | inr e ↦ rw (le-ltb i 64 e) (bit_low h i e l) ]

-- two numbers whose difference in bits is none are equal
pub xor_none : (u v : ℕ) → bit_xor u v ≡ 0 → u ≡ v
xor_none u v e = sym (xor_zero_r u) ∙ ap (λ n. bit_xor u n) (sym (xor_self v)) ∙ sym (xor_assoc u v v) ∙ ap (λ n. bit_xor n v) e ∙ xor_zero_l v

parity : (x y : ℕ) → x < 2 → y < 2 → eqb x 1 ≡ eqb y 1 → x ≡ y
parity x y hx hy e = elim (cases_eq x 1) [ inl p ↦ p ∙ sym (eqb-true y 1 (sym e ∙ eq-eqb x 1 p)) | inr p ↦ let q : y ≡ 1 → ⊥ = eqb-false y 1 (sym e ∙ ne_eqb x 1 p) in omega arith ]

digits_apart : (a b j : ℕ) → bit_xor a b / 2 ^ j ≡ 1 → digit a j ≢ digit b j
unfolding digit
digits_apart a b j e alike =
    let u : ℕ = a / 2 ^ j in
    let v : ℕ = b / 2 ^ j in
    let x : bit_xor u v ≡ 1 = sym (xor_shr a b j) ∙ e in
    let p : u % 2 ≡ v % 2 = parity (u % 2) (v % 2) (omega arith) (omega arith) alike in
    let z : bit_xor u v % 2 ≡ 0 = xor_mod u v 1 ∙ ap (λ n. bit_xor n (v % 2)) p ∙ xor_self (v % 2) in
    let o : bit_xor u v % 2 ≡ 1 = ap (λ n. n % 2) x in
    omega arith

-- two numbers of r + suc j bits that differ first at digit j have r first bits in common
parted : (a b r j : ℕ) (u v : Bits) → bit_xor a b < 2 ^ suc j → 2 ^ suc j ≤ 2 * bit_xor a b + 1
    → length (common (low_bits (r + suc j) a ++ u) (low_bits (r + suc j) b ++ v)) ≡ r
parted a b r j u v lt ge =
    let d : 2 ^ suc j ≡ 2 ^ j * 2 = pow-suc 2 j in
    let one : bit_xor a b / 2 ^ j ≡ 1 = div-eq_of_lt-le (2 ^ j) (omega arith) (omega arith) in
    let tops : a / 2 ^ suc j ≡ b / 2 ^ suc j = xor_none _ _ (sym (xor_shr a b (suc j)) ∙ div-eq_of_lt lt) in
    let s : Bits = low_bits r (b / 2 ^ suc j) in
    let ea : low_bits (r + suc j) a ++ u ≡ s ++ (digit a j ∷ (low_bits j a ++ u)) = split a u ∙ ap (λ x. low_bits r x ++ (digit a j ∷ (low_bits j a ++ u))) tops in
    ap (λ (p : Bits). length (common p (low_bits (r + suc j) b ++ v))) ea
    ∙ ap (λ (q : Bits). length (common (s ++ (digit a j ∷ (low_bits j a ++ u))) q)) (split b v)
    ∙ common_after s (digit a j ∷ (low_bits j a ++ u)) (digit b j ∷ (low_bits j b ++ v))
    ∙ ap (λ (p : Bits). length s + length p) (common_apart (digit a j) (digit b j) _ _ (digits_apart a b j one))
    ∙ add-zero (length s) ∙ low_length r (b / 2 ^ suc j)
  where
    split : (x : ℕ) (t : Bits) → low_bits (r + suc j) x ++ t ≡ low_bits r (x / 2 ^ suc j) ++ (digit x j ∷ (low_bits j x ++ t))
    split x t =
        ap (λ (p : Bits). p ++ t) (low_split r (suc j) x ∙ ap (λ (p : Bits). low_bits r (x / 2 ^ suc j) ++ p) (low_more j x))
        ∙ append_assoc (low_bits r (x / 2 ^ suc j)) (digit x j ∷ low_bits j x) t

-- the first bits that two different numbers of 64 bits have in common
common_high : (a b : ℕ) (u v : Bits) → a < 2 ^ 64 → b < 2 ^ 64 → (bit_xor a b ≡ 0 → ⊥)
    → length (common (low_bits 64 a ++ u) (low_bits 64 b ++ v)) ≡ count_leading_zeros 64 (bit_xor a b)
common_high a b u v ha hb ne = go (count_leading_zeros 64 (bit_xor a b)) lead.0 lead.1 lead.2 lead.3
  where
    lead : (m : ℕ) × (count_leading_zeros 64 (bit_xor a b) + m ≡ 64) × (bit_xor a b < 2 ^ m) × (2 ^ m ≤ 2 * bit_xor a b + 1)
    lead = leading_length 64 (bit_xor a b) (xor_lt 64 a b ha hb)

    go : (r m : ℕ) → r + m ≡ 64 → bit_xor a b < 2 ^ m → 2 ^ m ≤ 2 * bit_xor a b + 1
        → length (common (low_bits 64 a ++ u) (low_bits 64 b ++ v)) ≡ r
    go r zero e lt ge = absurd (ne (omega arith))
    go r (suc j) e lt ge = ap (λ n. length (common (low_bits n a ++ u) (low_bits n b ++ v))) (sym e) ∙ parted a b r j u v lt ge

-- the first bits that two numbers of 64 bits have in common
common_number : (a b : ℕ) → a < 2 ^ 64 → b < 2 ^ 64 → length (common (low_bits 64 a) (low_bits 64 b)) ≡ count_leading_zeros 64 (bit_xor a b)
common_number a b ha hb = elim (cases_eq (bit_xor a b) 0) [
  | inl e ↦ alike e
  | inr ne ↦
      ap (λ (p : Bits). length (common p (low_bits 64 b))) (sym (nil a)) ∙ ap (λ (p : Bits). length (common (low_bits 64 a ++ []) p)) (sym (nil b))
      ∙ common_high a b [] [] ha hb ne
]
  where
    nil : (x : ℕ) → low_bits 64 x ++ [] ≡ low_bits 64 x
    nil x = append-nil (low_bits 64 x)

    alike : bit_xor a b ≡ 0 → length (common (low_bits 64 a) (low_bits 64 b)) ≡ count_leading_zeros 64 (bit_xor a b)
    alike e =
        ap (λ x. length (common (low_bits 64 a) (low_bits 64 x))) (sym (xor_none a b e))
        ∙ ap length (common_self (low_bits 64 a)) ∙ low_length 64 a ∙ sym (leading_of_zero 64) ∙ ap (count_leading_zeros 64) (sym e)

-- where the high halves differ, and where they do not
common_parted : (a b : Halves) → a.hi < 2 ^ 64 → b.hi < 2 ^ 64 → (bit_xor a.hi b.hi ≡ 0 → ⊥) → count_leading_zeros 64 (bit_xor a.hi b.hi) ≡ length (common (word a) (word b))
unfolding word
common_parted a b f g ne = sym (common_high a.hi b.hi (low_bits 64 a.lo) (low_bits 64 b.lo) f g ne)

common_joined : (a b : Halves) → a.lo < 2 ^ 64 → b.lo < 2 ^ 64 → bit_xor a.hi b.hi ≡ 0 → 64 + count_leading_zeros 64 (bit_xor a.lo b.lo) ≡ length (common (word a) (word b))
unfolding word
common_joined a b f g e =
    let p : a.hi ≡ b.hi = xor_none _ _ e in
    sym (ap (λ x. length (common (low_bits 64 x ++ low_bits 64 a.lo) (low_bits 64 b.hi ++ low_bits 64 b.lo))) p
    ∙ common_after (low_bits 64 b.hi) (low_bits 64 a.lo) (low_bits 64 b.lo)
    ∙ ap (λ n. n + length (common (low_bits 64 a.lo) (low_bits 64 b.lo))) (low_length 64 b.hi)
    ∙ ap (λ n. 64 + n) (common_number a.lo b.lo f g))

pub shared_is : (a b : Halves) → Fit a → Fit b → shared a b ≡ length (common (word a) (word b))
shared_is a b f g = elim (cases_eq (bit_xor a.hi b.hi) 0) [
  | inl e ↦ rw (eq-eqb (bit_xor a.hi b.hi) 0 e) (common_joined a b f.1 g.1 e)
  | inr e ↦ rw (ne_eqb (bit_xor a.hi b.hi) 0 e) (common_parted a b f.0 g.0 e)
]

-- the first n bits of a word, of a half and a part
pub take_high : (n : ℕ) (h : Halves) → n ≤ 64 → take n (word h) ≡ low_bits n (h.hi / 2 ^ (64 - n))
unfolding word
take_high n h l =
    let e : length (low_bits 64 h.hi) ≡ 64 = low_length 64 h.hi in
    take-append-le n (low_bits 64 h.hi) (low_bits 64 h.lo) (omega arith) ∙ low_front n 64 h.hi l

take_past : (p q : Bits) (m n : ℕ) → length p ≡ m → m ≤ n → take n (p ++ q) ≡ p ++ take (n - m) q
take_past [] q m n e l = let z : n ≡ n - m = omega arith in ap (λ k. take k q) z
take_past (x ∷ p) q zero n e l = absurd (omega arith)
take_past (x ∷ p) q (suc m) zero e l = absurd (omega arith)
take_past (x ∷ p) q (suc m) (suc n) e l =
    let z : n - m ≡ suc n - suc m = omega arith in
    ap (λ (s : Bits). x ∷ s) (take_past p q m n (omega arith) (omega arith) ∙ ap (λ k. p ++ take k q) z)

pub take_low : (n : ℕ) (h : Halves) → 64 ≤ n → n ≤ 128 → take n (word h) ≡ low_bits 64 h.hi ++ low_bits (n - 64) (h.lo / 2 ^ (128 - n))
unfolding word
take_low n h l k =
    let e : 64 - (n - 64) ≡ 128 - n = omega arith in
    take_past (low_bits 64 h.hi) (low_bits 64 h.lo) 64 n (low_length 64 h.hi) l
    ∙ ap (λ (s : Bits). low_bits 64 h.hi ++ s) (low_front (n - 64) 64 h.lo (omega arith) ∙ ap (λ m. low_bits (n - 64) (h.lo / 2 ^ m)) e)

-- the first n bits with zeros after, in the high half and in the low one
masked_high : (n : ℕ) (h r : Halves) → n ≤ 64 → r.hi ≡ h.hi / 2 ^ (64 - n) * 2 ^ (64 - n) → r.lo ≡ 0 → word r ≡ take n (word h) ++ replicate (128 - n) false
masked_high n h r l p q =
    let x : ℕ = h.hi / 2 ^ (64 - n) in
    let e : 64 - n + 64 ≡ 128 - n = omega arith in
    word_is r ∙ ap (λ y. low_bits 64 y ++ low_bits 64 r.lo) p ∙ ap (λ y. low_bits 64 (x * 2 ^ (64 - n)) ++ low_bits 64 y) q
    ∙ ap (λ (s : Bits). s ++ low_bits 64 0) (low_shifted n 64 x l)
    ∙ append_assoc (low_bits n x) (replicate (64 - n) false) (low_bits 64 0)
    ∙ ap (λ (s : Bits). low_bits n x ++ (replicate (64 - n) false ++ s)) (low_zero 64)
    ∙ ap (λ (s : Bits). low_bits n x ++ s) (replicate-append-replicate (64 - n) 64 false ∙ ap (λ m. replicate m false) e)
    ∙ ap (λ (s : Bits). s ++ replicate (128 - n) false) (sym (take_high n h l))

masked_low : (n : ℕ) (h r : Halves) → 64 ≤ n → n ≤ 128 → r.hi ≡ h.hi → r.lo ≡ h.lo / 2 ^ (64 - (n - 64)) * 2 ^ (64 - (n - 64)) → word r ≡ take n (word h) ++ replicate (128 - n) false
masked_low n h r l k p q =
    let m : ℕ = n - 64 in
    let x : ℕ = h.lo / 2 ^ (64 - m) in
    let e : 64 - m ≡ 128 - n = omega arith in
    word_is r ∙ ap (λ y. low_bits 64 y ++ low_bits 64 r.lo) p ∙ ap (λ y. low_bits 64 h.hi ++ low_bits 64 y) q
    ∙ ap (λ (s : Bits). low_bits 64 h.hi ++ s) (low_shifted m 64 x (omega arith))
    ∙ sym (append_assoc (low_bits 64 h.hi) (low_bits m x) (replicate (64 - m) false))
    ∙ ap (λ i. (low_bits 64 h.hi ++ low_bits m (h.lo / 2 ^ i)) ++ replicate i false) e
    ∙ ap (λ (s : Bits). s ++ replicate (128 - n) false) (sym (take_low n h l k))

pub cut_is : (n : ℕ) (h : Halves) → n ≤ 128 → word (cut n h) ≡ take n (word h) ++ replicate (128 - n) false
cut_is n h l = elim (cases_lt n 64) [
  | inl e ↦ rw (lt-ltb n 64 e) (masked_high n h _ (omega arith) refl refl)
  | inr e ↦ rw (le-ltb n 64 e) (masked_low n h _ e l refl refl)
]

cut_fit : (n : ℕ) (h : Halves) → Fit h → Fit (cut n h)
cut_fit n h f = elim (cases_lt n 64) [
  | inl e ↦ rw (lt-ltb n 64 e) (let t : top n h.hi ≤ h.hi = div-mul-le_self h.hi (2 ^ (64 - n)) in omega (arith, f.0), omega (arith, f.0))
  | inr e ↦ rw (le-ltb n 64 e) (f.0, let t : top (n - 64) h.lo ≤ h.lo = div-mul-le_self h.lo (2 ^ (64 - (n - 64))) in omega (arith, f.1))
]

same_xor : (u v : ℕ) → u ≡ v → bit_xor u v ≡ 0
same_xor u v e = ap (λ x. bit_xor u x) (sym e) ∙ xor_self u

-- the high bits of a number of 64 bits
shr_bound : (x n m : ℕ) → n + m ≡ 64 → x < 2 ^ 64 → x / 2 ^ m < 2 ^ n
shr_bound x n m e h = shr_lt n m (let b : x < 2 ^ (n + m) = rw e h in b)

front_part : (n : ℕ) (p a : Halves) → n ≤ 128 → take n (word a) ≡ take (length (take n (word p))) (word a)
front_part n p a k =
    ap (λ m. take m (word a)) (sym (length-take-le n (word p) (let e : length (word p) ≡ 128 = word_length p in omega arith)))

-- the test of a cover by bits of the high half
covers_high : (t : Bool) (n : ℕ) (p a : Halves) → n ≤ 64 → p.hi < 2 ^ 64 → a.hi < 2 ^ 64
    → (t ≡ true → bit_xor p.hi a.hi / 2 ^ (64 - n) ≡ 0) → (bit_xor p.hi a.hi / 2 ^ (64 - n) ≡ 0 → t ≡ true) → t ≡ covers (front n p) (word a)
unfolding front
covers_high t n p a l f g says back = covers_test t (take n (word p)) (word a) (λ e. there e ∙ part) (λ e. from (e ∙ sym part))
  where
    m : ℕ
    m = 64 - n

    part : take n (word a) ≡ take (length (take n (word p))) (word a)
    part = front_part n p a (omega arith)

    there : t ≡ true → take n (word p) ≡ take n (word a)
    there e = take_high n p l ∙ ap (low_bits n) (xor_none _ _ (sym (xor_shr _ _ (64 - n)) ∙ says e)) ∙ sym (take_high n a l)

    from : take n (word p) ≡ take n (word a) → t ≡ true
    from e =
        back (xor_shr _ _ (64 - n) ∙ same_xor _ _ (low_injective n _ _ (shr_bound _ n (64 - n) (omega arith) f) (shr_bound _ n (64 - n) (omega arith) g)
        (sym (take_high n p l) ∙ e ∙ take_high n a l)))

high_part : (n : ℕ) (h : Halves) → 64 ≤ n → n ≤ 128 → take 64 (take n (word h)) ≡ low_bits 64 h.hi
high_part n h l k = ap (take 64) (take_low n h l k) ∙ take_at _ _ 64 (low_length 64 h.hi)

low_part : (n : ℕ) (h : Halves) → 64 ≤ n → n ≤ 128 → drop 64 (take n (word h)) ≡ low_bits (n - 64) (h.lo / 2 ^ (128 - n))
low_part n h l k = ap (drop 64) (take_low n h l k) ∙ drop_at _ _ 64 (low_length 64 h.hi)

-- the test of a cover by bits of the low half
covers_low : (t : Bool) (n : ℕ) (p a : Halves) → 64 ≤ n → n ≤ 128 → p.hi ≡ a.hi → p.lo < 2 ^ 64 → a.lo < 2 ^ 64
    → (t ≡ true → bit_xor p.lo a.lo / 2 ^ (128 - n) ≡ 0) → (bit_xor p.lo a.lo / 2 ^ (128 - n) ≡ 0 → t ≡ true) → t ≡ covers (front n p) (word a)
unfolding front
covers_low t n p a l k alike f g says back = covers_test t (take n (word p)) (word a) (λ e. there e ∙ front_part n p a k) (λ e. from (e ∙ sym (front_part n p a k)))
  where
    there : t ≡ true → take n (word p) ≡ take n (word a)
    there e =
        take_low n p l k ∙ ap (λ x. low_bits 64 x ++ low_bits (n - 64) (p.lo / 2 ^ (128 - n))) alike
        ∙ ap (λ x. low_bits 64 a.hi ++ low_bits (n - 64) x) (xor_none _ _ (sym (xor_shr _ _ (128 - n)) ∙ says e)) ∙ sym (take_low n a l k)

    from : take n (word p) ≡ take n (word a) → t ≡ true
    from e =
        back (xor_shr _ _ (128 - n) ∙ same_xor _ _ (low_injective (n - 64) _ _ (shr_bound _ (n - 64) (128 - n) (omega arith) f)
        (shr_bound _ (n - 64) (128 - n) (omega arith) g) (sym (low_part n p l k) ∙ ap (drop 64) e ∙ low_part n a l k)))

-- a long prefix covers nothing with another high half
covers_apart : (t : Bool) (n : ℕ) (p a : Halves) → 64 ≤ n → n ≤ 128 → p.hi < 2 ^ 64 → a.hi < 2 ^ 64 → (t ≡ true → ⊥) → (p.hi ≡ a.hi → ⊥) → t ≡ covers (front n p) (word a)
unfolding front
covers_apart t n p a l k f g never apart =
    covers_test t (take n (word p)) (word a) (λ e. absurd (never e))
    (λ e. absurd (apart (low_injective 64 _ _ f g (sym (high_part n p l k) ∙ ap (take 64) (e ∙ sym (front_part n p a k)) ∙ high_part n a l k))))

pub agree_is : (n : ℕ) (p a : Halves) → n ≤ 128 → Fit p → Fit a → agree n p a ≡ covers (front n p) (word a)
agree_is n p a l f g = elim (cases_lt 64 n) [ inl e ↦ rw (lt-leb n 64 e) (long e (cases_eq p.hi a.hi)) | inr e ↦ rw (le-leb n 64 e) (short e) ]
  where
    x : ℕ
    x = bit_xor p.hi a.hi / 2 ^ (64 - n)

    none : n ≡ 0 → x ≡ 0
    none e = let z : 64 - n ≡ 64 = omega arith in div-eq_of_lt (rw z (xor_lt 64 p.hi a.hi f.0 g.0))

    short : n ≤ 64 → (eqb n 0 || eqb x 0) ≡ covers (front n p) (word a)
    short e =
        covers_high _ n p a e f.0 g.0 (λ t. elim (or_cases (eqb n 0) (eqb x 0) t) [ inl u ↦ none (eqb-true n 0 u) | inr u ↦ eqb-true x 0 u ])
        (λ t. or_right (eqb n 0) (eqb x 0) (eq-eqb x 0 t))

    y : ℕ
    y = bit_xor p.lo a.lo / 2 ^ (128 - n)

    long : 64 < n → (p.hi ≡ a.hi) ⊎ (p.hi ≡ a.hi → ⊥) → (eqb p.hi a.hi && eqb y 0) ≡ covers (front n p) (word a)
    long e (inl t) = rw (eq-eqb p.hi a.hi t) (covers_low _ n p a (omega arith) l t f.1 g.1 (eqb-true y 0) (eq-eqb y 0))
    long e (inr t) = rw (ne_eqb p.hi a.hi t) (covers_apart false n p a (omega arith) l f.0 g.0 (λ u. true≢false (sym u)) t)

-- a test that says whether a word is its own masked one says whether nothing is set beyond n
aligned_test : (t : Bool) (n : ℕ) (h m : Halves) → word m ≡ take n (word h) ++ replicate (128 - n) false
    → (t ≡ true → word m ≡ word h) → (word m ≡ word h → t ≡ true) → t ≡ clear (drop n (word h))
aligned_test t n h m e says back = elim (cases_Bool t) [ inl q ↦ q ∙ sym (fine (says q)) | inr q ↦ q ∙ sym (miss q (cases_Bool (clear (drop n (word h))))) ]
  where
    fine : word m ≡ word h → clear (drop n (word h)) ≡ true
    fine w = aligned_clear n h (append_cancel_left (take n (word h)) _ _ (take-append-drop n (word h) ∙ sym w ∙ e))

    miss : t ≡ false → (clear (drop n (word h)) ≡ true) ⊎ (clear (drop n (word h)) ≡ false) → clear (drop n (word h)) ≡ false
    miss q (inr c) = c
    miss q (inl c) = absurd (both_ways t q (back (e ∙ ap (λ (s : Bits). take n (word h) ++ s) (sym (clear_aligned n h c)) ∙ take-append-drop n (word h))))

pub uncut_is : (n : ℕ) (h : Halves) → n ≤ 128 → Fit h → uncut n h ≡ clear (drop n (word h))
uncut_is n h l f = aligned_test _ n h (cut n h) (cut_is n h l)
    (λ t. let u = and_parts (eqb (cut n h).hi h.hi) (eqb (cut n h).lo h.lo) t in ap word (halves_equal (cut n h) h (eqb-true _ _ u.0) (eqb-true _ _ u.1)))
    (λ e. let g = cut_fit n h f in and_from _ _ (eq-eqb _ _ (word_high (cut n h) h g.0 f.0 e)) (eq-eqb _ _ (word_low (cut n h) h g.1 f.1 e)))

-- the order of two fronts, by the number c of first bits that the words have in common
fronts_parted : (d : Bool) (a b : Halves) (n m c : ℕ) → c ≡ length (common (word a) (word b)) → n ≤ 128 → m ≤ 128 → c < n → c < m
    → d ≡ get_or (word a) c false → cond d after before ≡ order (front n a) (front m b)
unfolding front
fronts_parted d a b n m c e l k h j g =
    let la : length (word a) ≡ 128 = word_length a in
    let lb : length (word b) ≡ 128 = word_length b in
    ap (λ t. cond t after before) (g ∙ ap (λ i. get_or (word a) i false) e)
    ∙ sym (order_parted (word a) (word b) n m (omega arith) (omega arith) (omega arith) (omega arith))

fronts_shorter : (a b : Halves) (n m c : ℕ) → c ≡ length (common (word a) (word b)) → m ≤ 128 → n ≤ c → n < m → before ≡ order (front n a) (front m b)
unfolding front
fronts_shorter a b n m c e k h l =
    let lb : length (word b) ≡ 128 = word_length b in
    sym (order_shorter (word a) (word b) n m (omega arith) l (omega arith))

fronts_alike : (a b : Halves) (n m c : ℕ) → c ≡ length (common (word a) (word b)) → n ≤ c → n ≡ m → same ≡ order (front n a) (front m b)
unfolding front
fronts_alike a b n m c e h l =
    sym (order_alike (word a) (word b) n (omega arith)) ∙ ap (λ k. order (take n (word a)) (take k (word b))) l

fronts_longer : (a b : Halves) (n m c : ℕ) → c ≡ length (common (word a) (word b)) → n ≤ 128 → m ≤ c → m < n → after ≡ order (front n a) (front m b)
unfolding front
fronts_longer a b n m c e k h l =
    let la : length (word a) ≡ 128 = word_length a in
    sym (order_longer (word a) (word b) n m (omega arith) l (omega arith))

pub settled_is : (a b : Halves) (n m : ℕ) → n ≤ 128 → m ≤ 128 → Fit a → Fit b → settled (shared a b) (bit_of a (shared a b)) n m ≡ order (front n a) (front m b)
settled_is a b n m l k f g = go (shared a b) (shared_is a b f g) (cases_lt (shared a b) n) (cases_lt (shared a b) m)
  where
    next : (c : ℕ) → c < n → bit_of a c ≡ get_or (word a) c false
    next c h = bit_is a c (omega arith)

    lengths : (c : ℕ) → c ≡ length (common (word a) (word b)) → (n ≤ c) ⊎ (m ≤ c) → (n < m) ⊎ (m ≤ n) → by_length n m ≡ order (front n a) (front m b)
    lengths c e h (inl i) = rw (lt-ltb n m i) (fronts_shorter a b n m c e k (elim h [ inl j ↦ j | inr j ↦ omega arith ]) i)
    lengths c e h (inr i) = rw (le-ltb n m i) (elim (cases_eq n m) [
      | inl j ↦ rw (eq-eqb n m j) (fronts_alike a b n m c e (elim h [ inl q ↦ q | inr q ↦ omega arith ]) j)
      | inr j ↦ rw (ne_eqb n m j) (fronts_longer a b n m c e l (elim h [ inl q ↦ omega arith | inr q ↦ q ]) (omega arith))
    ])

    go : (c : ℕ) → c ≡ length (common (word a) (word b)) → (c < n) ⊎ (n ≤ c) → (c < m) ⊎ (m ≤ c) → settled c (bit_of a c) n m ≡ order (front n a) (front m b)
    go c e (inl h) (inl j) = rw (lt-ltb c n h, lt-ltb c m j) (fronts_parted (bit_of a c) a b n m c e l k h j (next c h))
    go c e (inl h) (inr j) = rw (lt-ltb c n h, le-ltb c m j) (lengths c e (inr j) (cases_lt n m))
    go c e (inr h) j = rw (le-ltb c n h) (lengths c e (inl h) (cases_lt n m))
