-- The laws of a kind whose addresses are one number of w bits, at most 64.
use Rattle.std.proofs.Common.{◌≡◌, ℕ, ◌+◌, ◌-◌, ◌*◌, ◌/◌, ◌%◌, ◌^◌, ◌<◌, ◌≤◌, true, false, ◌++◌, length, take, drop, replicate, sym, ap, ◌∙◌, subst, mod-eq_of_lt, arith, pow_pos, shl_lt, shr_lt}
use lib.Pow.{shl-shr}
use Rattle.std.proofs.lemmas.List.{take_at, append_assoc, replicate-append-replicate}
use Rattle.bits.specs.Bits.{Bits}
use Rattle.bits.specs.Halves.{low_bits, word, front, clear, Aligned, Fit}
use Rattle.bits.specs.Laws.{number}
use Rattle.bits.specs.Narrow.{lifted, lowered, opening}
use Rattle.bits.specs.declared.halves.Halves.{Halves}
use Rattle.bits.proofs.LowBits.{low_length, rest_bound, low_mod, low_zero, low_shifted, low_injective, number_bound, number_low}
use Rattle.bits.proofs.Fronts.{word_is, front_is, word_aligned, front_injective}
use Rattle.bits.proofs.Prefixes.{prefix_length, prefix_zeros, prefix_addresses, opening_length, opening_clear, opening_takes}
use Rattle.bits.proofs.Primitives.{take_high}

-- halves of an address
pub lifted_fit : (w x : ℕ) → w ≤ 64 → Fit (lifted w x)
lifted_fit w x l =
    let e : w + (64 - w) ≡ 64 = omega arith in
    (let b : x % 2 ^ w * 2 ^ (64 - w) < 2 ^ (w + (64 - w)) = shl_lt w (64 - w) (rest_bound w x) in rw e at b, pow_pos 64)

pub lifted_word : (w x : ℕ) → w ≤ 64 → word (lifted w x) ≡ low_bits w x ++ replicate (128 - w) false
lifted_word w x l =
    let e : 64 - w + 64 ≡ 128 - w = omega arith in
    word_is (lifted w x) ∙ ap (λ (s : Bits). s ++ low_bits 64 0) (low_shifted w 64 (x % 2 ^ w) l ∙ ap (λ (s : Bits). s ++ replicate (64 - w) false) (low_mod w x))
    ∙ append_assoc (low_bits w x) (replicate (64 - w) false) (low_bits 64 0)
    ∙ ap (λ (s : Bits). low_bits w x ++ (replicate (64 - w) false ++ s)) (low_zero 64)
    ∙ ap (λ (s : Bits). low_bits w x ++ s) (replicate-append-replicate (64 - w) 64 false ∙ ap (λ m. replicate m false) e)

pub lifted_aligned : (w x : ℕ) → w ≤ 64 → Aligned w (lifted w x)
lifted_aligned w x l = word_aligned w (lifted w x) (low_bits w x) (low_length w x) (lifted_word w x l)

pub lifted_front : (w x : ℕ) → w ≤ 64 → front w (lifted w x) ≡ low_bits w x
lifted_front w x l = front_is w (lifted w x) ∙ ap (take w) (lifted_word w x l) ∙ take_at (low_bits w x) _ w (low_length w x)

-- the same of halves that are those of an address
pub halves_aligned : (w : ℕ) (h : Halves) (x : ℕ) → w ≤ 64 → h ≡ lifted w x → Aligned w h
halves_aligned w h x l e = subst (λ (k : Halves). Aligned w k) (sym e) (lifted_aligned w x l)

pub halves_front : (w : ℕ) (h : Halves) (x : ℕ) → w ≤ 64 → h ≡ lifted w x → front w h ≡ low_bits w x
halves_front w h x l e = ap (front w) e ∙ lifted_front w x l

-- and back
pub lowered_bound : (w : ℕ) (h : Halves) → lowered w h < 2 ^ w
lowered_bound w h = rest_bound w (h.hi / 2 ^ (64 - w))

pub lowered_lifted : (w x : ℕ) → lowered w (lifted w x) ≡ x % 2 ^ w
lowered_lifted w x = ap (λ n. n % 2 ^ w) (shl-shr (x % 2 ^ w) (64 - w)) ∙ mod-eq_of_lt (rest_bound w x)

pub lowered_back : (w x : ℕ) → x < 2 ^ w → lowered w (lifted w x) ≡ x
lowered_back w x h = lowered_lifted w x ∙ mod-eq_of_lt h

pub lifted_lowered : (w : ℕ) (h : Halves) → w ≤ 64 → Fit h → Aligned w h → lifted w (lowered w h) ≡ h
lifted_lowered w h l f a =
    front_injective w (lifted w (lowered w h)) h (lifted_fit w (lowered w h) l) f (lifted_aligned w (lowered w h) l) a
    (lifted_front w (lowered w h) l ∙ low_mod w (h.hi / 2 ^ (64 - w)) ∙ sym (take_high w h l) ∙ sym (front_is w h))

-- the number of the bits at the top, where they are no more than the number has
pub lowered_is : (w : ℕ) (h : Halves) → w ≤ 64 → h.hi < 2 ^ 64 → lowered w h ≡ h.hi / 2 ^ (64 - w)
lowered_is w h l f =
    let e : w + (64 - w) ≡ 64 = omega arith in
    mod-eq_of_lt (shr_lt w (64 - w) (let b : h.hi < 2 ^ (w + (64 - w)) = rw e f in b))

-- a prefix of n bits at the address x
pub narrow_length : (w x n : ℕ) → n ≤ w → length (take n (low_bits w x)) ≡ n
narrow_length w x n h = let e : length (low_bits w x) ≡ w = low_length w x in prefix_length n (low_bits w x) (omega arith)

pub narrow_zeros : (w x n : ℕ) → n ≤ w → clear (drop n (low_bits w x)) ≡ true
    → low_bits w x ≡ take n (low_bits w x) ++ replicate (w - length (take n (low_bits w x))) false
narrow_zeros w x n h c =
    let e : length (low_bits w x) ≡ w = low_length w x in
    prefix_zeros n (low_bits w x) (omega arith) c
    ∙ ap (λ m. take n (low_bits w x) ++ replicate (m - length (take n (low_bits w x))) false) e

pub narrow_lengths : (w x y n m : ℕ) → n ≤ w → m ≤ w → take n (low_bits w x) ≡ take m (low_bits w y) → n ≡ m
narrow_lengths w x y n m h k e = sym (narrow_length w x n h) ∙ ap length e ∙ narrow_length w y m k

pub narrow_addresses : (w x y n m : ℕ) → x < 2 ^ w → y < 2 ^ w → n ≤ w → m ≤ w → clear (drop n (low_bits w x)) ≡ true → clear (drop m (low_bits w y)) ≡ true
    → take n (low_bits w x) ≡ take m (low_bits w y) → x ≡ y
narrow_addresses w x y n m hx hy h k c d e =
    let lx : length (low_bits w x) ≡ w = low_length w x in
    let ly : length (low_bits w y) ≡ w = low_length w y in
    low_injective w x y hx hy (prefix_addresses n m (low_bits w x) (low_bits w y) (omega arith) (omega arith) (lx ∙ sym ly) c d e)

-- the prefix that is made of a bit string
opening_bits : (w : ℕ) (q : Bits) → low_bits w (number (opening w q)) ≡ opening w q
opening_bits w q = ap (λ n. low_bits n (number (opening w q))) (sym (opening_length w q)) ∙ number_low (opening w q)

pub opening_bound : (w : ℕ) (q : Bits) → number (opening w q) < 2 ^ w
opening_bound w q = let e : 2 ^ length (opening w q) ≡ 2 ^ w = ap (λ n. 2 ^ n) (opening_length w q) in let b : number (opening w q) < 2 ^ length (opening w q) = number_bound (opening w q) in omega arith

pub narrow_clear : (w : ℕ) (q : Bits) → clear (drop (length (take w q)) (low_bits w (number (opening w q)))) ≡ true
narrow_clear w q = ap (λ (s : Bits). clear (drop (length (take w q)) s)) (opening_bits w q) ∙ opening_clear w q

pub narrow_made : (w : ℕ) (q : Bits) → length q ≤ w → take (length (take w q)) (low_bits w (number (opening w q))) ≡ q
narrow_made w q h = ap (take (length (take w q))) (opening_bits w q) ∙ opening_takes w q h
