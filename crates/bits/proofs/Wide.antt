-- The laws of a kind whose addresses are two numbers of 64 bits.
use Rattle.std.proofs.Common.{◌≡◌, ℕ, ◌-◌, ◌%◌, ◌^◌, ◌<◌, ◌≤◌, true, false, ◌++◌, length, take, drop, replicate, sym, ap, ◌∙◌, arith}
use Rattle.std.proofs.lemmas.List.{drop_all, take-append-drop, length-take-le, length-drop}
use Rattle.bits.specs.Bits.{Bits}
use Rattle.bits.specs.Halves.{low_bits, word, front, clear, Aligned, Fit}
use Rattle.bits.specs.Laws.{number}
use Rattle.bits.specs.Narrow.{opening}
use Rattle.bits.specs.Wide.{paired, opening_high, opening_low}
use Rattle.bits.specs.declared.halves.Halves.{Halves}
use Rattle.bits.proofs.LowBits.{low_mod, number_bound, number_low}
use Rattle.bits.proofs.Fronts.{word_is, word_length, word_injective, front_whole}
use Rattle.bits.proofs.Prefixes.{prefix_length, prefix_zeros, prefix_addresses, opening_length, opening_clear, opening_takes}

pub paired_length : (hi lo : ℕ) → length (paired hi lo) ≡ 128
paired_length hi lo = let h : Halves = record { hi = hi; lo = lo } in ap length (sym (word_is h)) ∙ word_length h

pub paired_front : (h : Halves) → front 128 h ≡ paired h.hi h.lo
paired_front h = front_whole h ∙ word_is h

-- beyond 128 bits nothing is left
pub aligned_whole : (h : Halves) → Aligned 128 h
aligned_whole h = drop_all 128 (word h) (let e : length (word h) ≡ 128 = word_length h in omega arith)

-- of each number only the low 64 bits count
pub paired_rest : (hi lo : ℕ) → paired (hi % 2 ^ 64) (lo % 2 ^ 64) ≡ paired hi lo
paired_rest hi lo =
    ap (λ (s : Bits). s ++ low_bits 64 (lo % 2 ^ 64)) (low_mod 64 hi) ∙ ap (λ (s : Bits). low_bits 64 hi ++ s) (low_mod 64 lo)

-- a prefix of n bits at the address of two numbers
pub wide_length : (hi lo n : ℕ) → n ≤ 128 → length (take n (paired hi lo)) ≡ n
wide_length hi lo n h = let e : length (paired hi lo) ≡ 128 = paired_length hi lo in prefix_length n (paired hi lo) (omega arith)

pub wide_zeros : (hi lo n : ℕ) → n ≤ 128 → clear (drop n (paired hi lo)) ≡ true
    → paired hi lo ≡ take n (paired hi lo) ++ replicate (128 - length (take n (paired hi lo))) false
wide_zeros hi lo n h c =
    let e : length (paired hi lo) ≡ 128 = paired_length hi lo in
    prefix_zeros n (paired hi lo) (omega arith) c
    ∙ ap (λ m. take n (paired hi lo) ++ replicate (m - length (take n (paired hi lo))) false) e

pub wide_lengths : (a b : Halves) (n m : ℕ) → n ≤ 128 → m ≤ 128 → take n (paired a.hi a.lo) ≡ take m (paired b.hi b.lo) → n ≡ m
wide_lengths a b n m h k e = sym (wide_length a.hi a.lo n h) ∙ ap length e ∙ wide_length b.hi b.lo m k

pub wide_addresses : (a b : Halves) (n m : ℕ) → Fit a → Fit b → n ≤ 128 → m ≤ 128
    → clear (drop n (paired a.hi a.lo)) ≡ true → clear (drop m (paired b.hi b.lo)) ≡ true
    → take n (paired a.hi a.lo) ≡ take m (paired b.hi b.lo) → a ≡ b
wide_addresses a b n m f g h k c d e =
    let la : length (paired a.hi a.lo) ≡ 128 = paired_length a.hi a.lo in
    let lb : length (paired b.hi b.lo) ≡ 128 = paired_length b.hi b.lo in
    word_injective a b f g (word_is a ∙ prefix_addresses n m _ (paired b.hi b.lo) (omega arith) (omega arith) (la ∙ sym lb) c d e ∙ sym (word_is b))

-- the prefix that is made of a bit string
high_length : (q : Bits) → length (take 64 (opening 128 q)) ≡ 64
high_length q = let e : length (opening 128 q) ≡ 128 = opening_length 128 q in length-take-le 64 (opening 128 q) (omega arith)

low_half_length : (q : Bits) → length (drop 64 (opening 128 q)) ≡ 64
low_half_length q = length-drop 64 (opening 128 q) ∙ ap (λ n. n - 64) (opening_length 128 q)

bound_of : (p : Bits) → length p ≡ 64 → number p < 2 ^ 64
bound_of p e = let f : 2 ^ length p ≡ 2 ^ 64 = ap (λ n. 2 ^ n) e in let b : number p < 2 ^ length p = number_bound p in omega arith

bits_of : (p : Bits) → length p ≡ 64 → low_bits 64 (number p) ≡ p
bits_of p e = ap (λ n. low_bits n (number p)) (sym e) ∙ number_low p

pub opening_high_bound : (q : Bits) → opening_high q < 2 ^ 64
opening_high_bound q = bound_of (take 64 (opening 128 q)) (high_length q)

pub opening_low_bound : (q : Bits) → opening_low q < 2 ^ 64
opening_low_bound q = bound_of (drop 64 (opening 128 q)) (low_half_length q)

opening_paired : (q : Bits) → paired (opening_high q) (opening_low q) ≡ opening 128 q
opening_paired q =
    ap (λ (s : Bits). s ++ low_bits 64 (opening_low q)) (bits_of (take 64 (opening 128 q)) (high_length q))
    ∙ ap (λ (s : Bits). take 64 (opening 128 q) ++ s) (bits_of (drop 64 (opening 128 q)) (low_half_length q))
    ∙ take-append-drop 64 (opening 128 q)

pub wide_clear : (q : Bits) → clear (drop (length (take 128 q)) (paired (opening_high q) (opening_low q))) ≡ true
wide_clear q = ap (λ (s : Bits). clear (drop (length (take 128 q)) s)) (opening_paired q) ∙ opening_clear 128 q

pub wide_made : (q : Bits) → length q ≤ 128 → take (length (take 128 q)) (paired (opening_high q) (opening_low q)) ≡ q
wide_made q h = ap (take (length (take 128 q))) (opening_paired q) ∙ opening_takes 128 q h
