-- A prefix as the first n bits of an address with nothing set beyond them.
use Rattle.std.proofs.Common.{◌≡◌, ℕ, ◌-◌, ◌≤◌, min, true, false, ◌++◌, length, take, drop, replicate, sym, refl, ap, ◌∙◌, arith}
use Rattle.std.proofs.lemmas.List.{take_at, drop_at, take_all, take-append-drop, length-take, length-take-le, length-drop}
use Rattle.bits.specs.Bits.{Bits}
use Rattle.bits.specs.Halves.{clear}
use Rattle.bits.specs.Narrow.{opening}
use Rattle.bits.proofs.Addresses.{padded_length}
use Rattle.bits.proofs.Strings.{clear_is, clear_zeros}

pub prefix_length : (n : ℕ) (a : Bits) → n ≤ length a → length (take n a) ≡ n
prefix_length n a h = length-take-le n a h

-- the address is the prefix with zeros after
pub prefix_zeros : (n : ℕ) (a : Bits) → n ≤ length a → clear (drop n a) ≡ true → a ≡ take n a ++ replicate (length a - length (take n a)) false
prefix_zeros n a h e =
    sym (take-append-drop n a)
    ∙ ap (λ (s : Bits). take n a ++ s) (clear_is (drop n a) e ∙ ap (λ m. replicate m false) (length-drop n a ∙ ap (λ m. length a - m) (sym (length-take-le n a h))))

-- two addresses and lengths with the same prefix are the same
pub prefix_lengths : (n m : ℕ) (a b : Bits) → n ≤ length a → m ≤ length b → take n a ≡ take m b → n ≡ m
prefix_lengths n m a b h k e = sym (length-take-le n a h) ∙ ap length e ∙ length-take-le m b k

pub prefix_addresses : (n m : ℕ) (a b : Bits) → n ≤ length a → m ≤ length b → length a ≡ length b → clear (drop n a) ≡ true → clear (drop m b) ≡ true → take n a ≡ take m b → a ≡ b
prefix_addresses n m a b h k l c d e =
    prefix_zeros n a h c ∙ ap (λ (s : Bits). s ++ replicate (length a - length s) false) e
    ∙ ap (λ i. take m b ++ replicate (i - length (take m b)) false) l ∙ sym (prefix_zeros m b k d)

-- what `opening` gives for a prefix of at most w bits
pub opening_short : (w : ℕ) (q : Bits) → length (take w q) ≤ w
opening_short w q = let e : length (take w q) ≡ min w (length q) = length-take w q in omega arith

pub opening_length : (w : ℕ) (q : Bits) → length (opening w q) ≡ w
opening_length w q = padded_length w (take w q) (opening_short w q)

pub opening_clear : (w : ℕ) (q : Bits) → clear (drop (length (take w q)) (opening w q)) ≡ true
opening_clear w q = ap clear (drop_at (take w q) _ (length (take w q)) refl) ∙ clear_zeros (w - length (take w q))

pub opening_takes : (w : ℕ) (q : Bits) → length q ≤ w → take (length (take w q)) (opening w q) ≡ q
opening_takes w q h = take_at (take w q) _ (length (take w q)) refl ∙ take_all w q h
