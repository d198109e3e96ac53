-- The word of two halves: its length, its fronts, and what determines the halves.
use Rattle.std.proofs.Common.{◌≡◌, ℕ, ◌+◌, ◌-◌, ◌^◌, ◌<◌, ◌≤◌, min, true, false, ◌++◌, length, get_or, take, drop, replicate, sym, refl, ap, ◌∙◌, arith}
use Rattle.std.proofs.lemmas.List.{take_at, drop_at, take-append-drop, length-append, length-take-le, take_all, length-drop, take-take, take_min, ext_get_or, drop-append-le, append_assoc, drop-drop, drop-replicate, replicate-append-replicate}
use Rattle.bits.specs.Bits.{Bits, covers}
use Rattle.bits.specs.Halves.{low_bits, word, front, clear, Aligned, Fit}
use Rattle.bits.specs.declared.halves.Halves.{Halves}
use Rattle.bits.proofs.LowBits.{low_length, low_injective}
use Rattle.bits.proofs.Strings.{covers_take, clear_is, clear_zeros, clear_append}

pub word_is : (h : Halves) → word h ≡ low_bits 64 h.hi ++ low_bits 64 h.lo
unfolding word
word_is h = refl

pub front_is : (n : ℕ) (h : Halves) → front n h ≡ take n (word h)
unfolding front
front_is n h = refl

pub word_length : (h : Halves) → length (word h) ≡ 128
unfolding word
word_length h =
    length-append (low_bits 64 h.hi) (low_bits 64 h.lo) ∙ ap (λ n. n + length (low_bits 64 h.lo)) (low_length 64 h.hi)
    ∙ ap (λ n. 64 + n) (low_length 64 h.lo)

pub front_length : (n : ℕ) (h : Halves) → n ≤ 128 → length (front n h) ≡ n
unfolding front
front_length n h l = let e : length (word h) ≡ 128 = word_length h in length-take-le n (word h) (omega arith)

-- all 128 bits
pub front_whole : (h : Halves) → front 128 h ≡ word h
unfolding front
front_whole h = take_all 128 (word h) (let e : length (word h) ≡ 128 = word_length h in omega arith)

pub front_front : (n w : ℕ) (h : Halves) → n ≤ w → take n (front w h) ≡ front n h
unfolding front
front_front n w h l = take-take n w (word h) l

-- two words are equal where each bit is
pub word_extensional : (a b : Halves) → ((i : ℕ) → i < 128 → get_or (word a) i false ≡ get_or (word b) i false) → word a ≡ word b
word_extensional a b f =
    ext_get_or false (word a) (word b) (word_length a ∙ sym (word_length b)) (λ i h. f i (let e : length (word a) ≡ 128 = word_length a in omega arith))

pub high_is : (h : Halves) → take 64 (word h) ≡ low_bits 64 h.hi
unfolding word
high_is h = take_at (low_bits 64 h.hi) (low_bits 64 h.lo) 64 (low_length 64 h.hi)

pub low_is : (h : Halves) → drop 64 (word h) ≡ low_bits 64 h.lo
unfolding word
low_is h = drop_at (low_bits 64 h.hi) (low_bits 64 h.lo) 64 (low_length 64 h.hi)

pub word_high : (a b : Halves) → a.hi < 2 ^ 64 → b.hi < 2 ^ 64 → word a ≡ word b → a.hi ≡ b.hi
word_high a b f g e = low_injective 64 _ _ f g (sym (high_is a) ∙ ap (take 64) e ∙ high_is b)

pub word_low : (a b : Halves) → a.lo < 2 ^ 64 → b.lo < 2 ^ 64 → word a ≡ word b → a.lo ≡ b.lo
word_low a b f g e = low_injective 64 _ _ f g (sym (low_is a) ∙ ap (drop 64) e ∙ low_is b)

pub halves_equal : (a b : Halves) → a.hi ≡ b.hi → a.lo ≡ b.lo → a ≡ b
halves_equal a b p q = λ i. record { hi = p i; lo = q i }

-- the word determines its halves
pub word_injective : (a b : Halves) → Fit a → Fit b → word a ≡ word b → a ≡ b
word_injective a b f g e = halves_equal a b (word_high a b f.0 g.0 e) (word_low a b f.1 g.1 e)

-- an aligned word is its front with zeros after
pub aligned_word : (w : ℕ) (h : Halves) → Aligned w h → word h ≡ front w h ++ replicate (128 - w) false
unfolding front
aligned_word w h a = sym (take-append-drop w (word h)) ∙ ap (λ (s : Bits). take w (word h) ++ s) a

pub word_aligned : (w : ℕ) (h : Halves) (p : Bits) → length p ≡ w → word h ≡ p ++ replicate (128 - w) false → Aligned w h
word_aligned w h p l e = ap (drop w) e ∙ drop_at p _ w l

-- so an aligned front determines the halves
pub front_injective : (w : ℕ) (a b : Halves) → Fit a → Fit b → Aligned w a → Aligned w b → front w a ≡ front w b → a ≡ b
front_injective w a b f g p q e =
    word_injective a b f g (aligned_word w a p ∙ ap (λ (s : Bits). s ++ replicate (128 - w) false) e ∙ sym (aligned_word w b q))

-- what lies beyond a prefix's length does not matter to what it covers
pub covers_front : (n w : ℕ) (p : Halves) (a : Bits) → n ≤ w → n ≤ 128 → covers (front n p) (take w a) ≡ covers (front n p) a
covers_front n w p a l k = covers_take (front n p) a w (let e : length (front n p) ≡ n = front_length n p k in omega arith)

-- in an aligned word nothing is set beyond n where nothing is beyond n in its front
pub clear_front : (n w : ℕ) (h : Halves) → n ≤ w → w ≤ 128 → Aligned w h → clear (drop n (word h)) ≡ clear (drop n (front w h))
clear_front n w h l k a =
    let e : length (front w h) ≡ w = front_length w h k in
    ap (λ (s : Bits). clear (drop n s)) (aligned_word w h a)
    ∙ ap clear (drop-append-le n (front w h) (replicate (128 - w) false) (omega arith))
    ∙ clear_append (drop n (front w h)) (128 - w)

pub clear_aligned : (n : ℕ) (h : Halves) → clear (drop n (word h)) ≡ true → Aligned n h
clear_aligned n h e =
    clear_is (drop n (word h)) e
    ∙ ap (λ m. replicate m false) (length-drop n (word h) ∙ ap (λ m. m - n) (word_length h))

pub aligned_clear : (n : ℕ) (h : Halves) → Aligned n h → clear (drop n (word h)) ≡ true
aligned_clear n h e = ap clear e ∙ clear_zeros (128 - n)

-- what `masked` gives: nothing beyond the first n bits, and those unchanged
pub masked_aligned : (n : ℕ) (h r : Halves) → n ≤ 128 → word r ≡ take n (word h) ++ replicate (128 - n) false → Aligned n r
masked_aligned n h r l e = word_aligned n r (take n (word h)) (ap length (sym (front_is n h)) ∙ front_length n h l) e

pub masked_front : (n : ℕ) (h r : Halves) → n ≤ 128 → word r ≡ take n (word h) ++ replicate (128 - n) false → front n r ≡ front n h
masked_front n h r l e =
    front_is n r ∙ ap (take n) e ∙ take_at (take n (word h)) _ n (ap length (sym (front_is n h)) ∙ front_length n h l) ∙ sym (front_is n h)

-- nothing beyond n bits is nothing beyond more
pub aligned_wider : (n w : ℕ) (h : Halves) → n ≤ w → Aligned n h → Aligned w h
aligned_wider n w h l a =
    let e : n + (w - n) ≡ w = omega arith in
    let f : 128 - n - (w - n) ≡ 128 - w = omega arith in
    ap (λ m. drop m (word h)) (sym e) ∙ sym (drop-drop (w - n) n (word h)) ∙ ap (drop (w - n)) a
    ∙ drop-replicate (w - n) (128 - n) false ∙ ap (λ m. replicate m false) f

-- of an address of w bits that is a prefix with zeros after: its front, and that nothing is beyond it
pub start_front : (w : ℕ) (h : Halves) (p : Bits) → length p ≤ w → front w h ≡ p ++ replicate (w - length p) false → front (length p) h ≡ p
start_front w h p l e = sym (front_front (length p) w h l) ∙ ap (take (length p)) e ∙ take_at p _ (length p) refl

pub start_aligned : (w : ℕ) (h : Halves) (p : Bits) → length p ≤ w → w ≤ 128 → Aligned w h → front w h ≡ p ++ replicate (w - length p) false → Aligned (length p) h
start_aligned w h p l k a e =
    let f : w - length p + (128 - w) ≡ 128 - length p = omega arith in
    word_aligned (length p) h p refl
    (aligned_word w h a ∙ ap (λ (s : Bits). s ++ replicate (128 - w) false) e ∙ append_assoc p (replicate (w - length p) false) (replicate (128 - w) false)
    ∙ ap (λ (s : Bits). p ++ s) (replicate-append-replicate (w - length p) (128 - w) false ∙ ap (λ m. replicate m false) f))

-- a prefix covers an address where it covers its halves
pub covers_halves : (p : Bits) (w : ℕ) (a : Halves) → length p ≤ w → covers p (front w a) ≡ covers p (word a)
covers_halves p w a l = ap (covers p) (front_is w a) ∙ covers_take p (word a) w l

-- the same of a prefix by the halves h of its address and its length n
pub prefix_front : (w n : ℕ) (h s : Halves) (p : Bits) → h ≡ s → n ≡ length p → length p ≤ w → front w s ≡ p ++ replicate (w - length p) false → front n h ≡ p
prefix_front w n h s p e f l d = ap (λ m. front m h) f ∙ ap (front (length p)) e ∙ start_front w s p l d

pub covers_address : (w : ℕ) (p a : Bits) (h k : Halves) → h ≡ k → length p ≤ w → a ≡ front w k → covers p (word h) ≡ covers p a
covers_address w p a h k e l f = ap (λ (m : Halves). covers p (word m)) e ∙ sym (covers_halves p w k l) ∙ ap (covers p) (sym f)

-- no front has more than all 128 bits
pub front_min : (n : ℕ) (h : Halves) → front (min n 128) h ≡ front n h
front_min n h = front_is _ h ∙ ap (λ k. take (min n k) (word h)) (sym (word_length h)) ∙ take_min n (word h) ∙ sym (front_is n h)
