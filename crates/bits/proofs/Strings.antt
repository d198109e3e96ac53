-- Bit strings: what a prefix covers, what two have in common, and how their fronts are ordered.
use Rattle.std.proofs.Common.{◌≡◌, ℕ, zero, suc, ◌+◌, ◌<◌, ◌≤◌, Bool, true, false, cond, ◌≢◌, ◌⊎◌, [], ◌∷◌, ◌++◌, length, get_or, take, drop, replicate, sym, refl, ap, ◌∙◌, inl, inr, suc-add, zero-add, arith}
use Rattle.std.proofs.lemmas.List.{take-append-drop}
use Rattle.std.proofs.lemmas.Bool.{cases_Bool, both_ways}
use Rattle.bits.specs.Bits.{Bits, before, same, after, order, covers, common}
use Rattle.bits.specs.Halves.{clear}
use Rattle.bits.proofs.Orders.{order_self, flip_before}

pub covers_append : (p r : Bits) → covers p (p ++ r) ≡ true
covers_append [] r = refl
covers_append (false ∷ p) r = covers_append p r
covers_append (true ∷ p) r = covers_append p r

pub covers_starts : (p q : Bits) → covers p q ≡ true → (length p ≤ length q) × (p ≡ take (length p) q)
covers_starts [] q e = (omega arith, refl)
covers_starts (x ∷ p) [] e = absurd (both_ways _ refl e)
covers_starts (false ∷ p) (false ∷ q) e = let r = covers_starts p q e in (omega (arith, r.0), ap (λ (s : Bits). false ∷ s) r.1)
covers_starts (false ∷ p) (true ∷ q) e = absurd (both_ways _ refl e)
covers_starts (true ∷ p) (false ∷ q) e = absurd (both_ways _ refl e)
covers_starts (true ∷ p) (true ∷ q) e = let r = covers_starts p q e in (omega (arith, r.0), ap (λ (s : Bits). true ∷ s) r.1)

pub starts_covers : (p q : Bits) → p ≡ take (length p) q → covers p q ≡ true
starts_covers p q e =
    ap (λ (s : Bits). covers p s) (sym (take-append-drop (length p) q) ∙ ap (λ (s : Bits). s ++ drop (length p) q) (sym e))
    ∙ covers_append p (drop (length p) q)

-- a test that says whether a string starts with a prefix is the prefix's covering
pub covers_test : (t : Bool) (p q : Bits) → (t ≡ true → p ≡ take (length p) q) → (p ≡ take (length p) q → t ≡ true) → t ≡ covers p q
covers_test t p q f g = elim (cases_Bool t) [ inl e ↦ e ∙ sym (starts_covers p q (f e)) | inr e ↦ e ∙ sym (miss e (cases_Bool (covers p q))) ]
  where
    miss : t ≡ false → (covers p q ≡ true) ⊎ (covers p q ≡ false) → covers p q ≡ false
    miss e (inl h) = absurd (both_ways t e (g (covers_starts p q h).1))
    miss e (inr h) = h

-- what lies beyond a prefix's length does not matter
pub covers_take : (p a : Bits) (w : ℕ) → length p ≤ w → covers p (take w a) ≡ covers p a
covers_take [] a w h = refl
covers_take (x ∷ p) [] w h = go w
  where
    go : (w : ℕ) → covers (x ∷ p) (take w []) ≡ false
    go zero = refl
    go (suc w) = refl
covers_take (x ∷ p) (y ∷ a) zero h = absurd (omega arith)
covers_take (false ∷ p) (false ∷ a) (suc w) h = covers_take p a w (omega arith)
covers_take (false ∷ p) (true ∷ a) (suc w) h = refl
covers_take (true ∷ p) (false ∷ a) (suc w) h = refl
covers_take (true ∷ p) (true ∷ a) (suc w) h = covers_take p a w (omega arith)

pub common_left : (p q : Bits) → covers (common p q) p ≡ true
common_left [] q = refl
common_left (x ∷ p) [] = refl
common_left (false ∷ p) (false ∷ q) = common_left p q
common_left (false ∷ p) (true ∷ q) = refl
common_left (true ∷ p) (false ∷ q) = refl
common_left (true ∷ p) (true ∷ q) = common_left p q

pub common_swap : (p q : Bits) → common p q ≡ common q p
common_swap [] [] = refl
common_swap [] (y ∷ q) = refl
common_swap (x ∷ p) [] = refl
common_swap (false ∷ p) (false ∷ q) = ap (λ (s : Bits). false ∷ s) (common_swap p q)
common_swap (false ∷ p) (true ∷ q) = refl
common_swap (true ∷ p) (false ∷ q) = refl
common_swap (true ∷ p) (true ∷ q) = ap (λ (s : Bits). true ∷ s) (common_swap p q)

pub common_right : (p q : Bits) → covers (common p q) q ≡ true
common_right p q = ap (λ (s : Bits). covers s q) (common_swap p q) ∙ common_left q p

pub common_longest : (r p q : Bits) → covers r p ≡ true → covers r q ≡ true → covers r (common p q) ≡ true
common_longest [] p q e f = refl
common_longest (x ∷ r) [] q e f = absurd (both_ways _ refl e)
common_longest (x ∷ r) (y ∷ p) [] e f = absurd (both_ways _ refl f)
common_longest (false ∷ r) (true ∷ p) (z ∷ q) e f = absurd (both_ways _ refl e)
common_longest (true ∷ r) (false ∷ p) (z ∷ q) e f = absurd (both_ways _ refl e)
common_longest (false ∷ r) (false ∷ p) (true ∷ q) e f = absurd (both_ways _ refl f)
common_longest (true ∷ r) (true ∷ p) (false ∷ q) e f = absurd (both_ways _ refl f)
common_longest (false ∷ r) (false ∷ p) (false ∷ q) e f = common_longest r p q e f
common_longest (true ∷ r) (true ∷ p) (true ∷ q) e f = common_longest r p q e f

pub common_self : (p : Bits) → common p p ≡ p
common_self [] = refl
common_self (false ∷ p) = ap (λ (s : Bits). false ∷ s) (common_self p)
common_self (true ∷ p) = ap (λ (s : Bits). true ∷ s) (common_self p)

pub common_after : (s u v : Bits) → length (common (s ++ u) (s ++ v)) ≡ length s + length (common u v)
common_after [] u v = sym (zero-add _)
common_after (false ∷ s) u v = ap suc (common_after s u v) ∙ sym (suc-add _ _)
common_after (true ∷ s) u v = ap suc (common_after s u v) ∙ sym (suc-add _ _)

pub common_apart : (b d : Bool) (u v : Bits) → b ≢ d → common (b ∷ u) (d ∷ v) ≡ []
common_apart false false u v h = absurd (h refl)
common_apart false true u v h = refl
common_apart true false u v h = refl
common_apart true true u v h = absurd (h refl)

pub common_bound : (u v : Bits) → length (common u v) ≤ length u
common_bound u v = (covers_starts (common u v) u (common_left u v)).0

-- as far as the two agree, their fronts are the same
pub common_fronts : (u v : Bits) (n : ℕ) → n ≤ length (common u v) → take n u ≡ take n v
common_fronts u v zero h = refl
common_fronts [] v (suc n) h = absurd (omega arith)
common_fronts (x ∷ u) [] (suc n) h = absurd (omega arith)
common_fronts (false ∷ u) (false ∷ v) (suc n) h = ap (λ (s : Bits). false ∷ s) (common_fronts u v n (omega arith))
common_fronts (false ∷ u) (true ∷ v) (suc n) h = absurd (omega arith)
common_fronts (true ∷ u) (false ∷ v) (suc n) h = absurd (omega arith)
common_fronts (true ∷ u) (true ∷ v) (suc n) h = ap (λ (s : Bits). true ∷ s) (common_fronts u v n (omega arith))

-- the shorter of two fronts that agree comes first
pub order_shorter : (u v : Bits) (n m : ℕ) → n ≤ length (common u v) → n < m → m ≤ length v → order (take n u) (take m v) ≡ before
order_shorter u v n zero h l k = absurd (omega arith)
order_shorter u [] n (suc m) h l k = absurd (omega arith)
order_shorter u (y ∷ v) zero (suc m) h l k = refl
order_shorter [] (y ∷ v) (suc n) (suc m) h l k = absurd (omega arith)
order_shorter (false ∷ u) (false ∷ v) (suc n) (suc m) h l k = order_shorter u v n m (omega arith) (omega arith) (omega arith)
order_shorter (false ∷ u) (true ∷ v) (suc n) (suc m) h l k = absurd (omega arith)
order_shorter (true ∷ u) (false ∷ v) (suc n) (suc m) h l k = absurd (omega arith)
order_shorter (true ∷ u) (true ∷ v) (suc n) (suc m) h l k = order_shorter u v n m (omega arith) (omega arith) (omega arith)

pub order_longer : (u v : Bits) (n m : ℕ) → m ≤ length (common u v) → m < n → n ≤ length u → order (take n u) (take m v) ≡ after
order_longer u v n m h l k =
    let e : length (common u v) ≡ length (common v u) = ap length (common_swap u v) in
    flip_before (take m v) (take n u) (order_shorter v u m n (omega arith) l k)

pub order_alike : (u v : Bits) (n : ℕ) → n ≤ length (common u v) → order (take n u) (take n v) ≡ same
order_alike u v n h = ap (λ (s : Bits). order (take n u) s) (sym (common_fronts u v n h)) ∙ order_self (take n u)

-- where two fronts part, the first bit that differs decides
pub order_parted : (u v : Bits) (n m : ℕ) → length (common u v) < n → length (common u v) < m → n ≤ length u → m ≤ length v
    → order (take n u) (take m v) ≡ cond (get_or u (length (common u v)) false) after before
order_parted u v zero m h l j k = absurd (omega arith)
order_parted u v (suc n) zero h l j k = absurd (omega arith)
order_parted [] v (suc n) (suc m) h l j k = absurd (omega arith)
order_parted (x ∷ u) [] (suc n) (suc m) h l j k = absurd (omega arith)
order_parted (false ∷ u) (false ∷ v) (suc n) (suc m) h l j k = order_parted u v n m (omega arith) (omega arith) (omega arith) (omega arith)
order_parted (false ∷ u) (true ∷ v) (suc n) (suc m) h l j k = refl
order_parted (true ∷ u) (false ∷ v) (suc n) (suc m) h l j k = refl
order_parted (true ∷ u) (true ∷ v) (suc n) (suc m) h l j k = order_parted u v n m (omega arith) (omega arith) (omega arith) (omega arith)

-- a string with no bit set
pub clear_is : (p : Bits) → clear p ≡ true → p ≡ replicate (length p) false
clear_is [] e = refl
clear_is (false ∷ p) e = ap (λ (s : Bits). false ∷ s) (clear_is p e)
clear_is (true ∷ p) e = absurd (both_ways _ refl e)

pub clear_zeros : (n : ℕ) → clear (replicate n false) ≡ true
clear_zeros zero = refl
clear_zeros (suc n) = clear_zeros n

pub clear_append : (p : Bits) (n : ℕ) → clear (p ++ replicate n false) ≡ clear p
clear_append [] n = clear_zeros n
clear_append (false ∷ p) n = clear_append p n
clear_append (true ∷ p) n = refl
