-- When `checked` refuses, and what it gives.
use Rattle.std.proofs.Common.{◌≡◌, ℕ, ◌<◌, ◌≤◌, true, false, length, take, drop, Ok, Err, Result, sym, ◌∙◌, subst, inl, inr, arith}
use Rattle.std.proofs.lemmas.Bool.{cond-true, cond-false, lt-ltb, le-ltb, cases_lt, cases_Bool}
use Rattle.bits.specs.Bits.{Bits}
use Rattle.bits.specs.Halves.{front, clear, Aligned}
use Rattle.bits.specs.declared.halves.Halves.{Halves}
use Rattle.bits.proofs.Fronts.{front_length, clear_front}
use Rattle.address.specs.declared.refusal.PrefixRefusal.{PrefixRefusal}
use Rattle.address.specs.declared.refusal.PrefixRefusal.TheVariants.{TooLong, StrayBits}
use Rattle.address.specs.Prefixes.{checked, outcome, Tested}

pub checked_long : (a : Bits) (n : ℕ) → length a < n → checked a n ≡ Err 12
checked_long a n h = cond-true _ _ _ (lt-ltb _ _ h)

pub checked_stray : (a : Bits) (n : ℕ) → n ≤ length a → clear (drop n a) ≡ false → checked a n ≡ Err 13
checked_stray a n h e = cond-false _ _ _ (le-ltb _ _ h) ∙ cond-false _ _ _ e

pub checked_fine : (a : Bits) (n : ℕ) → n ≤ length a → clear (drop n a) ≡ true → checked a n ≡ Ok (take n a)
checked_fine a n h e = cond-false _ _ _ (le-ltb _ _ h) ∙ cond-true _ _ _ e

-- the tests on halves are those on the bits
pub tested_checked : {U : Type 0} (w n : ℕ) (h : Halves) (r : Result U PrefixRefusal) → w ≤ 128 → Aligned w h → Tested w n h r
    → outcome (λ u. take n (front w h)) r ≡ checked (front w h) n
tested_checked w n h (Ok u) l a t =
    let e : length (front w h) ≡ w = front_length w h l in
    sym (checked_fine (front w h) n (omega (arith, t.0)) (sym (clear_front n w h t.0 l a) ∙ t.1))
tested_checked w n h (Err TooLong) l a t = let e : length (front w h) ≡ w = front_length w h l in sym (checked_long (front w h) n (omega arith))
tested_checked w n h (Err StrayBits) l a t =
    let e : length (front w h) ≡ w = front_length w h l in
    sym (checked_stray (front w h) n (omega (arith, t.0)) (sym (clear_front n w h t.0 l a) ∙ t.1))

-- an address and a length that are a prefix
pub checked_ok : (a : Bits) (n : ℕ) (p : Bits) → Ok p ≡ checked a n → (n ≤ length a) × (clear (drop n a) ≡ true)
checked_ok a n p e = elim (cases_lt (length a) n) [ inl h ↦ absurd (apart 12 (e ∙ checked_long a n h)) | inr h ↦ elim (cases_Bool (clear (drop n a))) [ inl f ↦ (h, f) | inr f ↦ absurd (apart 13 (e ∙ checked_stray a n h f)) ] ]
  where
    apart : (m : ℕ) → ◌≡◌ {A = Result Bits ℕ} (Ok p) (Err m) → ⊥
    apart m e = let z : ◌≡◌ {A = ℕ} 0 1 = cc in omega arith

-- the same of another name of the address
pub checked_ok_at : (a b : Bits) (n : ℕ) → a ≡ b → Ok (take n a) ≡ checked a n → Ok (take n b) ≡ checked b n
checked_ok_at a b n e = subst (λ (s : Bits). Ok (take n s) ≡ checked s n) e

pub checked_err_at : (a b : Bits) (n m : ℕ) → a ≡ b → Err m ≡ checked a n → Err m ≡ checked b n
checked_err_at a b n m e = subst (λ (s : Bits). Err m ≡ checked s n) e
