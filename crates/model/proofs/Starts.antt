-- The address at which a prefix starts, in halves: the prefix's bits, with zeros after. Assumes nothing.
use Rattle.std.proofs.Common.{◌≡◌, ℕ, ◌+◌, ◌-◌, ◌≤◌, false, ◌++◌, length, take, replicate, sym, refl, ap, ◌∙◌, arith}
use Rattle.std.proofs.lemmas.List.{take_at, append_assoc, replicate-append-replicate}
use Rattle.bits.specs.Bits.{Bits}
use Rattle.bits.specs.Halves.{front, Aligned}
use Rattle.bits.specs.declared.halves.Halves.{Halves}
use Rattle.bits.proofs.Fronts.{front_front, aligned_word, word_aligned}

pub start_front : (w : ℕ) (h : Halves) (p : Bits) → length p ≤ w → front w h ≡ p ++ replicate (w - length p) false → front (length p) h ≡ p
start_front w h p l e = sym (front_front (length p) w h l) ∙ ap (take (length p)) e ∙ take_at p (replicate (w - length p) false) (length p) refl

pub start_aligned : (w : ℕ) (h : Halves) (p : Bits) → length p ≤ w → w ≤ 128 → Aligned w h → front w h ≡ p ++ replicate (w - length p) false → Aligned (length p) h
start_aligned w h p l k a e =
    let s : w - length p + (128 - w) ≡ 128 - length p = omega arith in
    word_aligned (length p) h p refl
    (aligned_word w h a ∙ ap (λ (t : Bits). t ++ replicate (128 - w) false) e ∙ append_assoc p (replicate (w - length p) false) (replicate (128 - w) false)
    ∙ ap (λ (t : Bits). p ++ t) (replicate-append-replicate (w - length p) (128 - w) false) ∙ ap (λ n. p ++ replicate n false) s)
