-- Where two prefixes part. Assumes nothing.
use Rattle.std.proofs.Common.{◌≡◌, true, false, ◌⊎◌, [], ◌∷◌, sym, refl, ap, ◌∙◌, inl, inr}
use Rattle.std.proofs.lemmas.Bool.{false≢true}
use Rattle.bits.specs.Bits.{Bits, before, order, common}
use Rattle.model.specs.Room.{Beneath}
use Rattle.bits.proofs.Orders.{before≢same, before≢after, flip_before, order_self}

-- two prefixes in order part at the first, or at one to whose two sides they lie
pub parts : (p q : Bits) → order p q ≡ before → (common p q ≡ p) ⊎ (Beneath (common p q) false p × Beneath (common p q) true q)
parts [] [] e = absurd (before≢same (sym e))
parts [] (y ∷ q) e = inl refl
parts (x ∷ p) [] e = absurd (before≢after (sym e))
parts (false ∷ p) (false ∷ q) e = elim (parts p q e) [ inl f ↦ inl (ap (λ r. false ∷ r) f) | inr f ↦ inr f ]
parts (false ∷ p) (true ∷ q) e = inr (refl, refl)
parts (true ∷ p) (false ∷ q) e = absurd (before≢after (sym e))
parts (true ∷ p) (true ∷ q) e = elim (parts p q e) [ inl f ↦ inl (ap (λ r. true ∷ r) f) | inr f ↦ inr f ]

pub parts_at : (p t u : Bits) → Beneath p false t → Beneath p true u → common t u ≡ p
parts_at [] [] u a b = absurd (false≢true a)
parts_at [] (true ∷ t) u a b = absurd (false≢true a)
parts_at [] (false ∷ t) [] a b = refl
parts_at [] (false ∷ t) (true ∷ u) a b = refl
parts_at [] (false ∷ t) (false ∷ u) a b = absurd (false≢true b)
parts_at (x ∷ p) [] u a b = absurd (false≢true a)
parts_at (x ∷ p) (y ∷ t) [] a b = absurd (false≢true b)
parts_at (false ∷ p) (false ∷ t) (false ∷ u) a b = ap (λ r. false ∷ r) (parts_at p t u a b)
parts_at (false ∷ p) (false ∷ t) (true ∷ u) a b = absurd (false≢true b)
parts_at (false ∷ p) (true ∷ t) (z ∷ u) a b = absurd (false≢true a)
parts_at (true ∷ p) (false ∷ t) (z ∷ u) a b = absurd (false≢true a)
parts_at (true ∷ p) (true ∷ t) (false ∷ u) a b = absurd (false≢true b)
parts_at (true ∷ p) (true ∷ t) (true ∷ u) a b = ap (λ r. true ∷ r) (parts_at p t u a b)

pub sides_order : (p t u : Bits) → Beneath p false t → Beneath p true u → order t u ≡ before
sides_order [] [] u a b = absurd (false≢true a)
sides_order [] (true ∷ t) u a b = absurd (false≢true a)
sides_order [] (false ∷ t) [] a b = absurd (false≢true b)
sides_order [] (false ∷ t) (true ∷ u) a b = refl
sides_order [] (false ∷ t) (false ∷ u) a b = absurd (false≢true b)
sides_order (x ∷ p) [] u a b = absurd (false≢true a)
sides_order (x ∷ p) (y ∷ t) [] a b = absurd (false≢true b)
sides_order (false ∷ p) (false ∷ t) (false ∷ u) a b = sides_order p t u a b
sides_order (false ∷ p) (false ∷ t) (true ∷ u) a b = refl
sides_order (false ∷ p) (true ∷ t) (z ∷ u) a b = absurd (false≢true a)
sides_order (true ∷ p) (false ∷ t) (z ∷ u) a b = absurd (false≢true a)
sides_order (true ∷ p) (true ∷ t) (false ∷ u) a b = absurd (false≢true b)
sides_order (true ∷ p) (true ∷ t) (true ∷ u) a b = sides_order p t u a b

-- what stands between the two sides of p lies to one of them
pub between : (p t s u : Bits) → Beneath p false t → Beneath p true u → order t s ≡ before → order s u ≡ before → Beneath p false s ⊎ Beneath p true s
between [] [] s u a b e f = absurd (false≢true a)
between [] (x ∷ t) [] u a b e f = absurd (before≢after (sym e))
between [] (x ∷ t) (false ∷ s) u a b e f = inl refl
between [] (x ∷ t) (true ∷ s) u a b e f = inr refl
between (x ∷ p) [] s u a b e f = absurd (false≢true a)
between (x ∷ p) (y ∷ t) [] u a b e f = absurd (before≢after (sym e))
between (x ∷ p) (y ∷ t) (z ∷ s) [] a b e f = absurd (false≢true b)
between (false ∷ p) (false ∷ t) (false ∷ s) (false ∷ u) a b e f = between p t s u a b e f
between (false ∷ p) (false ∷ t) (false ∷ s) (true ∷ u) a b e f = absurd (false≢true b)
between (false ∷ p) (false ∷ t) (true ∷ s) (false ∷ u) a b e f = absurd (before≢after (sym f))
between (false ∷ p) (false ∷ t) (true ∷ s) (true ∷ u) a b e f = absurd (false≢true b)
between (false ∷ p) (true ∷ t) (z ∷ s) (w ∷ u) a b e f = absurd (false≢true a)
between (true ∷ p) (false ∷ t) (z ∷ s) (w ∷ u) a b e f = absurd (false≢true a)
between (true ∷ p) (true ∷ t) (false ∷ s) (w ∷ u) a b e f = absurd (before≢after (sym e))
between (true ∷ p) (true ∷ t) (true ∷ s) (false ∷ u) a b e f = absurd (false≢true b)
between (true ∷ p) (true ∷ t) (true ∷ s) (true ∷ u) a b e f = between p t s u a b e f

pub not_both : (p q : Bits) → order p q ≡ before → order q p ≡ before → ⊥
not_both p q e f = before≢after (sym f ∙ flip_before p q e)

pub one_side : (p q : Bits) → Beneath p false q → Beneath p true q → ⊥
one_side p q a b = before≢same (sym (sides_order p q q a b) ∙ order_self q)
