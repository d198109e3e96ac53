-- Tests of the code on lengths and hops. Assumes nothing.
use Rattle.std.proofs.Common.{◌≡◌, ℕ, Bool, true, false, ◌&&◌, eqb, is_some, Some, None, Option, sym, refl, ◌∙◌}
use Rattle.std.proofs.lemmas.Bool.{and_parts, and_from, eqb-true, eq-eqb, true≢false}

module _ (t : Bool) (c n k : ℕ) (is : t ≡ (eqb c n && eqb c k)) where
  pub both_equal : t ≡ true → (c ≡ n) × (c ≡ k)
  both_equal e = let r = and_parts _ _ (sym is ∙ e) in (eqb-true c n r.0, eqb-true c k r.1)

  pub unequal : t ≡ false → (c ≡ n) × (c ≡ k) → ⊥
  unequal e z = true≢false (sym (and_from _ _ (eq-eqb c n z.0) (eq-eqb c k z.1)) ∙ sym is ∙ e)

pub none_seen : {X : Type 0} (o : Option X) → is_some o ≡ false → o ≡ None
none_seen None e = refl
none_seen (Some x) e = absurd (true≢false e)
