-- Membership, distinct lists and the pigeonhole. Assumes nothing.
use Rattle.std.proofs.Common.{◌≡◌, suc, ◌≤◌, Bool, true, false, cond, ◌⊎◌, List, [], ◌∷◌, ◌++◌, length, filter, sym, refl, ap, ◌∙◌, subst, inl, inr, arith}
use Rattle.std.specs.List.{AllByRecursion}
use Rattle.model.specs.Room.{In, Distinct}

module _ {X : Type 0} where
  pub in_left : (x : X) (xs ys : List X) → In x xs → In x (xs ++ ys)
  in_left x [] ys i = elim i [ ]
  in_left x (y ∷ xs) ys (inl e) = inl e
  in_left x (y ∷ xs) ys (inr i) = inr (in_left x xs ys i)

  pub in_right : (x : X) (xs ys : List X) → In x ys → In x (xs ++ ys)
  in_right x [] ys i = i
  in_right x (y ∷ xs) ys i = inr (in_right x xs ys i)

  pub in_append : (x : X) (xs ys : List X) → In x (xs ++ ys) → In x xs ⊎ In x ys
  in_append x [] ys i = inr i
  in_append x (y ∷ xs) ys (inl e) = inl (inl e)
  in_append x (y ∷ xs) ys (inr i) = elim (in_append x xs ys i) [ inl j ↦ inl (inr j) | inr j ↦ inr j ]

  pub distinct_append : (xs ys : List X) → Distinct xs → Distinct ys → ((x : X) → In x xs → In x ys → ⊥) → Distinct (xs ++ ys)
  distinct_append [] ys d e f = e
  distinct_append (x ∷ xs) ys d e f = (
    (λ i. elim (in_append x xs ys i) [ inl j ↦ d.0 j | inr j ↦ f x (inl refl) j ]),
    distinct_append xs ys d.1 e (λ y i j. f y (inr i) j),
  )

  -- the list without this one element
  without : (x : X) (ys : List X) → In x ys → List X
  without x [] i = elim i [ ]
  without x (y ∷ ys) (inl e) = ys
  without x (y ∷ ys) (inr i) = y ∷ without x ys i

  without_length : (x : X) (ys : List X) (i : In x ys) → length ys ≡ suc (length (without x ys i))
  unfolding without
  without_length x [] i = elim i [ ]
  without_length x (y ∷ ys) (inl e) = refl
  without_length x (y ∷ ys) (inr i) = ap suc (without_length x ys i)

  without_in : (x : X) (ys : List X) (i : In x ys) (z : X) → (z ≡ x → ⊥) → In z ys → In z (without x ys i)
  unfolding without
  without_in x [] i z n j = elim i [ ]
  without_in x (y ∷ ys) (inl e) z n (inl f) = absurd (n (f ∙ sym e))
  without_in x (y ∷ ys) (inl e) z n (inr j) = j
  without_in x (y ∷ ys) (inr i) z n (inl f) = inl f
  without_in x (y ∷ ys) (inr i) z n (inr j) = inr (without_in x ys i z n j)

  pub all_in : (P : X → Type 0) (xs : List X) → ((x : X) → In x xs → P x) → AllByRecursion P xs
  all_in P [] f = tt
  all_in P (x ∷ xs) f = (f x (inl refl), all_in P xs (λ y i. f y (inr i)))

  pub in_all : (P : X → Type 0) (xs : List X) → AllByRecursion P xs → (x : X) → In x xs → P x
  in_all P [] h x i = elim i [ ]
  in_all P (y ∷ xs) h x (inl e) = subst P (sym e) h.0
  in_all P (y ∷ xs) h x (inr i) = in_all P xs h.1 x i

  -- distinct elements of a list are no more than it has
  pub pigeonhole : (xs ys : List X) → Distinct xs → AllByRecursion (λ x. In x ys) xs → length xs ≤ length ys
  pigeonhole [] ys d h = omega arith
  pigeonhole (x ∷ xs) ys d h =
      let rest : AllByRecursion (λ z. In z (without x ys h.0)) xs =
      all_in (λ z. In z (without x ys h.0)) xs (λ z i. without_in x ys h.0 z (λ e. d.0 (subst (λ w. In w xs) e i)) (in_all (λ z. In z ys) xs h.1 z i)) in
      let ih = pigeonhole xs (without x ys h.0) d.1 rest in
      omega (arith, without_length x ys h.0)

  pub in_kept : (f : X → Bool) (xs : List X) (x : X) → In x (filter f xs) → In x xs × (f x ≡ true)
  in_kept f [] x i = elim i [ ]
  in_kept f (y ∷ xs) x i = go (in_kept f xs x) (f y) refl i
    where
      go : (In x (filter f xs) → In x xs × (f x ≡ true)) → (b : Bool) → f y ≡ b → In x (cond b (y ∷ filter f xs) (filter f xs)) → ((x ≡ y) ⊎ In x xs) × (f x ≡ true)
      go ih true e (inl j) = (inl j, ap f j ∙ e)
      go ih true e (inr j) = (inr (ih j).0, (ih j).1)
      go ih false e j = (inr (ih j).0, (ih j).1)

  pub kept_in : (f : X → Bool) (xs : List X) (x : X) → In x xs → f x ≡ true → In x (filter f xs)
  kept_in f [] x i e = elim i [ ]
  kept_in f (y ∷ xs) x i e = go (λ j. kept_in f xs x j e) (f y) refl i
    where
      go : (In x xs → In x (filter f xs)) → (b : Bool) → f y ≡ b → (x ≡ y) ⊎ In x xs → In x (cond b (y ∷ filter f xs) (filter f xs))
      go ih true g (inl j) = inl j
      go ih true g (inr j) = inr (ih j)
      go ih false g (inl j) = let z : true ≡ false = sym e ∙ ap f j ∙ g in absurd (Rattle.std.proofs.lemmas.Bool.true≢false z)
      go ih false g (inr j) = ih j
