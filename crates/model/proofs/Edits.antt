-- Lists of which the first so many count: what writing, inserting and taking out an element leaves of them. Assumes nothing.
use Rattle.std.proofs.Common.{◌≡◌, ℕ, zero, suc, ◌+◌, ◌-◌, ◌<◌, ◌≤◌, ◌⊎◌, List, [], ◌∷◌, ◌++◌, map, length, get_or, take, drop, set, sym, refl, ap, ◌∙◌, inl, inr, arith}
use Rattle.std.specs.List.{insert, remove}
use Rattle.std.proofs.lemmas.List.{map-append, take-map, drop-map, ext_get_or, length-take-le, get_or-take}
use Rattle.std.proofs.lemmas.List.Edits.{length-insert, get_or-insert_below, get_or-insert_at, get_or-insert_above, length-remove, get_or-remove_below, get_or-remove_above}
use Rattle.std.proofs.lemmas.Bool.{cases_order}

module _ {X : Type 0} where
  pub take_set_within : (n : ℕ) (xs : List X) (i : ℕ) (x : X) → i < n → take n (set xs i x) ≡ set (take n xs) i x
  take_set_within zero xs i x l = absurd (omega arith)
  take_set_within (suc n) [] i x l = refl
  take_set_within (suc n) (y ∷ xs) zero x l = refl
  take_set_within (suc n) (y ∷ xs) (suc i) x l = ap (λ t. y ∷ t) (take_set_within n xs i x (omega arith))

  pub map_inserted : {Y : Type 0} (f : X → Y) (xs : List X) (i : ℕ) (x : X) → map f (insert xs i x) ≡ insert (map f xs) i (f x)
  map_inserted f xs i x =
      map-append f (take i xs) (x ∷ drop i xs)
      ∙ ap (λ t. t ++ (f x ∷ map f (drop i xs))) (sym (take-map f i xs))
      ∙ ap (λ t. take i (map f xs) ++ (f x ∷ t)) (sym (drop-map f i xs))

  pub map_removed : {Y : Type 0} (f : X → Y) (xs : List X) (i : ℕ) → map f (remove xs i) ≡ remove (map f xs) i
  map_removed f xs i =
      map-append f (take i xs) (drop (suc i) xs)
      ∙ ap (λ t. t ++ map f (drop (suc i) xs)) (sym (take-map f i xs))
      ∙ ap (λ t. take i (map f xs) ++ t) (sym (drop-map f (suc i) xs))

  -- the elements from i up to n moved one place up, and x at i
  pub opened_takes : (was new : List X) (d : X) (i n : ℕ) (x : X) → i ≤ n → n < length was → length new ≡ length was
      → ((k : ℕ) → k < i → get_or new k d ≡ get_or was k d) → get_or new i d ≡ x → ((k : ℕ) → i ≤ k → k < n → get_or new (k + 1) d ≡ get_or was k d)
      → take (n + 1) new ≡ insert (take n was) i x
  opened_takes was new d i n x l m e below there moved = ext_get_or d _ _ (left ∙ sym right) (λ k h. go k (omega (arith, left, h)) (cases_order k i))
    where
      taken : length (take n was) ≡ n
      taken = length-take-le n was (omega arith)

      left : length (take (n + 1) new) ≡ n + 1
      left = length-take-le (n + 1) new (omega arith)

      right : length (insert (take n was) i x) ≡ n + 1
      right = length-insert (take n was) i x (omega (arith, taken)) ∙ ap (λ t. t + 1) taken

      go : (k : ℕ) → k < n + 1 → (k ≡ i) ⊎ ((k < i) ⊎ (i < k)) → get_or (take (n + 1) new) k d ≡ get_or (insert (take n was) i x) k d
      go k h (inl f) =
          get_or-take (n + 1) new k d h ∙ ap (λ t. get_or new t d) f ∙ there
          ∙ sym (get_or-insert_at (take n was) i x d (omega (arith, taken))) ∙ ap (λ t. get_or (insert (take n was) i x) t d) (sym f)
      go k h (inr (inl f)) =
          get_or-take (n + 1) new k d h ∙ below k f
          ∙ sym (get_or-take n was k d (omega arith)) ∙ sym (get_or-insert_below (take n was) i x d k f (omega (arith, taken)))
      go k h (inr (inr f)) =
          let s : k ≡ k - 1 + 1 = omega arith in
          get_or-take (n + 1) new k d h ∙ ap (λ t. get_or new t d) s ∙ moved (k - 1) (omega arith) (omega arith)
          ∙ sym (get_or-take n was (k - 1) d (omega arith)) ∙ sym (get_or-insert_above (take n was) i x d (k - 1) (omega arith) (omega (arith, taken)))
          ∙ ap (λ t. get_or (insert (take n was) i x) t d) (sym s)

  -- the elements past i up to n moved one place down, over the one at i
  pub closed_takes : (was new : List X) (d : X) (i n : ℕ) → i < n → n ≤ length was → length new ≡ length was
      → ((k : ℕ) → k < i → get_or new k d ≡ get_or was k d) → ((k : ℕ) → i ≤ k → k + 1 < n → get_or new k d ≡ get_or was (k + 1) d)
      → take (n - 1) new ≡ remove (take n was) i
  closed_takes was new d i n l m e below moved = ext_get_or d _ _ (left ∙ sym right) (λ k h. go k (omega (arith, left, h)) (cases_order k i))
    where
      taken : length (take n was) ≡ n
      taken = length-take-le n was m

      left : length (take (n - 1) new) ≡ n - 1
      left = length-take-le (n - 1) new (omega arith)

      right : length (remove (take n was) i) ≡ n - 1
      right = omega (arith, length-remove (take n was) i (omega (arith, taken)), taken)

      up : (k : ℕ) → k < n - 1 → i ≤ k → get_or (take (n - 1) new) k d ≡ get_or (remove (take n was) i) k d
      up k h f =
          get_or-take (n - 1) new k d h ∙ moved k f (omega arith)
          ∙ sym (get_or-take n was (k + 1) d (omega arith)) ∙ sym (get_or-remove_above (take n was) i d k f (omega (arith, taken)))

      go : (k : ℕ) → k < n - 1 → (k ≡ i) ⊎ ((k < i) ⊎ (i < k)) → get_or (take (n - 1) new) k d ≡ get_or (remove (take n was) i) k d
      go k h (inl f) = up k h (omega arith)
      go k h (inr (inl f)) =
          get_or-take (n - 1) new k d h ∙ below k f
          ∙ sym (get_or-take n was k d (omega arith)) ∙ sym (get_or-remove_below (take n was) i d k f (omega (arith, taken)))
      go k h (inr (inr f)) = up k h (omega arith)
