-- What is beneath a prefix, by its bits. Assumes nothing.
use Rattle.std.proofs.Common.{◌≡◌, ℕ, ◌+◌, ◌-◌, ◌<◌, ◌≤◌, Bool, false, ◌⊎◌, [], ◌∷◌, ◌++◌, length, get_or, take, sym, refl, ap, ◌∙◌, inl, inr, arith, length-append}
use Rattle.std.proofs.lemmas.Bool.{cases_lt}
use Rattle.std.proofs.lemmas.List.{get_or_append_left, get_or-append_right, get_or-take, ext_get_or, length-take-le}
use Rattle.bits.specs.Bits.{Bits}
use Rattle.bits.proofs.Strings.{covers_starts, starts_covers}
use Rattle.model.specs.Room.{Beneath}
use Rattle.trie.specs.Trie.{Leads}

-- bit k of a prefix
abbrev pub bit_of : Bits → ℕ → Bool
bit_of p k = get_or p k false

-- q is longer than p, begins with p's bits, and has s next
abbrev pub Below : Bool → Bits → Bits → Type 0
Below s p q = Leads s (length p) (bit_of p) (length q) (bit_of q)

module _ (p q : Bits) (s : Bool) where
  long : length (p ++ (s ∷ [])) ≡ length p + 1
  long = length-append p (s ∷ [])

  before : (k : ℕ) → k < length p → get_or (p ++ (s ∷ [])) k false ≡ get_or p k false
  before k h = get_or_append_left p (s ∷ []) false k h

  last : get_or (p ++ (s ∷ [])) (length p) false ≡ s
  last =
      let z : length p - length p ≡ 0 = omega arith in
      get_or-append_right p (s ∷ []) (length p) (length p) false refl (omega arith) ∙ ap (λ (k : ℕ). get_or (s ∷ []) k false) z

  pub beneath_below : Beneath p s q → Below s p q
  beneath_below e =
      let c = covers_starts (p ++ (s ∷ [])) q e in
      let at : (k : ℕ) → k < length (p ++ (s ∷ [])) → get_or (p ++ (s ∷ [])) k false ≡ get_or q k false = λ k h. ap (λ (l : Bits). get_or l k false) c.1 ∙ get_or-take (length (p ++ (s ∷ []))) q k false h in
      record {
        long = omega (arith, c.0, long);
        same = λ k h. sym (before k h) ∙ at k (omega (arith, long));
        side = sym (at (length p) (omega (arith, long))) ∙ last;
      }

  pub below_beneath : Below s p q → Beneath p s q
  below_beneath r = starts_covers (p ++ (s ∷ [])) q (ext_get_or false (p ++ (s ∷ [])) (take (length (p ++ (s ∷ []))) q)
      (sym (length-take-le (length (p ++ (s ∷ []))) q (omega (arith, long, r.long)))) (λ k h. go k h (cases_lt k (length p))))
    where
      go : (k : ℕ) → k < length (p ++ (s ∷ [])) → (k < length p) ⊎ (length p ≤ k) → get_or (p ++ (s ∷ [])) k false ≡ get_or (take (length (p ++ (s ∷ []))) q) k false
      go k h (inl l) = before k l ∙ r.same k l ∙ sym (get_or-take (length (p ++ (s ∷ []))) q k false h)
      go k h (inr l) =
          let e : k ≡ length p = omega (arith, long) in
          ap (λ (i : ℕ). get_or (p ++ (s ∷ [])) i false) e ∙ last ∙ sym r.side ∙ ap (λ (i : ℕ). get_or q i false) (sym e) ∙ sym (get_or-take (length (p ++ (s ∷ []))) q k false h)
