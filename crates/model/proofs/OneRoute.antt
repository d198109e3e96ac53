-- Planes of at most one route. Assumes nothing.
use Rattle.std.proofs.Common.{◌≡◌, ℕ, zero, suc, ◌≤◌, true, false, ◌&&◌, leb, [], ◌∷◌, length, Some, None, Option, sym, refl, ap, ◌∙◌, inl, inr, arith}
use Rattle.std.proofs.lemmas.Bool.{le-leb, leb-true, and_parts, and_from, cases_Bool, true≢false}
use Rattle.bits.specs.Bits.{Bits, equal, covers}
use Rattle.bits.proofs.Orders.{equal_self, equal_is}
use Rattle.model.specs.Maps.{route, held, Rising}
use Rattle.model.specs.Longest.{answer, Candidate}
use Rattle.model.specs.Room.{fits_rows}
use Rattle.model.specs.Machine.{Hop, Plane}
use Rattle.model.specs.Laws.{Sound}
use Rattle.model.proofs.MapLaws.{none≢some}
use Rattle.model.proofs.LongestLaws.{longest_laws}
use Rattle.model.proofs.OnePlane.{one_sound}

-- an optional route makes a plane of at most one
pub few : {X : Type 0} (f : Option X → Plane) → length (f None) ≡ 0 → ((x : X) → length (f (Some x)) ≡ 1) → (o : Option X) → length (f o) ≤ 1
few f none some None = omega (arith, none)
few f none some (Some x) = omega (arith, some x)

few_rising : (m : Plane) → length m ≤ 1 → Rising m
few_rising [] l = tt
few_rising (r ∷ []) l = (tt, tt)
few_rising (r ∷ (s ∷ m)) l = absurd (omega arith)

pub few_sound : (m : Plane) → length m ≤ 1 → Sound (λ i. fits_rows 1) (m ∷ [])
few_sound m l = one_sound (λ i. fits_rows 1) m (few_rising m l) (le-leb _ _ l)

-- the answer of a plane without routes
pub answer_empty : (m : Plane) (a : Bits) (b : ℕ) → m ≡ [] → None ≡ answer (held m) a b
answer_empty m a b e = go b ∙ ap (λ (k : Plane). answer (held k) a b) (sym e)
  where
    go : (b : ℕ) → None ≡ answer (held {V = Hop} []) a b
    go zero = refl
    go (suc b) = go b

-- what is visible in a plane of one route is its prefix
alone : (p : Bits) (h : Hop) (q : Bits) → (held (route p h ∷ []) q ≡ None → ⊥) → q ≡ p
alone p h q seen = elim (cases_Bool (equal q p)) [ inl e ↦ equal_is q p e | inr e ↦ absurd (seen (rw e refl)) ]

-- the answer of a plane of one route: the route where it matches, else none
module _ (m : Plane) (p : Bits) (h : Hop) (a : Bits) (b : ℕ) (one : m ≡ route p h ∷ []) (l : b ≤ length a) where
  pub answer_matched : (n : ℕ) → n ≡ length p → (leb (length p) b && covers p a) ≡ true → Some (n, h) ≡ answer (held m) a b
  answer_matched n long e =
      let value : held (route p h ∷ []) p ≡ Some h = rw (equal_self p) refl in
      let fits = and_parts (leb (length p) b) (covers p a) e in
      (longest_laws Hop).only_answer (held (route p h ∷ [])) a b (Some (n, h)) l (record {
        prefix = p;
        candidate = record { visible = λ f. none≢some h (sym f ∙ value); covering = fits.1; within = leb-true _ _ fits.0 };
        long = sym long;
        value = value;
        longest = λ q c. omega (arith, ap length (alone p h q c.visible));
      }) ∙ ap (λ (k : Plane). answer (held k) a b) (sym one)

  pub answer_unmatched : (leb (length p) b && covers p a) ≡ false → None ≡ answer (held m) a b
  answer_unmatched e = (longest_laws Hop).only_answer (held (route p h ∷ [])) a b None l none ∙ ap (λ (k : Plane). answer (held k) a b) (sym one)
    where
      none : (q : Bits) → Candidate (held (route p h ∷ [])) a b q → ⊥
      none q c =
          let same : q ≡ p = alone p h q c.visible in
          let within : leb (length p) b ≡ true = le-leb _ _ (omega (arith, c.within, ap length same)) in
          let covering : covers p a ≡ true = ap (λ (s : Bits). covers s a) (sym same) ∙ c.covering in
          true≢false (sym (and_from _ _ within covering) ∙ e)
