-- Places in a prefix map: what a route put in, taken out or sought at its place gives, by index. Assumes nothing.
use Rattle.std.proofs.Common.{◌≡◌, ℕ, zero, suc, ◌<◌, ◌≤◌, Bool, true, false, cond, ◌⊎◌, [], ◌∷◌, length, get_or, take, drop, set, Some, None, Option, sym, refl, ap, ◌∙◌, subst, inl, inr, arith}
use Rattle.std.specs.List.{insert, AllByRecursion, remove as without}
use Rattle.std.proofs.lemmas.Bool.{cases_lt, cases_eq, false≢true}
use Rattle.std.proofs.ByRecursion.{All-weaker, All-get_or}
use Rattle.bits.specs.Bits.{Bits, Order, before, same, after, order, by, equal, covers}
use Rattle.bits.proofs.Orders.{order_self, equal_self, equal_is, same_is, flip_before, before_trans, not_equal, not_equal_after, before≢after, same≢after}
use Rattle.model.specs.Maps.{Route, Map, route, held, put, removed, Above, Rising}
use Rattle.model.specs.Longest.{answer, Candidate}
use Rattle.model.proofs.MapLaws.{above_none, held_head, none≢some}
use Rattle.model.proofs.LongestLaws.{longest_laws}

-- a prefix that is neither before q nor q stands after it
pub after_else : (p q : Bits) → (order p q ≡ before → ⊥) → (p ≡ q → ⊥) → order p q ≡ after
after_else p q f g = go (order p q) refl
  where
    go : (o : Order) → order p q ≡ o → order p q ≡ after
    go before e = absurd (f e)
    go same e = absurd (g (same_is p q e))
    go after e = e

-- of two prefixes of an address the first in the order is no longer
pub covering_length : (p q a : Bits) → covers p a ≡ true → covers q a ≡ true → order p q ≡ before → length p ≤ length q
covering_length [] q a e f o = omega arith
covering_length (x ∷ p) [] a e f o = absurd (before≢after (sym o))
covering_length (x ∷ p) (y ∷ q) [] e f o = absurd (false≢true e)
covering_length (false ∷ p) (false ∷ q) (false ∷ a) e f o = omega (arith, covering_length p q a e f o)
covering_length (false ∷ p) (true ∷ q) (false ∷ a) e f o = absurd (false≢true f)
covering_length (true ∷ p) (y ∷ q) (false ∷ a) e f o = absurd (false≢true e)
covering_length (true ∷ p) (true ∷ q) (true ∷ a) e f o = omega (arith, covering_length p q a e f o)
covering_length (true ∷ p) (false ∷ q) (true ∷ a) e f o = absurd (false≢true f)
covering_length (false ∷ p) (y ∷ q) (true ∷ a) e f o = absurd (false≢true e)

-- a prefix of at most b bits that covers an address does not stand after the address's first b bits
pub covering_not_after : (q a : Bits) (b : ℕ) → covers q a ≡ true → length q ≤ b → order q (take b a) ≡ after → ⊥
covering_not_after [] [] zero e l o = same≢after o
covering_not_after [] [] (suc b) e l o = same≢after o
covering_not_after [] (y ∷ a) zero e l o = same≢after o
covering_not_after [] (y ∷ a) (suc b) e l o = before≢after o
covering_not_after (x ∷ q) [] b e l o = false≢true e
covering_not_after (x ∷ q) (y ∷ a) zero e l o = omega arith
covering_not_after (false ∷ q) (false ∷ a) (suc b) e l o = covering_not_after q a b e (omega arith) o
covering_not_after (false ∷ q) (true ∷ a) (suc b) e l o = false≢true e
covering_not_after (true ∷ q) (false ∷ a) (suc b) e l o = false≢true e
covering_not_after (true ∷ q) (true ∷ a) (suc b) e l o = covering_not_after q a b e (omega arith) o

module _ {V : Type 0} where
  -- every prefix of the map stands before p
  abbrev pub Below : Bits → Map V → Type 0
  Below p m = AllByRecursion (λ r. order r.prefix p ≡ before) m

  pub rising_at : (m : Map V) (d : Route V) → Rising m → (j k : ℕ) → j < k → k < length m → order (get_or m j d).prefix (get_or m k d).prefix ≡ before
  rising_at [] d h j k l n = absurd (omega arith)
  rising_at (r ∷ m) d h j zero l n = absurd (omega arith)
  rising_at (r ∷ m) d h zero (suc k) l n = All-get_or (λ s. order r.prefix s.prefix ≡ before) m k d (omega arith) h.0
  rising_at (r ∷ m) d h (suc j) (suc k) l n = rising_at m d h.1 j k (omega arith) (omega arith)

  -- p before the route at place i is before all from there on
  pub above_from : (m : Map V) (d : Route V) (i : ℕ) (p : Bits) → Rising m → (i < length m → order p (get_or m i d).prefix ≡ before) → Above p (drop i m)
  above_from [] d zero p h f = tt
  above_from [] d (suc i) p h f = tt
  above_from (r ∷ m) d zero p h f =
      let e : order p r.prefix ≡ before = f (omega arith) in
      (e, All-weaker (λ s. order r.prefix s.prefix ≡ before) (λ s. order p s.prefix ≡ before) (λ s g. before_trans p r.prefix s.prefix e g) m h.0)
  above_from (r ∷ m) d (suc i) p h f = above_from m d i p h.1 (λ l. f (omega arith))

  -- the route of p stands at place i
  pub put_there : (m : Map V) (d : Route V) (i : ℕ) (p : Bits) (v : V) → i < length m → Below p (take i m) → (get_or m i d).prefix ≡ p → put m p v ≡ set m i (route p v)
  put_there [] d i p v l b e = absurd (omega arith)
  put_there (r ∷ m) d zero p v l b e = let s : order p r.prefix ≡ same = ap (order p) e ∙ order_self p in rw s refl
  put_there (r ∷ m) d (suc i) p v l b e =
      let s : order p r.prefix ≡ after = flip_before r.prefix p b.0 in
      rw s (ap (λ t. r ∷ t) (put_there m d i p v (omega arith) b.1 e))

  removed_none : (m : Map V) (p : Bits) → Above p m → removed m p ≡ m
  removed_none [] p h = refl
  removed_none (r ∷ m) p h = rw (not_equal p r.prefix h.0) (ap (λ t. r ∷ t) (removed_none m p h.1))

  pub removed_there : (m : Map V) (d : Route V) (i : ℕ) (p : Bits) → i < length m → Rising m → Below p (take i m) → (get_or m i d).prefix ≡ p → removed m p ≡ without m i
  removed_there [] d i p l h b e = absurd (omega arith)
  removed_there (r ∷ m) d zero p l h b e =
      let s : equal p r.prefix ≡ true = ap (equal p) e ∙ equal_self p in
      rw s (removed_none m p (subst (λ (q : Bits). Above q m) e h.0))
  removed_there (r ∷ m) d (suc i) p l h b e =
      let s : equal p r.prefix ≡ false = not_equal_after p r.prefix (flip_before r.prefix p b.0) in
      rw s (ap (λ t. r ∷ t) (removed_there m d i p (omega arith) h.1 b.1 e))

  pub held_there : (m : Map V) (d : Route V) (i : ℕ) (p : Bits) → i < length m → Below p (take i m) → (get_or m i d).prefix ≡ p → held m p ≡ Some (get_or m i d).value
  held_there [] d i p l b e = absurd (omega arith)
  held_there (r ∷ m) d zero p l b e = let s : equal p r.prefix ≡ true = ap (equal p) e ∙ equal_self p in rw s refl
  held_there (r ∷ m) d (suc i) p l b e =
      let s : equal p r.prefix ≡ false = not_equal_after p r.prefix (flip_before r.prefix p b.0) in
      rw s (held_there m d i p (omega arith) b.1 e)

  -- no route of p, and i routes stand before it
  pub put_between : (m : Map V) (i : ℕ) (p : Bits) (v : V) → i ≤ length m → Below p (take i m) → Above p (drop i m) → put m p v ≡ insert m i (route p v)
  put_between [] zero p v l b a = refl
  put_between [] (suc i) p v l b a = absurd (omega arith)
  put_between (r ∷ m) zero p v l b a = rw a.0 refl
  put_between (r ∷ m) (suc i) p v l b a =
      let s : order p r.prefix ≡ after = flip_before r.prefix p b.0 in
      rw s (ap (λ t. r ∷ t) (put_between m i p v (omega arith) b.1 a))

  pub held_between : (m : Map V) (i : ℕ) (p : Bits) → Below p (take i m) → Above p (drop i m) → held m p ≡ None
  held_between [] i p b a = refl
  held_between (r ∷ m) zero p b a = above_none p (r ∷ m) a
  held_between (r ∷ m) (suc i) p b a =
      let s : equal p r.prefix ≡ false = not_equal_after p r.prefix (flip_before r.prefix p b.0) in
      rw s (held_between m i p b.1 a)

  -- a prefix that is not held makes the map one route longer
  pub put_length : (m : Map V) (p : Bits) (v : V) → held m p ≡ None → length (put m p v) ≡ suc (length m)
  put_length [] p v e = refl
  put_length (r ∷ m) p v e = go (put_length m p v) (order p r.prefix) e
    where
      go : (held m p ≡ None → length (put m p v) ≡ suc (length m)) → (o : Order) → cond (by o false true false) (Some r.value) (held m p) ≡ None
          → length (by o (route p v ∷ (r ∷ m)) (route p v ∷ m) (r ∷ put m p v)) ≡ suc (suc (length m))
      go ih before f = refl
      go ih same f = absurd (none≢some r.value (sym f))
      go ih after f = ap suc (ih f)

  -- what a rising map holds at the prefix of each of its routes, and that it holds nothing else
  pub held_at : (m : Map V) (d : Route V) → Rising m → (i : ℕ) → i < length m → held m (get_or m i d).prefix ≡ Some (get_or m i d).value
  held_at [] d h i l = absurd (omega arith)
  held_at (r ∷ m) d h zero l = held_head r m
  held_at (r ∷ m) d h (suc i) l =
      let q : Bits = (get_or m i d).prefix in
      let o : order r.prefix q ≡ before = All-get_or (λ s. order r.prefix s.prefix ≡ before) m i d (omega arith) h.0 in
      let s : equal q r.prefix ≡ false = not_equal_after q r.prefix (flip_before r.prefix q o) in
      rw s (held_at m d h.1 i (omega arith))

  pub held_somewhere : (m : Map V) (d : Route V) (q : Bits) → (held m q ≡ None → ⊥) → (k : ℕ) × (k < length m) × ((get_or m k d).prefix ≡ q)
  held_somewhere [] d q n = absurd (n refl)
  held_somewhere (r ∷ m) d q n = go (held_somewhere m d q) (equal q r.prefix) refl n
    where
      go : ((held m q ≡ None → ⊥) → (k : ℕ) × (k < length m) × ((get_or m k d).prefix ≡ q)) → (b : Bool) → equal q r.prefix ≡ b
          → (cond b (Some r.value) (held m q) ≡ None → ⊥) → (k : ℕ) × (k < length (r ∷ m)) × ((get_or (r ∷ m) k d).prefix ≡ q)
      go ih true e f = (0, omega arith, sym (equal_is q r.prefix e))
      go ih false e f = let x = ih f in (suc x.0, omega (arith, x.1), x.2)

  -- the last route that covers the address within the bound is the longest match
  pub last_answers : (m : Map V) (d : Route V) (a : Bits) (b i : ℕ) → b ≤ length a → Rising m → i < length m
      → covers (get_or m i d).prefix a ≡ true → length (get_or m i d).prefix ≤ b
      → ((k : ℕ) → i < k → k < length m → covers (get_or m k d).prefix a ≡ true → length (get_or m k d).prefix ≤ b → ⊥)
      → Some (length (get_or m i d).prefix, (get_or m i d).value) ≡ answer (held m) a b
  last_answers m d a b i l h n c s none = (longest_laws V).only_answer (held m) a b _ l (record {
    prefix = (get_or m i d).prefix;
    candidate = record { visible = seen; covering = c; within = s };
    long = refl;
    value = held_at m d h i n;
    longest = longer;
  })
    where
      seen : held m (get_or m i d).prefix ≡ None → ⊥
      seen e = none≢some (get_or m i d).value (sym e ∙ held_at m d h i n)

      longer : (q : Bits) → Candidate (held m) a b q → length q ≤ length (get_or m i d).prefix
      longer q x = go (held_somewhere m d q x.visible)
        where
          go : (k : ℕ) × (k < length m) × ((get_or m k d).prefix ≡ q) → length q ≤ length (get_or m i d).prefix
          go y = by_place (cases_lt i y.0) (cases_eq y.0 i)
            where
              reads : covers (get_or m y.0 d).prefix a ≡ true
              reads = ap (λ (t : Bits). covers t a) y.2 ∙ x.covering

              long : length (get_or m y.0 d).prefix ≡ length q
              long = ap length y.2

              by_place : (i < y.0) ⊎ (y.0 ≤ i) → (y.0 ≡ i) ⊎ (y.0 ≡ i → ⊥) → length q ≤ length (get_or m i d).prefix
              by_place (inl g) z = absurd (none y.0 g y.1 reads (omega (arith, x.within, long)))
              by_place (inr g) (inl z) = let w : length (get_or m y.0 d).prefix ≡ length (get_or m i d).prefix = ap (λ t. length (get_or m t d).prefix) z in omega (arith, long)
              by_place (inr g) (inr z) = omega (arith, long, covering_length (get_or m y.0 d).prefix (get_or m i d).prefix a reads c (rising_at m d h y.0 i (omega arith) n))

  -- and where none covers it, there is no match
  pub none_answers : (m : Map V) (d : Route V) (a : Bits) (b : ℕ) → b ≤ length a
      → ((k : ℕ) → k < length m → covers (get_or m k d).prefix a ≡ true → length (get_or m k d).prefix ≤ b → ⊥)
      → ◌≡◌ {A = Option (ℕ × V)} None (answer (held m) a b)
  none_answers m d a b l none = (longest_laws V).only_answer (held m) a b None l (λ q x. go q x (held_somewhere m d q x.visible))
    where
      go : (q : Bits) → Candidate (held m) a b q → (k : ℕ) × (k < length m) × ((get_or m k d).prefix ≡ q) → ⊥
      go q x y = none y.0 y.1 (ap (λ (t : Bits). covers t a) y.2 ∙ x.covering) (let e : length (get_or m y.0 d).prefix ≡ length q = ap length y.2 in omega (arith, x.within))
