-- The branches of a map are listed, each once. Assumes nothing.
use Rattle.std.proofs.Common.{◌≡◌, ℕ, suc, ◌+◌, ◌≤◌, Bool, true, false, cond, not, ◌⊎◌, ◌↔◌, List, [], ◌∷◌, ◌++◌, length, is_some, Some, None, filter, Option, sym, refl, ap, ◌∙◌, subst, inl, inr, arith}
use Rattle.std.specs.List.{AllByRecursion}
use Rattle.std.proofs.lemmas.Bool.{cases_Bool, false≢true, leb-true, le-leb}
use Rattle.std.proofs.lemmas.List.{length-append}
use Rattle.std.proofs.ByRecursion.{All-weaker, All-append}
use Rattle.bits.specs.Bits.{Bits, before, order, equal, common}
use Rattle.model.specs.Maps.{Route, Map, held, put, removed, Above, Rising}
use Rattle.model.specs.Room.{Held, Beneath, Branch, partings, branches, nodes, fits_rows, fits_nodes, In, Distinct, Fits, RoomLaw, RoomLaws}
use Rattle.bits.proofs.Orders.{equal_is, before≢same, order_self}
use Rattle.model.proofs.MapLaws.{held_head, none≢some, put_rises, removed_rises, put_holds, removed_holds}
use Rattle.model.proofs.Members.{in_left, in_right, distinct_append, all_in, pigeonhole, in_kept, kept_in}
use Rattle.model.proofs.Partings.{parts, parts_at, sides_order, between, not_both, one_side}

module _ {V : Type 0} where
  abbrev pub prefixes : Map V → List Bits
  prefixes [] = []
  prefixes (r ∷ m) = r.prefix ∷ prefixes m

  abbrev pub node_list : Map V → List Bits
  node_list m = prefixes m ++ branches m

  prefixes_length : (m : Map V) → length (prefixes m) ≡ length m
  prefixes_length [] = refl
  prefixes_length (r ∷ m) = ap suc (prefixes_length m)

  pub in_held : (m : Map V) (p : Bits) → Held (held m) p → In p (prefixes m)
  in_held [] p h = absurd (h refl)
  in_held (r ∷ m) p h = go (in_held m p) (equal p r.prefix) refl h
    where
      go : (Held (held m) p → In p (prefixes m)) → (b : Bool) → equal p r.prefix ≡ b → (cond b (Some r.value) (held m p) ≡ None → ⊥) → (p ≡ r.prefix) ⊎ In p (prefixes m)
      go ih true e f = inl (equal_is p r.prefix e)
      go ih false e f = inr (ih f)

  pub held_in : (m : Map V) (p : Bits) → In p (prefixes m) → Held (held m) p
  held_in [] p i = elim i [ ]
  held_in (r ∷ m) p (inl e) = λ f. none≢some r.value (sym f ∙ ap (held (r ∷ m)) e ∙ held_head r m)
  held_in (r ∷ m) p (inr i) = go (held_in m p i) (equal p r.prefix)
    where
      go : Held (held m) p → (b : Bool) → cond b (Some r.value) (held m p) ≡ None → ⊥
      go ih true f = none≢some r.value (sym f)
      go ih false f = ih f

  absent_tail : (r : Route V) (m : Map V) (p : Bits) → held (r ∷ m) p ≡ None → held m p ≡ None
  absent_tail r m p e = go (equal p r.prefix) e
    where
      go : (b : Bool) → cond b (Some r.value) (held m p) ≡ None → held m p ≡ None
      go true f = absurd (none≢some r.value (sym f))
      go false f = f

  above_in : (p q : Bits) (m : Map V) → Above p m → In q (prefixes m) → order p q ≡ before
  above_in p q [] h i = elim i [ ]
  above_in p q (r ∷ m) h (inl e) = subst (λ t. order p t ≡ before) (sym e) h.0
  above_in p q (r ∷ m) h (inr i) = above_in p q m h.1 i

  -- routes to both sides
  record Sides (m : Map V) (p : Bits) : Type 0 where
    low : Bits
    high : Bits
    low_in : In low (prefixes m)
    high_in : In high (prefixes m)
    low_side : Beneath p false low
    high_side : Beneath p true high

  partings_sides : (m : Map V) → Rising m → (p : Bits) → In p (partings m) → held m p ≡ None → Sides m p
  partings_sides [] g p i e = elim i [ ]
  partings_sides (r ∷ []) g p i e = elim i [ ]
  partings_sides (r ∷ (s ∷ m)) g p (inl f) e = elim (parts r.prefix s.prefix g.0.0) [
    | inl c ↦ absurd (none≢some r.value (sym e ∙ ap (held (r ∷ (s ∷ m))) (f ∙ c) ∙ held_head r (s ∷ m)))
    | inr c ↦ record {
      low = r.prefix;
      high = s.prefix;
      low_in = inl refl;
      high_in = inr (inl refl);
      low_side = subst (λ t. Beneath t false r.prefix) (sym f) c.0;
      high_side = subst (λ t. Beneath t true s.prefix) (sym f) c.1;
    }
  ]
  partings_sides (r ∷ (s ∷ m)) g p (inr i) e =
      let b = partings_sides (s ∷ m) g.1 p i (absent_tail r (s ∷ m) p e) in
      record { low = b.low; high = b.high; low_in = inr b.low_in; high_in = inr b.high_in; low_side = b.low_side; high_side = b.high_side }

  sides_meet : (m : Map V) → Rising m → (p t u : Bits) → In t (prefixes m) → In u (prefixes m) → Beneath p false t → Beneath p true u → In p (partings m)
  sides_meet [] g p t u i j a b = elim i [ ]
  sides_meet (r ∷ []) g p t u (inl e) (inl f) a b = absurd (one_side p t a (subst (Beneath p true) (f ∙ sym e) b))
  sides_meet (r ∷ []) g p t u (inl e) (inr j) a b = elim j [ ]
  sides_meet (r ∷ []) g p t u (inr i) j a b = elim i [ ]
  sides_meet (r ∷ (s ∷ m)) g p t u (inl e) (inl f) a b = absurd (one_side p t a (subst (Beneath p true) (f ∙ sym e) b))
  sides_meet (r ∷ (s ∷ m)) g p t u (inl e) (inr j) a b = go (sides_meet (s ∷ m) g.1 p s.prefix u (inl refl) j) (here j)
    where
      low : Beneath p false r.prefix
      low = subst (Beneath p false) e a

      here : In u (prefixes (s ∷ m)) → Beneath p false s.prefix ⊎ Beneath p true s.prefix
      here (inl f) = inr (subst (Beneath p true) f b)
      here (inr k) = between p r.prefix s.prefix u low b g.0.0 (above_in s.prefix u m g.1.0 k)

      go : (Beneath p false s.prefix → Beneath p true u → In p (partings (s ∷ m))) → Beneath p false s.prefix ⊎ Beneath p true s.prefix → (p ≡ common r.prefix s.prefix) ⊎ In p (partings (s ∷ m))
      go ih (inl c) = inr (ih c b)
      go ih (inr c) = inl (sym (parts_at p r.prefix s.prefix low c))
  sides_meet (r ∷ (s ∷ m)) g p t u (inr i) (inl f) a b =
      absurd (not_both r.prefix t (above_in r.prefix t (s ∷ m) g.0 i) (subst (λ w. order t w ≡ before) f (sides_order p t u a b)))
  sides_meet (r ∷ (s ∷ m)) g p t u (inr i) (inr j) a b = inr (sides_meet (s ∷ m) g.1 p t u i j a b)

  partings_once : (f : Bits → Bool) (m : Map V) → Rising m → ((p : Bits) → f p ≡ true → held m p ≡ None) → Distinct (filter f (partings m))
  partings_once f [] g h = tt
  partings_once f (r ∷ []) g h = tt
  partings_once f (r ∷ (s ∷ m)) g h = go (partings_once f (s ∷ m) g.1 (λ p e. absent_tail r (s ∷ m) p (h p e))) (f (common r.prefix s.prefix)) refl
    where
      c : Bits
      c = common r.prefix s.prefix

      clash : Beneath c true s.prefix → Sides (s ∷ m) c → ⊥
      clash b w = at w.low_in
        where
          at : In w.low (prefixes (s ∷ m)) → ⊥
          at (inl e) = one_side c s.prefix (subst (Beneath c false) e w.low_side) b
          at (inr i) = not_both s.prefix w.low (above_in s.prefix w.low m g.1.0 i) (sides_order c w.low s.prefix w.low_side b)

      later : f c ≡ true → In c (filter f (partings (s ∷ m))) → ⊥
      later e i = elim (parts r.prefix s.prefix g.0.0) [
        | inl d ↦ none≢some r.value (sym (h c e) ∙ ap (held (r ∷ (s ∷ m))) d ∙ held_head r (s ∷ m))
        | inr d ↦ clash d.1 (partings_sides (s ∷ m) g.1 c (in_kept f (partings (s ∷ m)) c i).0 (absent_tail r (s ∷ m) c (h c e)))
      ]

      go : Distinct (filter f (partings (s ∷ m))) → (b : Bool) → f (common r.prefix s.prefix) ≡ b → Distinct (cond b (common r.prefix s.prefix ∷ filter f (partings (s ∷ m))) (filter f (partings (s ∷ m))))
      go ih true e = (later e, ih)
      go ih false e = ih

  none_test : (o : Option V) → not (is_some o) ≡ true → o ≡ None
  none_test None e = refl
  none_test (Some v) e = absurd (false≢true e)

  test_none : (o : Option V) → o ≡ None → not (is_some o) ≡ true
  test_none o e = rw e refl

  pub branches_once : (m : Map V) → Rising m → Distinct (branches m)
  branches_once m g = partings_once (λ p. not (is_some (held m p))) m g (λ p e. none_test (held m p) e)

  pub branches_exact : (m : Map V) → Rising m → (p : Bits) → In p (branches m) ↔ Branch (held m) p
  branches_exact m g p = (there, back)
    where
      f : Bits → Bool
      f q = not (is_some (held m q))

      there : In p (branches m) → Branch (held m) p
      there i =
          let k = in_kept (λ q. not (is_some (held m q))) (partings m) p i in
          let e : held m p ≡ None = none_test (held m p) k.1 in
          let w = partings_sides m g p k.0 e in
          record { absent = e; sides = elim [ false ↦ (w.low, held_in m w.low w.low_in, w.low_side) | true ↦ (w.high, held_in m w.high w.high_in, w.high_side) ] }

      back : Branch (held m) p → In p (branches m)
      back b =
          let l = b.sides false in
          let h = b.sides true in
          kept_in (λ q. not (is_some (held m q))) (partings m) p (sides_meet m g p l.0 h.0 (in_held m l.0 l.1) (in_held m h.0 h.1) l.2 h.2) (test_none (held m p) b.absent)

  -- ---- room

  prefixes_once : (m : Map V) → Rising m → Distinct (prefixes m)
  prefixes_once [] g = tt
  prefixes_once (r ∷ m) g = ((λ i. before≢same (sym (above_in r.prefix r.prefix m g.0 i) ∙ order_self r.prefix)), prefixes_once m g.1)

  node_list_once : (m : Map V) → Rising m → Distinct (node_list m)
  node_list_once m g = distinct_append (prefixes m) (branches m) (prefixes_once m g) (branches_once m g) (λ p i j. held_in m p i ((branches_exact m g p).0 j).absent)

  node_list_length : (m : Map V) → length (node_list m) ≡ nodes m
  node_list_length m = length-append (prefixes m) (branches m) ∙ ap (λ n. n + length (branches m)) (prefixes_length m)

  node_list_are : (m : Map V) → Rising m → AllByRecursion (λ p. Held (held m) p ⊎ Branch (held m) p) (node_list m)
  node_list_are m g = All-append (λ p. Held (held m) p ⊎ Branch (held m) p) (prefixes m) (branches m)
      (all_in (λ p. Held (held m) p ⊎ Branch (held m) p) (prefixes m) (λ p i. inl (held_in m p i)))
      (all_in (λ p. Held (held m) p ⊎ Branch (held m) p) (branches m) (λ p i. inr ((branches_exact m g p).0 i)))

  pub at_most : (m : Map V) → Rising m → Fits (nodes m) (held m)
  at_most m g ps d h =
      let k : AllByRecursion (λ p. In p (node_list m)) ps = All-weaker (λ p. Held (held m) p ⊎ Branch (held m) p) (λ p. In p (node_list m)) (λ p w. elim w [
        | inl r ↦ in_left p (prefixes m) (branches m) (in_held m p r)
        | inr b ↦ in_right p (prefixes m) (branches m) ((branches_exact m g p).1 b)
      ]) ps h in
      subst (λ n. length ps ≤ n) (node_list_length m) (pigeonhole ps (node_list m) d k)

  -- a list of the routes and branches, each once, is as long as the nodes
  pub counts : (m : Map V) → Rising m → (ps : List Bits) → Distinct ps → ((p : Bits) → In p ps ↔ (Held (held m) p ⊎ Branch (held m) p)) → length ps ≡ nodes m
  counts m g ps d e =
      let below = at_most m g ps d (all_in (λ p. Held (held m) p ⊎ Branch (held m) p) ps (λ p i. (e p).0 i)) in
      let above = pigeonhole (node_list m) ps (node_list_once m g) (All-weaker (λ p. Held (held m) p ⊎ Branch (held m) p) (λ p. In p ps) (λ p w. (e p).1 w) (node_list m) (node_list_are m g)) in
      omega (arith, node_list_length m)

  pub fits_count : (n : ℕ) (m : Map V) → Rising m → Fits n (held m) → nodes m ≤ n
  fits_count n m g f = subst (λ k. k ≤ n) (node_list_length m) (f (node_list m) (node_list_once m g) (node_list_are m g))

  pub fits_same : (n : ℕ) (m : Map V) → Rising m → Fits n (held m) ↔ (fits_nodes n m ≡ true)
  fits_same n m g = ((λ f. le-leb (nodes m) n (fits_count n m g f)), (λ e ps d h. let l = leb-true (nodes m) n e in let k = at_most m g ps d h in omega arith))

  some_or_none : (o : Option V) → (o ≡ None) ⊎ (o ≡ None → ⊥)
  some_or_none None = inl refl
  some_or_none (Some v) = inr (λ e. none≢some v (sym e))

  -- a map whose routes are all another's takes no more
  fewer_fit : (n : ℕ) (m k : Map V) → ((q : Bits) → Held (held k) q → Held (held m) q) → Fits n (held m) → Fits n (held k)
  fewer_fit n m k sub f ps d h = f ps d (All-weaker (λ p. Held (held k) p ⊎ Branch (held k) p) (λ p. Held (held m) p ⊎ Branch (held m) p) (λ p z. elim z [
    | inl r ↦ inl (sub p r)
    | inr b ↦ (elim (some_or_none (held m p)) [ inr r ↦ inl r | inl e ↦ inr (record { absent = e; sides = λ s. ((b.sides s).0, sub (b.sides s).0 (b.sides s).1, (b.sides s).2) }) ])
  ]) ps h)

  removed_sub : (m : Map V) (p q : Bits) → Held (held (removed m p)) q → Held (held m) q
  removed_sub m p q r e = r (removed_holds m p q ∙ rw e (both (equal q p)))
    where
      both : (b : Bool) → ◌≡◌ {A = Option V} (cond b None None) None
      both true = refl
      both false = refl

  put_sub : (m : Map V) (p : Bits) (v : V) → Held (held m) p → (q : Bits) → Held (held (put m p v)) q → Held (held m) q
  put_sub m p v h q r e = elim (cases_Bool (equal q p)) [
    | inl t ↦ h (ap (held m) (sym (equal_is q p t)) ∙ e)
    | inr t ↦ r (put_holds m p v q ∙ rw t e)
  ]

  pub nodes_room : (n : ℕ) → RoomLaw {V = V} (fits_nodes n)
  nodes_room n = record {
    less = λ m p g e. (fits_same n (removed m p) (removed_rises m p g)).0 (fewer_fit n m (removed m p) (removed_sub m p) ((fits_same n m g).1 e));
    altered = λ m p v g h e. (fits_same n (put m p v) (put_rises m p v g)).0 (fewer_fit n m (put m p v) (put_sub m p v h) ((fits_same n m g).1 e));
  }

  fewer_rows : (m k : Map V) → Rising k → ((q : Bits) → Held (held k) q → Held (held m) q) → length k ≤ length m
  fewer_rows m k g sub =
      let l = pigeonhole (prefixes k) (prefixes m) (prefixes_once k g) (all_in (λ p. In p (prefixes m)) (prefixes k) (λ p i. in_held m p (sub p (held_in k p i)))) in
      omega (arith, prefixes_length m, prefixes_length k)

  pub rows_room : (n : ℕ) → RoomLaw {V = V} (fits_rows n)
  rows_room n = record {
    less = λ m p g e. le-leb (length (removed m p)) n (omega (arith, leb-true (length m) n e, fewer_rows m (removed m p) (removed_rises m p g) (removed_sub m p)));
    altered = λ m p v g h e. le-leb (length (put m p v)) n (omega (arith, leb-true (length m) n e, fewer_rows m (put m p v) (put_rises m p v g) (put_sub m p v h)));
  }

pub room_laws : (V : Type 0) → RoomLaws V
room_laws V = record { exact = branches_exact; once = branches_once; counts = counts; fits = fits_same; rows = rows_room; trie = nodes_room }
