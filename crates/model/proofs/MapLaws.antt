-- Laws of prefix maps. Assumes nothing.
use Rattle.std.proofs.Common.{◌≡◌, ℕ, Bool, true, false, cond, [], ◌∷◌, Some, None, Option, sym, refl, ap, ◌∙◌, subst, inl, inr, arith}
use Rattle.std.proofs.lemmas.Bool.{cases_Bool}
use Rattle.std.proofs.ByRecursion.{All-weaker}
use Rattle.bits.specs.Bits.{Bits, Order, before, same, after, order, by, equal}
use Rattle.model.specs.Maps.{Route, Map, route, held, put, removed, Above, Rising, MapLaws}
use Rattle.bits.proofs.Orders.{equal_self, same_is, equal_is, flip_after, before_trans, not_equal, not_equal_after}

module _ {V : Type 0} where
  -- what is above p's successor is above p
  above_trans : (p q : Bits) (m : Map V) → order p q ≡ before → Above q m → Above p m
  above_trans p q m e h = All-weaker (λ r. order q r.prefix ≡ before) (λ r. order p r.prefix ≡ before) (λ r f. before_trans p q r.prefix e f) m h

  put_above : (q : Bits) (m : Map V) (p : Bits) (v : V) → order q p ≡ before → Above q m → Above q (put m p v)
  put_above q [] p v e h = (e, tt)
  put_above q (r ∷ m) p v e h = go (put_above q m p v e h.1) (order p r.prefix)
    where
      go : Above q (put m p v) → (o : Order) → Above q (by o (route p v ∷ (r ∷ m)) (route p v ∷ m) (r ∷ put m p v))
      go ih before = (e, h)
      go ih same = (e, h.1)
      go ih after = (h.0, ih)

  pub put_rises : (m : Map V) (p : Bits) (v : V) → Rising m → Rising (put m p v)
  put_rises [] p v h = (tt, tt)
  put_rises (r ∷ m) p v h = go (put_rises m p v h.1) (order p r.prefix) refl
    where
      go : Rising (put m p v) → (o : Order) → order p r.prefix ≡ o → Rising (by o (route p v ∷ (r ∷ m)) (route p v ∷ m) (r ∷ put m p v))
      go ih before e = ((e, above_trans p r.prefix m e h.0), h)
      go ih same e = (subst (λ q. Above q m) (sym (same_is p r.prefix e)) h.0, h.1)
      go ih after e = (put_above r.prefix m p v (flip_after p r.prefix e) h.0, ih)

  removed_above : (q : Bits) (m : Map V) (p : Bits) → Above q m → Above q (removed m p)
  removed_above q [] p h = tt
  removed_above q (r ∷ m) p h = go (removed_above q m p h.1) (equal p r.prefix)
    where
      go : Above q (removed m p) → (b : Bool) → Above q (cond b (removed m p) (r ∷ removed m p))
      go ih true = ih
      go ih false = (h.0, ih)

  pub removed_rises : (m : Map V) (p : Bits) → Rising m → Rising (removed m p)
  removed_rises [] p h = tt
  removed_rises (r ∷ m) p h = go (removed_rises m p h.1) (equal p r.prefix)
    where
      go : Rising (removed m p) → (b : Bool) → Rising (cond b (removed m p) (r ∷ removed m p))
      go ih true = ih
      go ih false = (removed_above r.prefix m p h.0, ih)

  pub put_holds : (m : Map V) (p : Bits) (v : V) (q : Bits) → held (put m p v) q ≡ cond (equal q p) (Some v) (held m q)
  put_holds [] p v q = refl
  put_holds (r ∷ m) p v q = go (put_holds m p v q) (order p r.prefix) refl
    where
      go : held (put m p v) q ≡ cond (equal q p) (Some v) (held m q) → (o : Order) → order p r.prefix ≡ o → held (by o (route p v ∷ (r ∷ m)) (route p v ∷ m) (r ∷ put m p v)) q ≡ cond (equal q p) (Some v) (held (r ∷ m) q)
      go ih before e = refl
      go ih same e = rw (← same_is p r.prefix e) (over (equal q p))
        where
          over : (b : Bool) → cond b (Some v) (held m q) ≡ cond b (Some v) (cond b (Some r.value) (held m q))
          over true = refl
          over false = refl
      go ih after e = rw ih (elim (cases_Bool (equal q p)) [ inl f ↦ first f | inr f ↦ rw f refl ])
        where
          first : equal q p ≡ true → cond (equal q r.prefix) (Some r.value) (cond (equal q p) (Some v) (held m q)) ≡ cond (equal q p) (Some v) (cond (equal q r.prefix) (Some r.value) (held m q))
          first f =
              let g : equal q r.prefix ≡ false = ap (λ t. equal t r.prefix) (equal_is q p f) ∙ not_equal_after p r.prefix e in
              rw (g, f) refl

  pub removed_holds : (m : Map V) (p q : Bits) → held (removed m p) q ≡ cond (equal q p) None (held m q)
  removed_holds [] p q = both (equal q p)
    where
      both : (b : Bool) → ◌≡◌ {A = Option V} None (cond b None None)
      both true = refl
      both false = refl
  removed_holds (r ∷ m) p q = go (removed_holds m p q) (equal p r.prefix) refl
    where
      go : held (removed m p) q ≡ cond (equal q p) None (held m q) → (b : Bool) → equal p r.prefix ≡ b → held (cond b (removed m p) (r ∷ removed m p)) q ≡ cond (equal q p) None (held (r ∷ m) q)
      go ih true e = ih ∙ rw (← equal_is p r.prefix e) (over (equal q p))
        where
          over : (b : Bool) → cond b None (held m q) ≡ cond b None (cond b (Some r.value) (held m q))
          over true = refl
          over false = refl
      go ih false e = rw ih (elim (cases_Bool (equal q p)) [ inl f ↦ first f | inr f ↦ rw f refl ])
        where
          first : equal q p ≡ true → cond (equal q r.prefix) (Some r.value) (cond (equal q p) None (held m q)) ≡ cond (equal q p) None (cond (equal q r.prefix) (Some r.value) (held m q))
          first f =
              let g : equal q r.prefix ≡ false = ap (λ t. equal t r.prefix) (equal_is q p f) ∙ e in
              rw (g, f) refl

  -- a prefix before all that a map holds is not held
  pub above_none : (p : Bits) (m : Map V) → Above p m → held m p ≡ None
  above_none p [] h = refl
  above_none p (r ∷ m) h = rw (not_equal p r.prefix h.0) (above_none p m h.1)

  pub held_head : (r : Route V) (m : Map V) → held (r ∷ m) r.prefix ≡ Some r.value
  held_head r m = rw (equal_self r.prefix) refl

  pub none≢some : (v : V) → None ≡ Some v → ⊥
  none≢some v e = let z : ◌≡◌ {A = ℕ} 0 1 = cc in omega arith

  pub extensional : (m n : Map V) → Rising m → Rising n → ((p : Bits) → held m p ≡ held n p) → m ≡ n
  extensional [] [] g h e = refl
  extensional [] (s ∷ n) g h e = absurd (none≢some s.value (e s.prefix ∙ held_head s n))
  extensional (r ∷ m) [] g h e = absurd (none≢some r.value (sym (e r.prefix) ∙ held_head r m))
  extensional (r ∷ m) (s ∷ n) g h e = go (extensional m n g.1 h.1) (order r.prefix s.prefix) refl
    where
      absent : (t : Route V) (l : Map V) (p : Bits) → order p t.prefix ≡ before → Above t.prefix l → held (t ∷ l) p ≡ None
      absent t l p f a = above_none p (t ∷ l) (f, above_trans p t.prefix l f a)

      tails : r.prefix ≡ s.prefix → r.value ≡ s.value → (p : Bits) → held m p ≡ held n p
      tails f v p = elim (cases_Bool (equal p r.prefix)) [
        | inl t ↦ (let q : p ≡ r.prefix = equal_is p r.prefix t in
            rw (q, above_none r.prefix m g.0, f) (sym (above_none s.prefix n h.0)))
        | inr t ↦ (let a : held (r ∷ m) p ≡ held m p = rw t refl in
            let b : held (s ∷ n) p ≡ held n p = rw (← f, t) refl in
            sym a ∙ e p ∙ b)
      ]

      go : (((p : Bits) → held m p ≡ held n p) → m ≡ n) → (o : Order) → order r.prefix s.prefix ≡ o → r ∷ m ≡ s ∷ n
      go ih before f = absurd (none≢some r.value (sym (absent s n r.prefix f h.0) ∙ sym (e r.prefix) ∙ held_head r m))
      go ih after f = absurd (none≢some s.value (sym (absent r m s.prefix (flip_after r.prefix s.prefix f) g.0) ∙ e s.prefix ∙ held_head s n))
      go ih same f =
          let q : r.prefix ≡ s.prefix = same_is r.prefix s.prefix f in
          let u : Some r.value ≡ Some s.value = sym (held_head r m) ∙ e r.prefix ∙ ap (held (s ∷ n)) q ∙ held_head s n in
          let v : r.value ≡ s.value = cc in
          let x : r ≡ s = λ i. record { prefix = q i; value = v i } in
          let y : m ≡ n = ih (tails q v) in
          cc

pub map_laws : (V : Type 0) → MapLaws V
map_laws V = record {
  put_rises = put_rises;
  removed_rises = removed_rises;
  put_holds = put_holds;
  removed_holds = removed_holds;
  extensional = extensional;
}
