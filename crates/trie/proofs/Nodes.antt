use Rattle.std.proofs.Common.{◌≡◌, ℕ, suc, ◌<◌, ◌≤◌, Bool, ◌≢◌, Some, None, Option, rules, sym, refl, ap, ◌∙◌, subst, inl, inr, le_refl, not-suc-le-zero, arith}
use Rattle.std.proofs.lemmas.Bool.{cases_lt}
use Rattle.std.specs.Option.{IsSome}
use Rattle.trie.specs.declared.node.Node.{Node}
use Rattle.trie.specs.Nodes.{node_bit, link, slot_of, child}
use Rattle.trie.specs.Trie.{Agree, Under, Beyond, Trie}
use Rattle.trie.specs.Search.{Shared, Found, Way}

-- a link leads to a slot
pub linked : (f : ℕ → Node) (u : ℕ) → Trie f u → (s : Bool) (i k : ℕ) → i < u → link s (f i) ≡ Some k → child s (f i) ≢ 65535
linked f u t s i k h e z = t.sure s i h (e ∙ ap Some (sym (ap slot_of e) ∙ z))

pub is_link : (o : Option ℕ) → slot_of o ≢ 65535 → IsSome o
is_link None n = absurd (n refl)
is_link (Some i) n = search rules

pub under_refl : (a : Node) → Under a a
under_refl a = record { long = le_refl _; same = λ k h. refl }

pub under_trans : (a b c : Node) → Under a b → Under b c → Under a c
under_trans a b c p q = record { long = omega (arith, p.long, q.long); same = λ k h. p.same k h ∙ q.same k (omega (arith, p.long)) }

-- what is strictly beneath
pub beyond_under : (s : Bool) (a b : Node) → Beyond s a b → Under a b
beyond_under s a b p = record { long = omega (arith, p.long); same = p.same }

pub beyond_further : (s : Bool) (a b c : Node) → Beyond s a b → Under b c → Beyond s a c
beyond_further s a b c p q = record {
  long = omega (arith, p.long, q.long);
  same = λ k h. p.same k h ∙ q.same k (omega (arith, p.long));
  side = sym (q.same a.prefix.len p.long) ∙ p.side;
}

module _ (f : ℕ → Node) (used : ℕ) (t : Trie f used) (key : Node) where
  pub way_start : 0 < used → Way f used key 0 0
  way_start h = record {
    slot = h;
    near = omega arith;
    far = omega arith;
    same = λ k p. absurd (not-suc-le-zero p);
    above = λ j p q a. omega (arith, (t.top j p).long);
    below = λ j p q a. t.top j p;
  }

  pub way_found : (i d c : ℕ) → Way f used key i d → Shared (f i) key c → (c ≡ (f i).prefix.len → c < key.prefix.len → child (node_bit key c) (f i) ≡ 65535) → Found f used key i c
  way_found i d c w s e = record {
    slot = w.slot;
    shared = s;
    above = λ j p q a. omega (arith, w.above j p q a, reach);
    below = λ j p q a. w.below j p (omega (arith, reach)) (λ k h. a k (omega (arith, reach)));
    stop = e;
  }
    where
      reach : d ≤ c
      reach = elim (cases_lt c d) [ inl l ↦ absurd (s.differ (omega (arith, w.near)) (omega (arith, w.far)) (w.same c l)) | inr l ↦ l ]

  -- one step down, from slot i to its child on the key's side
  pub way_step : (i d : ℕ) → Way f used key i d → Agree (f i).prefix.len (node_bit (f i)) (node_bit key) → (f i).prefix.len < key.prefix.len → child (node_bit key (f i).prefix.len) (f i) ≢ 65535
      → (Way f used key (child (node_bit key (f i).prefix.len) (f i)) (suc (f i).prefix.len)) × ((f i).prefix.len < (f (child (node_bit key (f i).prefix.len) (f i))).prefix.len)
  way_step i d w a l ne = (way, k.1.long)
    where
      s : Bool
      s = node_bit key (f i).prefix.len

      k : (child (node_bit key (f i).prefix.len) (f i) < used) × Beyond (node_bit key (f i).prefix.len) (f i) (f (child (node_bit key (f i).prefix.len) (f i)))
      k = t.kid (node_bit key (f i).prefix.len) i w.slot ne

      last : (n : Node) → Agree (f i).prefix.len (node_bit n) (node_bit key) → node_bit n (f i).prefix.len ≡ node_bit key (f i).prefix.len → Agree (suc (f i).prefix.len) (node_bit n) (node_bit key)
      last n b e j h = elim (cases_lt j (f i).prefix.len) [ inl q ↦ b j q | inr q ↦ (let z : j ≡ (f i).prefix.len = omega arith in subst (λ (m : ℕ). node_bit n m ≡ node_bit key m) (sym z) e) ]

      beneath : (j : ℕ) → suc (f i).prefix.len ≤ (f j).prefix.len → Agree (suc (f i).prefix.len) (node_bit (f j)) (node_bit key) → Beyond (node_bit key (f i).prefix.len) (f i) (f j)
      beneath j p b = record { long = p; same = λ m h. a m h ∙ sym (b m (omega arith)); side = b (f i).prefix.len (le_refl _) }

      way : Way f used key (child (node_bit key (f i).prefix.len) (f i)) (suc (f i).prefix.len)
      way = record {
        slot = k.0;
        near = k.1.long;
        far = l;
        same = last (f (child (node_bit key (f i).prefix.len) (f i))) (λ m h. sym (k.1.same m h) ∙ a m h) k.1.side;
        above = λ j p q b. elim (cases_lt (f i).prefix.len (f j).prefix.len) [ inl z ↦ absurd (not_lower j p q b z) | inr z ↦ omega arith ];
        below = λ j p q b. (t.full (node_bit key (f i).prefix.len) i j w.slot p (beneath j q b)).1;
      }
        where
          not_lower : (j : ℕ) → j < used → (f j).prefix.len < (f (child (node_bit key (f i).prefix.len) (f i))).prefix.len → Agree (f j).prefix.len (node_bit (f j)) (node_bit (f (child (node_bit key (f i).prefix.len) (f i)))) → (f i).prefix.len < (f j).prefix.len → ⊥
          not_lower j p q b z =
              let y : Beyond (node_bit key (f i).prefix.len) (f i) (f j) = record { long = z; same = λ m h. k.1.same m h ∙ sym (b m (omega arith)); side = b (f i).prefix.len z ∙ k.1.side } in
              omega (arith, (t.full (node_bit key (f i).prefix.len) i j w.slot p y).1.long)

  pub way_next : (i d c k : ℕ) → Way f used key i d → Shared (f i) key c → (f i).prefix.len ≤ c → c < key.prefix.len → k ≡ child (node_bit key c) (f i) → k ≢ 65535
      → (Way f used key k (suc (f i).prefix.len)) × ((f i).prefix.len < (f k).prefix.len)
  way_next i d c k w s g l q ne =
      let e : c ≡ (f i).prefix.len = omega (arith, s.left) in
      let z : k ≡ child (node_bit key (f i).prefix.len) (f i) = q ∙ ap (λ (m : ℕ). child (node_bit key m) (f i)) e in
      subst (λ (n : ℕ). (Way f used key n (suc (f i).prefix.len)) × ((f i).prefix.len < (f n).prefix.len)) (sym z)
      (way_step i d w (λ m h. s.same m (omega arith)) (omega arith) (λ y. ne (z ∙ y)))
