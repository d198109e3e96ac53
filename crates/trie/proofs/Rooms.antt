-- The trie has a node for each route and each branch of what it holds, and no other.
use Rattle.std.proofs.Common.{◌≡◌, ℕ, zero, suc, ◌+◌, ◌<◌, ◌≤◌, Bool, true, false, ◌≢◌, ◌⊎◌, ◌↔◌, List, [], ◌∷◌, length, get_or, take, Some, None, Option, sym, refl, ap, ◌∙◌, subst, inl, inr, suc-le-suc, le_of_suc-le-suc, not-suc-le-zero, lt_irrefl, arith}
use Rattle.std.specs.List.{AllByRecursion}
use Rattle.std.proofs.lemmas.Bool.{cases_lt, cases_eq, cond-true, cond-false, cond_both, true≢false, false≢true}
use Rattle.std.proofs.lemmas.List.{ext_get_or, length-map, length-take-le}
use Rattle.bits.specs.Bits.{Bits, equal}
use Rattle.bits.specs.declared.halves.Halves.{Halves}
use Rattle.model.specs.Maps.{Visible}
use Rattle.model.specs.Room.{Held, Beneath, Branch, In, Distinct, Fits, nodes}
use Rattle.model.proofs.RoomLaws.{counts}
use Rattle.model.proofs.Members.{all_in}
use Rattle.trie.specs.declared.node.Node.{Node}
use Rattle.trie.specs.Nodes.{at, node_bit, key, child, unlinked, entries, holds, altered}
use Rattle.trie.specs.Trie.{Agree, Under, Beyond, Compressed}
use Rattle.trie.specs.Search.{Found}
use Rattle.trie.specs.Well.{prefixes}
use Rattle.trie.proofs.Nodes.{under_refl, under_trans, beyond_under, beyond_further}
use Rattle.trie.proofs.Keys.{equal_eq, equal_ne, key_at, key_length, key_size, key_agree, holds_none, holds_some, slot_of, only, found_none, collected_rises}
use Rattle.trie.proofs.Beneath.{bit_of, Below, beneath_below, below_beneath}

-- one of the first u slots has this prefix
abbrev pub HasSlot : (ℕ → Node) → ℕ → Bits → Type 0
HasSlot f u p = (i : ℕ) × (i < u) × (key (f i) ≡ p)

prefixes_length : (u : ℕ) (ns : List Node) → u ≤ length ns → length (prefixes u ns) ≡ u
prefixes_length u ns l = length-map (take u ns) key ∙ length-take-le u ns l

pub in_prefixes : (u : ℕ) (ns : List Node) (p : Bits) → u ≤ length ns → In p (prefixes u ns) → HasSlot (at ns) u p
in_prefixes zero ns p l i = elim i [ ]
in_prefixes (suc u) [] p l i = absurd (not-suc-le-zero l)
in_prefixes (suc u) (n ∷ ns) p l (inl e) = (0, omega arith, sym e)
in_prefixes (suc u) (n ∷ ns) p l (inr i) = let r = in_prefixes u ns p (le_of_suc-le-suc l) i in (suc r.0, suc-le-suc r.1, r.2)

pub prefixes_in : (u : ℕ) (ns : List Node) (p : Bits) → u ≤ length ns → HasSlot (at ns) u p → In p (prefixes u ns)
prefixes_in zero ns p l r = absurd (not-suc-le-zero r.1)
prefixes_in (suc u) [] p l r = absurd (not-suc-le-zero l)
prefixes_in (suc u) (n ∷ ns) p l (zero, h, e) = inl (sym e)
prefixes_in (suc u) (n ∷ ns) p l (suc i, h, e) = inr (prefixes_in u ns p (le_of_suc-le-suc l) (i, le_of_suc-le-suc h, e))

prefixes_distinct : (u : ℕ) (ns : List Node) → u ≤ length ns → ((i j : ℕ) → i < u → j < u → key (at ns i) ≡ key (at ns j) → i ≡ j) → Distinct (prefixes u ns)
prefixes_distinct zero ns l h = tt
prefixes_distinct (suc u) [] l h = tt
prefixes_distinct (suc u) (n ∷ ns) l h = (
  (λ i. let r = in_prefixes u ns (key n) (le_of_suc-le-suc l) i in let z : suc r.0 ≡ 0 = h (suc r.0) 0 (suc-le-suc r.1) (omega arith) r.2 in omega arith),
  prefixes_distinct u ns (le_of_suc-le-suc l) (λ i j p q e. let z : suc i ≡ suc j = h (suc i) (suc j) (suc-le-suc p) (suc-le-suc q) e in omega arith),
)

some_hop : (o : Option Halves) → (o ≡ None) ⊎ (o ≡ None → ⊥)
some_hop None = inl refl
some_hop (Some h) = inr (λ e. let z : ◌≡◌ {A = ℕ} 0 1 = cc in omega arith)

below_nodes : (s : Bool) (a b : Node) → a.prefix.len ≤ 128 → b.prefix.len ≤ 128 → Beyond s a b → Beneath (key a) s (key b)
below_nodes s a b p q r =
    let la : length (key a) ≡ a.prefix.len = key_length a p in
    let lb : length (key b) ≡ b.prefix.len = key_length b q in
    below_beneath (key a) (key b) s (record {
      long = omega (arith, r.long);
      same = λ k h. key_at a k p (omega arith) ∙ r.same k (omega arith) ∙ sym (key_at b k q (omega (arith, r.long)));
      side = subst (λ (n : ℕ). bit_of (key b) n ≡ s) (sym la) (key_at b a.prefix.len q r.long ∙ r.side);
    })

module _ (ns : List Node) (u : ℕ) (g : Compressed ns u) where
  bits_at : (i k : ℕ) → i < u → k < (at ns i).prefix.len → bit_of (key (at ns i)) k ≡ node_bit (at ns i) k
  bits_at i k h l = key_at (at ns i) k (g.trie.short i h) l

  -- a slot for each route
  pub route_slot : (p : Bits) → Held (holds ns u) p → HasSlot (at ns) u p
  route_slot p r = elim (slot_of (at ns) u p) [ inl z ↦ z | inr z ↦ absurd (r (holds_none ns u g.within p z)) ]

  -- slots a and b part after n bits: a slot has those n bits
  meet : (n a b : ℕ) → a < u → b < u → n < (at ns a).prefix.len → n < (at ns b).prefix.len → Agree n (node_bit (at ns a)) (node_bit (at ns b)) → node_bit (at ns a) n ≢ node_bit (at ns b) n
      → (fuel i : ℕ) → i < u → Under (at ns i) (at ns a) → Under (at ns i) (at ns b) → n < (at ns i).prefix.len + fuel → (k : ℕ) × (k < u) × ((at ns k).prefix.len ≡ n) × Under (at ns k) (at ns a)
  meet n a b ha hb la lb same ne zero i hi p q f = absurd (ne (sym (p.same n (omega arith)) ∙ q.same n (omega arith)))
  meet n a b ha hb la lb same ne (suc fuel) i hi p q f = elim (cases_lt n (at ns i).prefix.len) [
    | inl l ↦ absurd (ne (sym (p.same n l) ∙ q.same n l))
    | inr l ↦ (elim (cases_eq (at ns i).prefix.len n) [
      | inl e ↦ (i, hi, e, p)
      | inr e ↦ (let s : Bool = node_bit (at ns a) (at ns i).prefix.len in
          let ka : (child s (at ns i) < u) × Under (at ns (child s (at ns i))) (at ns a) = g.trie.full s i a hi ha (record { long = omega arith; same = p.same; side = refl }) in
          let kb : (child s (at ns i) < u) × Under (at ns (child s (at ns i))) (at ns b) = g.trie.full s i b hi hb (record { long = omega arith; same = q.same; side = sym (same (at ns i).prefix.len (omega arith)) }) in
          let d : Beyond s (at ns i) (at ns (child s (at ns i))) = (g.trie.kid s i hi (λ z. lt_irrefl 65535 (omega (arith, ka.0, z, g.trie.few)))).1 in
          meet n a b ha hb la lb same ne fuel (child s (at ns i)) ka.0 ka.1 kb.1 (omega (arith, d.long)))
    ])
  ]

  -- a slot for each branch
  branch_slot : (p : Bits) → Branch (holds ns u) p → HasSlot (at ns) u p
  branch_slot p r = (m.0, m.1, ext_get_or false (key (at ns m.0)) p size (λ k h. agree k (omega (arith, h, size))))
    where
      q0 : Bits
      q0 = (r.sides false).0

      q1 : Bits
      q1 = (r.sides true).0

      b0 : Below false p (r.sides false).0
      b0 = beneath_below p (r.sides false).0 false (r.sides false).2

      b1 : Below true p (r.sides true).0
      b1 = beneath_below p (r.sides true).0 true (r.sides true).2

      z : HasSlot (at ns) u (r.sides false).0
      z = route_slot (r.sides false).0 (r.sides false).1

      o : HasSlot (at ns) u (r.sides true).0
      o = route_slot (r.sides true).0 (r.sides true).1

      lz : (at ns z.0).prefix.len ≡ length (r.sides false).0
      lz = sym (key_length (at ns z.0) (g.trie.short z.0 z.1)) ∙ ap length z.2

      lo : (at ns o.0).prefix.len ≡ length (r.sides true).0
      lo = sym (key_length (at ns o.0) (g.trie.short o.0 o.1)) ∙ ap length o.2

      wz : (k : ℕ) → k < (at ns z.0).prefix.len → node_bit (at ns z.0) k ≡ bit_of (r.sides false).0 k
      wz k h = sym (bits_at z.0 k z.1 h) ∙ ap (λ (l : Bits). bit_of l k) z.2

      wo : (k : ℕ) → k < (at ns o.0).prefix.len → node_bit (at ns o.0) k ≡ bit_of (r.sides true).0 k
      wo k h = sym (bits_at o.0 k o.1 h) ∙ ap (λ (l : Bits). bit_of l k) o.2

      gz : length p < (at ns z.0).prefix.len
      gz = omega (arith, lz, b0.long)

      go : length p < (at ns o.0).prefix.len
      go = omega (arith, lo, b1.long)

      m : (k : ℕ) × (k < u) × ((at ns k).prefix.len ≡ length p) × Under (at ns k) (at ns z.0)
      m = meet (length p) z.0 o.0 z.1 o.1 gz go
          (λ k h. wz k (omega (arith, gz, h)) ∙ sym (b0.same k h) ∙ b1.same k h ∙ sym (wo k (omega (arith, go, h))))
          (λ e. false≢true (sym (wz (length p) gz ∙ b0.side) ∙ e ∙ wo (length p) go ∙ b1.side))
          (suc (length p)) 0 (omega (arith, z.1)) (g.trie.top z.0 z.1) (g.trie.top o.0 o.1) (omega arith)

      size : length (key (at ns m.0)) ≡ length p
      size = key_length (at ns m.0) (g.trie.short m.0 m.1) ∙ m.2

      agree : (k : ℕ) → k < length p → get_or (key (at ns m.0)) k false ≡ get_or p k false
      agree k h = bits_at m.0 k m.1 (omega (arith, m.2)) ∙ m.3.same k (omega (arith, m.2)) ∙ wz k (omega (arith, gz, h)) ∙ sym (b0.same k h)

  -- each slot has a route at or beneath it
  route_under : (fuel i : ℕ) → i < u → 128 < (at ns i).prefix.len + fuel → (j : ℕ) × (j < u) × ((at ns j).hop ≡ None → ⊥) × Under (at ns i) (at ns j)
  route_under zero i h f = absurd (lt_irrefl 128 (omega (arith, g.trie.short i h)))
  route_under (suc fuel) i h f = elim (some_hop (at ns i).hop) [
    | inr s ↦ (i, h, s, under_refl (at ns i))
    | inl e ↦ (let k : (child false (at ns i) < u) × Beyond false (at ns i) (at ns (child false (at ns i))) = g.trie.kid false i h (g.forks i h e false) in
        let r : (j : ℕ) × (j < u) × ((at ns j).hop ≡ None → ⊥) × Under (at ns (child false (at ns i))) (at ns j) = route_under fuel (child false (at ns i)) k.0 (omega (arith, k.1.long)) in
        (r.0, r.1, r.2, under_trans (at ns i) (at ns (child false (at ns i))) (at ns r.0) (beyond_under false (at ns i) (at ns (child false (at ns i))) k.1) r.3))
  ]

  -- what the trie holds at a slot's prefix
  pub slot_holds : (i : ℕ) → i < u → holds ns u (key (at ns i)) ≡ (at ns i).hop
  slot_holds i h = holds_some ns u g.within (key (at ns i)) i h refl (λ j hj e. only (at ns) u g.trie (key (at ns i)) i j h hj refl e)

  pub distinct : Distinct (prefixes u ns)
  distinct = prefixes_distinct u ns g.within (λ i j hi hj e. only (at ns) u g.trie (key (at ns j)) j i hj hi refl e)

  -- in a map with all these routes each slot is a route, or where its prefix is not held a branch
  module _ (m : Visible Halves) (routes : (j : ℕ) → j < u → ((at ns j).hop ≡ None → ⊥) → Held m (key (at ns j))) where
    pub slot_counts : (i : ℕ) → i < u → Held m (key (at ns i)) ⊎ Branch m (key (at ns i))
    slot_counts i h = elim (some_hop (m (key (at ns i)))) [ inr s ↦ inl s | inl e ↦ inr (record { absent = e; sides = λ s. side s e (elim (some_hop (at ns i).hop) [ inl n ↦ n | inr n ↦ absurd (routes i h n e) ]) }) ]
      where
        side : (s : Bool) → m (key (at ns i)) ≡ None → (at ns i).hop ≡ None → (q : Bits) × Held m q × Beneath (key (at ns i)) s q
        side s e n =
            let c : (child s (at ns i) < u) × Beyond s (at ns i) (at ns (child s (at ns i))) = g.trie.kid s i h (g.forks i h n s) in
            let r : (j : ℕ) × (j < u) × ((at ns j).hop ≡ None → ⊥) × Under (at ns (child s (at ns i))) (at ns j) = route_under 129 (child s (at ns i)) c.0 (omega arith) in
            (key (at ns r.0), routes r.0 r.1 r.2, below_nodes s (at ns i) (at ns r.0) (g.trie.short i h) (g.trie.short r.0 r.1) (beyond_further s (at ns i) (at ns (child s (at ns i))) (at ns r.0) c.1 r.3))

    -- and so are these, besides one more
    pub prefixes_count : (p : Bits) → In p (prefixes u ns) → Held m p ⊎ Branch m p
    prefixes_count p i = let r = in_prefixes u ns p g.within i in subst (λ (q : Bits). Held m q ⊎ Branch m q) r.2 (slot_counts r.0 r.1)

  -- the nodes in use are exactly those of the routes and branches
  pub exact : (p : Bits) → In p (prefixes u ns) ↔ (Held (holds ns u) p ⊎ Branch (holds ns u) p)
  exact p = (
    prefixes_count (holds ns u) (λ j h s e. s (sym (slot_holds j h) ∙ e)) p,
    (λ w. prefixes_in u ns p g.within (elim w [ inl r ↦ route_slot p r | inr b ↦ branch_slot p b ])),
  )

  pub nodes_used : nodes (entries u ns) ≡ u
  nodes_used = sym (counts (entries u ns) (collected_rises (take u ns)) (prefixes u ns) distinct exact) ∙ prefixes_length u ns g.within

  -- with the route of k
  module _ (k : Node) (short : k.prefix.len ≤ 128) (some : k.hop ≡ None → ⊥) where
    abbrev after_map : Visible Halves
    after_map = altered (holds ns u) (key k) k.hop

    route_k : Held after_map (key k)
    route_k e = some (sym (cond-true (equal (key k) (key k)) k.hop (holds ns u (key k)) (equal_eq (key k) (key k) refl)) ∙ e)

    route_stays : (j : ℕ) → j < u → ((at ns j).hop ≡ None → ⊥) → Held after_map (key (at ns j))
    route_stays j h s = cond_both (equal (key k) (key (at ns j))) k.hop (holds ns u (key (at ns j))) (λ (o : Option Halves). o ≡ None → ⊥) (λ _. some) (λ _ e. s (sym (slot_holds j h) ∙ e))

    all_count : AllByRecursion (λ p. Held after_map p ⊎ Branch after_map p) (prefixes u ns)
    all_count = all_in (λ p. Held after_map p ⊎ Branch after_map p) (prefixes u ns) (prefixes_count after_map route_stays)

    -- a new prefix wants one slot more
    pub wants_one : (room : ℕ) → ((j : ℕ) → j < u → key (at ns j) ≡ key k → ⊥) → Fits room after_map → u < room
    wants_one room new f =
        let n : length (prefixes u ns) ≡ u = prefixes_length u ns g.within in
        omega (arith, f (key k ∷ prefixes u ns) ((λ i. let r = in_prefixes u ns (key k) g.within i in new r.0 r.1 r.2), distinct) (inl route_k, all_count))

    -- where it parts from slot i after c bits, two
    pub wants_two : (room i c : ℕ) → Found (at ns) u k i c → c < (at ns i).prefix.len → c < k.prefix.len → Fits room after_map → suc u < room
    wants_two room i c r l m f =
        let n : length (prefixes u ns) ≡ u = prefixes_length u ns g.within in
        omega (arith, f (key k ∷ (key B ∷ prefixes u ns)) (apart, (none_in, distinct)) (inl route_k, (inr (record { absent = no_route; sides = forks }), all_count)))
      where
        B : Node
        B = unlinked (record { bits = k.prefix.bits; len = c }) None

        k_B : key k ≡ key B → ⊥
        k_B e = lt_irrefl c (omega (arith, key_size k B short (omega arith) e))

        none : (j : ℕ) → j < u → key (at ns j) ≡ key B → ⊥
        none j h e =
            let size : (at ns j).prefix.len ≡ c = key_size (at ns j) B (g.trie.short j h) (omega arith) e in
            let a : Agree (at ns j).prefix.len (node_bit (at ns j)) (node_bit k) = key_agree (at ns j) B (g.trie.short j h) (omega arith) e in
            omega (arith, (r.below j h (omega arith) (λ x q. a x (omega arith))).long)

        none_in : In (key B) (prefixes u ns) → ⊥
        none_in i = let w = in_prefixes u ns (key B) g.within i in none w.0 w.1 w.2

        apart : In (key k) (key B ∷ prefixes u ns) → ⊥
        apart (inl e) = k_B e
        apart (inr e) = let w = in_prefixes u ns (key k) g.within e in found_none (at ns) u g.trie k i c short r (λ z. lt_irrefl c (omega (arith, l, z.0))) w.0 w.1 w.2

        no_route : after_map (key B) ≡ None
        no_route = cond-false (equal (key k) (key B)) k.hop (holds ns u (key B)) (equal_ne (key k) (key B) k_B) ∙ holds_none ns u g.within (key B) none

        forks : (s : Bool) → (q : Bits) × Held after_map q × Beneath (key B) s q
        forks s = elim (two_sides s (node_bit k c)) [
          | inl e ↦ (key k, route_k, below_nodes s B k (omega arith) short (record { long = m; same = λ x q. refl; side = sym e }))
          | inr e ↦ (let w : (j : ℕ) × (j < u) × ((at ns j).hop ≡ None → ⊥) × Under (at ns i) (at ns j) = route_under 129 i r.slot (omega arith) in (
            key (at ns w.0),
            route_stays w.0 w.1 w.2,
            below_nodes s B (at ns w.0) (omega arith) (g.trie.short w.0 w.1)
                (record { long = omega (arith, w.3.long); same = λ x q. sym (r.shared.same x q) ∙ w.3.same x (omega arith); side = sym (w.3.same c l) ∙ other s (node_bit k c) (node_bit (at ns i) c) e (r.shared.differ l m) }),
          ))
        ]
          where
            two_sides : (a b : Bool) → (a ≡ b) ⊎ (a ≢ b)
            two_sides true true = inl refl
            two_sides true false = inr true≢false
            two_sides false true = inr false≢true
            two_sides false false = inl refl

            other : (a b c : Bool) → a ≢ b → c ≢ b → c ≡ a
            other true true c p q = absurd (p refl)
            other true false true p q = refl
            other true false false p q = absurd (q refl)
            other false true true p q = absurd (q refl)
            other false true false p q = refl
            other false false c p q = absurd (p refl)
