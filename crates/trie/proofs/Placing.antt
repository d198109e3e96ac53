-- The four ways of an announcement.
use Rattle.std.proofs.Common.{◌≡◌, ℕ, suc, ◌<◌, ◌≤◌, Bool, true, false, ◌≢◌, List, length, set, Some, None, Option, sym, refl, ap, ◌∙◌, subst, inl, inr, le_refl, not-suc-le-zero, lt_irrefl, arith, lit≤, length-set, get_or-set_same}
use mathlib.Core.Path.{fun_ext}
use Rattle.trie.proofs.Nodes.{under_refl}
use Rattle.std.proofs.lemmas.Bool.{cond_both}
use Rattle.trie.specs.declared.node.Node.{Node}
use Rattle.bits.specs.Bits.{equal}
use Rattle.bits.specs.declared.halves.Halves.{Halves}
use Rattle.model.specs.Maps.{Visible}
use Rattle.trie.specs.Nodes.{node_bit, link, child, with_child, with_hop, at, blank, key, holds, altered}
use Rattle.trie.specs.Trie.{Agree, Under, Beyond, Trie, Leaf, Compressed}
use Rattle.trie.specs.Search.{Found}
use Rattle.trie.specs.Changes.{with_leaf, with_split, Placed}
use Rattle.bits.proofs.Orders.{equal_is}
use Rattle.trie.proofs.Keys.{key_same, key_size, key_agree, holds_none}
use Rattle.trie.proofs.Grow.{each, after, after_i, child_with, leaf_child, sure_leaf, linked_trie, split_trie}
use Rattle.trie.proofs.Maps.{regrown, linked_holds, split_holds, hop_each, hop_trie, hop_holds}

no_third : (a b c : Bool) → a ≢ b → a ≢ c → b ≢ c → ⊥
no_third true true c p q r = p refl
no_third false false c p q r = p refl
no_third true false true p q r = q refl
no_third true false false p q r = r refl
no_third false true true p q r = r refl
no_third false true false p q r = q refl

-- no prefix is held where m has none already
put_none : (m : Visible Halves) (p : List Bool) → m p ≡ None → altered m p None ≡ m
put_none m p e = fun_ext (λ q. cond_both (equal p q) None (m q) (λ (h : Option Halves). h ≡ m q) (λ t. sym e ∙ ap m (equal_is p q t)) (λ t. refl))

-- the branches after a leaf x is put under slot i
link_forks : (ns : List Node) (u i : ℕ) (s : Bool) (x : Node) → i < u → u < length ns → u < 65535 → (x.hop ≡ None → ⊥)
    → ((j : ℕ) → j < u → j ≢ i → (at ns j).hop ≡ None → (b : Bool) → child b (at ns j) ≢ 65535)
    → ((at ns i).hop ≡ None → (b : Bool) → b ≢ s → child b (at ns i) ≢ 65535)
    → (j : ℕ) → j < suc u → (at (with_leaf ns u i s x) j).hop ≡ None → (b : Bool) → child b (at (with_leaf ns u i s x) j) ≢ 65535
unfolding after
link_forks ns u i s x iu ul few some rest here = each ns u i x (with_child s (at ns i) (Some u)) iu ul (λ (j : ℕ) (n : Node). n.hop ≡ None → (b : Bool) → child b n ≢ 65535)
    (λ e b. elim (child_with b s (at ns i) (Some u)) [ inl p ↦ (λ z. omega (arith, p.1, z, few)) | inr p ↦ (λ z. here e b p.0 (sym p.1 ∙ z)) ])
    (λ e b. absurd (some e))
    rest

placed : (ns : List Node) (u room : ℕ) (k : Node) (ms : List Node) (v : ℕ) → Compressed ms v → v ≤ room → holds ms v ≡ altered (holds ns u) (key k) k.hop → Placed ns u room k ms v
placed ns u room k ms v g f m = record { good = g; fits = f; map = m }

-- the first node of all
module _ (ns : List Node) (room : ℕ) (g : Compressed ns 0) (k : Node) (short : k.prefix.len ≤ 128) (leaf : Leaf k) (some : k.hop ≡ None → ⊥) (l : 0 < length ns) (rl : 0 < room) where
  first : at (set ns 0 k) 0 ≡ k
  first = get_or-set_same ns 0 k blank l

  single : (P : ℕ → Node → Type 0) → P 0 k → (j : ℕ) → j < 1 → P j (at (set ns 0 k) j)
  single P p j h = let e : j ≡ 0 = omega arith in subst (λ (i : ℕ). P i (at (set ns 0 k) i)) (sym e) (subst (P 0) (sym first) p)

  first_trie : Trie (at (set ns 0 k)) 1
  first_trie = record {
    few = lit≤ tt;
    short = single (λ j n. n.prefix.len ≤ 128) short;
    top = single (λ j n. Under (at (set ns 0 k) 0) n) (subst (λ (n : Node). Under n k) (sym first) (under_refl k));
    sure = λ b. single (λ j n. link b n ≢ Some 65535) (sure_leaf b k leaf);
    kid = λ b. single (λ j n. child b n ≢ 65535 → (child b n < 1) × Beyond b n (at (set ns 0 k) (child b n))) (λ ne. absurd (ne (leaf_child b k leaf)));
    full = λ b i j hi hj r. let e : i ≡ j = omega arith in absurd (lt_irrefl _ (subst (λ (n : ℕ). (at (set ns 0 k) i).prefix.len < (at (set ns 0 k) n).prefix.len) (sym e) r.long));
    apart = λ i j hi hj e a. omega arith;
  }

  pub way_first : Placed ns 0 room k (set ns 0 k) 1
  way_first = placed _ _ _ _ _ _
      (record { within = rw length-set l; trie = first_trie; forks = single (λ j n. n.hop ≡ None → (b : Bool) → child b n ≢ 65535) (λ z b. absurd (some z)) })
      rl
      (regrown ns (set ns 0 k) 0 1 (omega arith) (rw length-set l) g.trie first_trie (key k) k.hop 0 (le_refl _) (ap key first) (ap (λ (n : Node). n.hop) first)
      (λ j h. absurd (not-suc-le-zero h)) (single (λ j n. (key n ≡ key k → ⊥) → (i : ℕ) × (i < 0) × (key (at ns i) ≡ key n)) (λ ne. absurd (ne refl))))

module _ (ns : List Node) (u room : ℕ) (g : Compressed ns u) (fits : u ≤ room) (k : Node) (short : k.prefix.len ≤ 128) (leaf : Leaf k) (some : k.hop ≡ None → ⊥) (i c : ℕ) (r : Found (at ns) u k i c) where
  pub way_exact : c ≡ (at ns i).prefix.len → c ≡ k.prefix.len → Placed ns u room k (set ns i (with_hop (at ns i) k.hop)) u
  way_exact e f = placed _ _ _ _ _ _
      (record {
        within = rw length-set g.within;
        trie = hop_trie ns u i k.hop r.slot g.within g.trie;
        forks = λ j h. hop_each ns u i k.hop r.slot g.within g.trie (λ (j : ℕ) (n : Node). j < u → n.hop ≡ None → (b : Bool) → child b n ≢ 65535) (λ h z b. absurd (some z)) (λ j ni h. g.forks j h) j h;
      })
      fits
      (hop_holds ns u i k.hop r.slot g.within g.trie ∙ ap (λ (p : List Bool). altered (holds ns u) p k.hop) (key_same (at ns i) k (g.trie.short i r.slot) (sym e ∙ f) (λ m h. r.shared.same m (omega arith))))

  pub way_leaf : u < room → room ≤ length ns → room ≤ 65535 → c ≡ (at ns i).prefix.len → c < k.prefix.len → Placed ns u room k (with_leaf ns u i (node_bit k c) k) (suc u)
  way_leaf ur rl rf e l = placed _ _ _ _ _ _
      (record {
        within = rw (length-set, length-set) (omega arith);
        trie = trie;
        forks = link_forks ns u i (node_bit k c) k r.slot (omega arith) (omega arith) some (λ j h ni. g.forks j h) (λ z b nb. g.forks i r.slot z b);
      })
      ur
      (linked_holds ns u i (node_bit k c) k r.slot (omega arith) g.trie trie)
    where
      trie : Trie (at (with_leaf ns u i (node_bit k c) k)) (suc u)
      trie = linked_trie ns u i (node_bit k c) k r.slot (omega arith) (omega arith) g.trie leaf short (r.stop e l)
          (record { long = omega arith; same = λ m h. r.shared.same m (omega arith); side = ap (node_bit k) (sym e) })

  pub way_above : u < room → room ≤ length ns → room ≤ 65535 → c < (at ns i).prefix.len → c ≡ k.prefix.len → Placed ns u room k (with_split ns u i (node_bit (at ns i) c) k) (suc u)
  unfolding after
  way_above ur rl rf l e = placed _ _ _ _ _ _
      (record {
        within = rw (length-set, length-set) (omega arith);
        trie = trie;
        forks = each ns u i (at ns i) (with_child (node_bit (at ns i) c) k (Some u)) r.slot (omega arith) (λ (j : ℕ) (n : Node). n.hop ≡ None → (b : Bool) → child b n ≢ 65535)
            (λ z b. absurd (some z)) (g.forks i r.slot) (λ j h ni. g.forks j h);
      })
      ur
      (split_holds ns u i (node_bit (at ns i) c) k r.slot (omega arith) g.trie trie)
    where
      trie : Trie (at (with_split ns u i (node_bit (at ns i) c) k)) (suc u)
      trie = split_trie ns u i (node_bit (at ns i) c) k r.slot (omega arith) (omega arith) g.trie leaf short
          (record { long = omega arith; same = λ m h. sym (r.shared.same m (omega arith)); side = ap (node_bit (at ns i)) (sym e) })
          (λ j h q a. omega (arith, r.above j h q a))
          (λ j h q a. r.below j h (omega arith) (λ m z. a m (omega arith)))

  -- the branch above slot i and the new leaf
  abbrev pub branch : Node
  branch = record { prefix = record { bits = k.prefix.bits; len = c }; hop = None; left = None; right = None }

  pub way_fork : suc u < room → room ≤ length ns → room ≤ 65535 → c < (at ns i).prefix.len → c < k.prefix.len → Placed ns u room k (with_leaf (with_split ns u i (node_bit (at ns i) c) branch) (suc u) i (node_bit k c) k) (suc (suc u))
  unfolding after
  way_fork ur rl rf l m = placed _ _ _ _ _ _
      (record {
        within = rw (length-set, length-set, length-set, length-set) (omega arith);
        trie = trie2;
        forks = link_forks ns1 (suc u) i s2 k iu1 ul1 (omega arith) some
            (each ns u i (at ns i) (with_child s1 branch (Some u)) r.slot (omega arith) (λ (j : ℕ) (n : Node). j ≢ i → n.hop ≡ None → (b : Bool) → child b n ≢ 65535)
            (λ ni. absurd (ni refl)) (λ _. g.forks i r.slot) (λ j h ni _. g.forks j h))
            (λ z b nb q. elim (child_with b s1 branch (Some u)) [ inl p ↦ omega (arith, sym p.1 ∙ ap (child b) (sym here) ∙ q) | inr p ↦ no_third b s1 s2 p.0 nb apart ]);
      })
      ur
      (linked_holds ns1 (suc u) i s2 k iu1 ul1 trie1 trie2 ∙ ap (λ (q : Visible Halves). altered q (key k) k.hop) (split_holds ns u i s1 branch r.slot (omega arith) g.trie trie1 ∙ put_none (holds ns u) (key branch) (holds_none ns u g.within (key branch) none)))
    where
      s1 : Bool
      s1 = node_bit (at ns i) c

      s2 : Bool
      s2 = node_bit k c

      apart : s1 ≢ s2
      apart = r.shared.differ l m

      ns1 : List Node
      ns1 = with_split ns u i (node_bit (at ns i) c) branch

      iu1 : i < suc u
      iu1 = omega (arith, r.slot)

      ul1 : suc u < length ns1
      ul1 = rw (length-set, length-set) (omega arith)

      trie1 : Trie (at ns1) (suc u)
      trie1 = split_trie ns u i s1 branch r.slot (omega arith) (omega arith) g.trie (record { left = refl; right = refl }) (omega arith)
          (record { long = l; same = λ m h. sym (r.shared.same m h); side = refl }) r.above r.below

      here : at ns1 i ≡ with_child s1 branch (Some u)
      here = after_i ns u i (at ns i) (with_child s1 branch (Some u)) r.slot (omega arith)

      trie2 : Trie (at (with_leaf ns1 (suc u) i s2 k)) (suc (suc u))
      trie2 = linked_trie ns1 (suc u) i s2 k iu1 ul1 (omega arith) trie1 leaf short
          (elim (child_with s2 s1 branch (Some u)) [ inl p ↦ absurd (apart (sym p.0)) | inr p ↦ ap (child s2) here ∙ p.1 ∙ leaf_child s2 branch (record { left = refl; right = refl }) ])
          (subst (λ (n : Node). Beyond s2 n k) (sym here) (record { long = m; same = λ m h. refl; side = refl }))

      none : (j : ℕ) → j < u → key (at ns j) ≡ key branch → ⊥
      none j h e =
          let size : (at ns j).prefix.len ≡ c = key_size (at ns j) branch (g.trie.short j h) (omega arith) e in
          let a : Agree (at ns j).prefix.len (node_bit (at ns j)) (node_bit k) = key_agree (at ns j) branch (g.trie.short j h) (omega arith) e in
          omega (arith, (r.below j h (omega arith) (λ m q. a m (omega arith))).long)

pub placed_at : (ns : List Node) (u room : ℕ) (k : Node) (ms ms' : List Node) (v v' : ℕ) → ms ≡ ms' → v ≡ v' → Placed ns u room k ms' v' → Placed ns u room k ms v
placed_at ns u room k ms ms' v v' e f p = subst (λ (l : List Node). Placed ns u room k l v) (sym e) (subst (λ (n : ℕ). Placed ns u room k ms' n) (sym f) p)
