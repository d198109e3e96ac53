-- A lookup, step by step.
use Rattle.std.proofs.Common.{◌≡◌, ℕ, ◌<◌, ◌≤◌, ◌≢◌, ◌⊎◌, List, Some, None, Option, sym, ap, ◌∙◌, subst, inl, inr, lt_trans, lt_irrefl, arith}
use Rattle.std.proofs.lemmas.Bool.{cases_lt}
use Rattle.trie.specs.declared.node.Node.{Node}
use Rattle.trie.specs.Nodes.{at, node_bit, slot_of}
use Rattle.trie.specs.Trie.{Under, Beyond, Compressed}
use Rattle.trie.proofs.Nodes.{linked}
use Rattle.trie.specs.Search.{UpTo, Stepped, Reaches, First, Best, Scan}

module _ (ns : List Node) (u : ℕ) (g : Compressed ns u) (key : Node) where
  -- what covers the key and is strictly beneath slot i is on the key's side of it
  beyond : (i j : ℕ) → Under (at ns j) key → Under (at ns i) (at ns j) → (at ns i).prefix.len < (at ns j).prefix.len → Beyond (node_bit key (at ns i).prefix.len) (at ns i) (at ns j)
  beyond i j v p l = record { long = l; same = p.same; side = v.same (at ns i).prefix.len l }

  -- where there is no step, nothing that covers the key is strictly beneath
  step_none : (i : ℕ) → i < u → Stepped (at ns) key i None → (j : ℕ) → j < u → Under (at ns j) key → Under (at ns i) (at ns j) → (at ns i).prefix.len < (at ns j).prefix.len → ⊥
  step_none i hi (inl f) j h v p l = lt_irrefl key.prefix.len (omega (arith, f, l, v.long))
  step_none i hi (inr e) j h v p l = omega (arith, (g.trie.full (node_bit key (at ns i).prefix.len) i j hi h (beyond i j v p l)).0, ap slot_of e, g.trie.few)

  -- a step down
  module _ (i k : ℕ) (hi : i < u) (d : Stepped (at ns) key i (Some k)) where
    there : (k < u) × Beyond (node_bit key (at ns i).prefix.len) (at ns i) (at ns k)
    there = subst (λ (n : ℕ). (n < u) × Beyond (node_bit key (at ns i).prefix.len) (at ns i) (at ns n)) (ap slot_of d) (g.trie.kid (node_bit key (at ns i).prefix.len) i hi (linked (at ns) u g.trie _ i k hi d))

    pub longer : (at ns i).prefix.len < (at ns k).prefix.len
    longer = there.1.long

    step_some : (j : ℕ) → j < u → Under (at ns j) key → Under (at ns i) (at ns j) → (at ns i).prefix.len < (at ns j).prefix.len → Under (at ns k) (at ns j)
    step_some j h v p l = subst (λ (n : ℕ). Under (at ns n) (at ns j)) (ap slot_of d) (g.trie.full (node_bit key (at ns i).prefix.len) i j hi h (beyond i j v p l)).1

  -- a route beneath a branch is strictly beneath it
  strictly : (i j : ℕ) → i < u → j < u → (at ns i).hop ≡ None → (at ns j).hop ≢ None → Under (at ns i) (at ns j) → (at ns i).prefix.len < (at ns j).prefix.len
  strictly i j hi h e s p = elim (cases_lt (at ns i).prefix.len (at ns j).prefix.len) [
    | inl l ↦ l
    | inr l ↦ (let y : i ≡ j = g.trie.apart i j hi h (omega (arith, p.long)) p.same in absurd (s (ap (λ (k : ℕ). (at ns k).hop) (sym y) ∙ e)))
  ]

  -- branches are passed
  pub reach_next : (a i k : ℕ) → Reaches (at ns) u key a i → (at ns i).hop ≡ None → Stepped (at ns) key i (Some k) → Reaches (at ns) u key a k
  reach_next a i k x e d =
      let l : (at ns i).prefix.len < (at ns k).prefix.len = longer i k x.slot d in
      record { slot = (there i k x.slot d).0; lower = omega (arith, x.lower, l); rest = λ j h v s p. let q = x.rest j h v s p in step_some i k x.slot d j h v q (strictly i j x.slot h e s q) }

  pub reach_last : (a i : ℕ) → Reaches (at ns) u key a i → (at ns i).hop ≡ None → Stepped (at ns) key i None → First (at ns) u key a None
  reach_last a i x e d j h v s p = let q = x.rest j h v s p in step_none i x.slot d j h v q (strictly i j x.slot h e s q)

  -- slot i has a route, the first from slot a on
  module _ (a i : ℕ) (r : Option ℕ) (w : Scan (at ns) u key a r) (x : First (at ns) u key a (Some i)) where
    rest : (j : ℕ) → j < u → Under (at ns j) key → (at ns j).hop ≢ None → UpTo (at ns) r (at ns j).prefix.len ⊎ Under (at ns i) (at ns j)
    rest j h v s = elim (w.rest j h v s) [ inl p ↦ inl p | inr p ↦ inr (x.0.rest j h v s p) ]

    -- it does not cover the key
    pub scan_off : (Under (at ns i) key → ⊥) → Best (at ns) u key r
    scan_off off = record { covering = w.covering; longest = λ j h v s. elim (rest j h v s) [ inl p ↦ p | inr p ↦ absurd (off (under j p v)) ] }
      where
        under : (j : ℕ) → Under (at ns i) (at ns j) → Under (at ns j) key → Under (at ns i) key
        under j p v = record { long = omega (arith, p.long, v.long); same = λ k h. p.same k h ∙ v.same k (omega (arith, p.long)) }

    -- it does, and is the longest known
    module _ (v : Under (at ns i) key) where
      left : (j : ℕ) → j < u → Under (at ns j) key → (at ns j).hop ≢ None → ((at ns j).prefix.len ≤ (at ns i).prefix.len) ⊎ (Under (at ns i) (at ns j) × ((at ns i).prefix.len < (at ns j).prefix.len))
      left j h vj s = elim (cases_lt (at ns i).prefix.len (at ns j).prefix.len) [
        | inr l ↦ inl l
        | inl l ↦ elim (rest j h vj s)
            [ inr p ↦ inr (p, l) | inl p ↦ (let q : (at ns j).prefix.len < (at ns a).prefix.len = w.less _ p in absurd (lt_irrefl _ (lt_trans l (omega (arith, q, x.0.lower))))) ]
      ]

      pub scan_last : Stepped (at ns) key i None → Best (at ns) u key (Some i)
      scan_last d = record { covering = (x.0.slot, v, x.1); longest = λ j h vj s. elim (left j h vj s) [ inl l ↦ l | inr p ↦ absurd (step_none i x.0.slot d j h vj p.0 p.1) ] }

      pub scan_next : (k : ℕ) → Stepped (at ns) key i (Some k) → Scan (at ns) u key k (Some i)
      scan_next k d =
          let l : (at ns i).prefix.len < (at ns k).prefix.len = longer i k x.0.slot d in
          record {
            slot = (there i k x.0.slot d).0;
            covering = (x.0.slot, v, x.1);
            less = λ n p. omega (arith, p, l);
            rest = λ j h vj s. elim (left j h vj s) [ inl q ↦ inl q | inr p ↦ inr (step_some i k x.0.slot d j h vj p.0 p.1) ];
          }
