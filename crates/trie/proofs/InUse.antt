-- The nodes in use as a slice of their own: what holds of it holds of the nodes, and the other way round. Assumes nothing.
use Rattle.std.proofs.Common.{◌≡◌, ℕ, ◌<◌, ◌≤◌, Bool, ◌≢◌, List, length, take, Some, None, Option, sym, refl, ap, ◌∙◌, subst, le_refl, arith}
use Rattle.std.proofs.lemmas.List.{get_or-take, length-take-le}
use Rattle.std.proofs.Math.Seq.{take-length}
use Rattle.bits.specs.Bits.{Bits}
use Rattle.bits.specs.declared.halves.Halves.{Halves}
use Rattle.model.specs.Maps.{Map, held}
use Rattle.trie.specs.declared.node.Node.{Node}
use Rattle.trie.specs.Nodes.{at, blank, node_bit, key, link, child, collected, entries, holds}
use Rattle.trie.specs.Trie.{Agree, Under, Trie, Compressed}
use Rattle.trie.specs.Search.{Shared, Found, Located, Covering, UpTo, Best}
use Rattle.trie.specs.Changes.{Parent}
use Rattle.trie.proofs.Shrink.{renamed}

-- the same nodes in the first u slots
module _ (f g : ℕ → Node) (u : ℕ) (same : (j : ℕ) → j < u → f j ≡ g j) where
  moved : (R : Node → Type 0) (j : ℕ) → j < u → R (f j) → R (g j)
  moved R j h r = subst R (same j h) r

  trie_same : Trie f u → Trie g u
  trie_same t = renamed f g u t (λ j. j) (λ j. refl) (λ j h. h) refl refl (λ j h. ap (λ (n : Node). n.prefix.len) (sym (same j h))) (λ j h. ap node_bit (sym (same j h))) (λ b j h. ap (child b) (sym (same j h)))
      (λ b j h. subst (λ (n : Node). link b n ≢ Some 65535) (same j h) (t.sure b j h))

  found_same : (k : Node) (i c : ℕ) → Found f u k i c → Found g u k i c
  found_same k i c r = record {
    slot = r.slot;
    shared = moved (λ n. Shared n k c) i r.slot r.shared;
    above = λ j h. moved (λ n. n.prefix.len < (g i).prefix.len → Agree n.prefix.len (node_bit n) (node_bit (g i)) → n.prefix.len < c) j h
        (moved (λ n. (f j).prefix.len < n.prefix.len → Agree (f j).prefix.len (node_bit (f j)) (node_bit n) → (f j).prefix.len < c) i r.slot (r.above j h));
    below = λ j h. moved (λ n. c ≤ n.prefix.len → Agree c (node_bit n) (node_bit k) → Under (g i) n) j h
        (moved (λ n. c ≤ (f j).prefix.len → Agree c (node_bit (f j)) (node_bit k) → Under n (f j)) i r.slot (r.below j h));
    stop = moved (λ n. c ≡ n.prefix.len → c < k.prefix.len → child (node_bit k c) n ≡ 65535) i r.slot r.stop;
  }

  best_same : (k : Node) (r : Option ℕ) → Best f u k r → Best g u k r
  best_same k r x = record {
    covering = cover r x.covering;
    longest = λ j h. moved (λ n. Under n k → n.hop ≢ None → UpTo g r n.prefix.len) j h (λ v s. up r (f j).prefix.len x.covering (x.longest j h v s));
  }
    where
      cover : (q : Option ℕ) → Covering f u k q → Covering g u k q
      cover None c = tt
      cover (Some i) c = (c.0, moved (λ n. Under n k) i c.0 c.1, moved (λ n. n.hop ≢ None) i c.0 c.2)

      up : (q : Option ℕ) (m : ℕ) → Covering f u k q → UpTo f q m → UpTo g q m
      up None m c e = e
      up (Some i) m c e = moved (λ n. m ≤ n.prefix.len) i c.0 e

module _ (ns : List Node) (u : ℕ) (within : u ≤ length ns) where
  size : length (take u ns) ≡ u
  size = length-take-le u ns within

  node : (j : ℕ) → j < u → at (take u ns) j ≡ at ns j
  node j h = get_or-take u ns j blank h

  all : entries (length (take u ns)) (take u ns) ≡ entries u ns
  all = ap collected (take-length (take u ns))

  pub trie_in_use : Trie (at ns) u → Trie (at (take u ns)) (length (take u ns))
  trie_in_use t = subst (Trie (at (take u ns))) (sym size) (trie_same (at ns) (at (take u ns)) u (λ j h. sym (node j h)) t)

  pub in_use : Compressed ns u → Compressed (take u ns) (length (take u ns))
  in_use g = record {
    within = le_refl _;
    trie = trie_in_use g.trie;
    forks = λ i h. let l : i < u = omega (arith, h, size) in subst (λ (n : Node). n.hop ≡ None → (s : Bool) → child s n ≢ 65535) (sym (node i l)) (g.forks i l);
  }

  pub held_in_use : (p : Bits) → holds (take u ns) (length (take u ns)) p ≡ holds ns u p
  held_in_use p = ap (λ (m : Map Halves). held m p) all

  pub found_in_use : (k : Node) (i c : ℕ) → Found (at (take u ns)) (length (take u ns)) k i c → Found (at ns) u k i c
  found_in_use k i c r = found_same (at (take u ns)) (at ns) u node k i c (subst (λ (n : ℕ). Found (at (take u ns)) n k i c) size r)

  pub best_in_use : (k : Node) (r : Option ℕ) → Best (at (take u ns)) (length (take u ns)) k r → Best (at ns) u k r
  best_in_use k r x = best_same (at (take u ns)) (at ns) u node k r (subst (λ (n : ℕ). Best (at (take u ns)) n k r) size x)

  pub located_in_use : (p : Bits) (r : Option ℕ) → Located (take u ns) (length (take u ns)) p r → Located ns u p r
  located_in_use p None x = sym (held_in_use p) ∙ x
  located_in_use p (Some i) x =
      let l : i < u = omega (arith, x.0, size) in
      (l, ap key (sym (node i l)) ∙ x.1, subst (λ (n : Node). n.hop ≢ None) (node i l) x.2)

  pub parent_in_use : (c p : ℕ) (s : Bool) → Parent (take u ns) (length (take u ns)) c p s → Parent ns u c p s
  parent_in_use c p s x =
      let l : p < u = omega (arith, x.slot, size) in
      record { slot = l; link = ap (child s) (sym (node p l)) ∙ x.link }
