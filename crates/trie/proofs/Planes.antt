-- The nodes as a plane of addresses of w bits: what a call does to the plane, by what it does to the nodes.
use Rattle.std.proofs.Common.{◌≡◌, ℕ, ◌+◌, ◌<◌, ◌≤◌, Bool, true, not, ◌⊎◌, ◌↔◌, List, [], ◌∷◌, length, is_some, Some, None, filter, Option, sym, refl, ap, ◌∙◌, subst, inl, inr, arith}
use mathlib.Core.Path.{fun_ext}
use Rattle.std.specs.List.{AllByRecursion}
use Rattle.std.proofs.lemmas.List.{length-map}
use Rattle.std.proofs.lemmas.Bool.{le-leb}
use Rattle.bits.specs.Bits.{Bits, covers, common}
use Rattle.bits.specs.Halves.{word, front}
use Rattle.bits.specs.declared.front.Front.{Front}
use Rattle.bits.specs.declared.halves.Halves.{Halves}
use Rattle.bits.proofs.Fronts.{front_is, covers_front}
use Rattle.model.specs.Maps.{Map, held, put, removed}
use Rattle.model.specs.Longest.{answer, Candidate}
use Rattle.model.specs.Room.{Held, Branch, In, partings, branches, nodes, fits_nodes}
use Rattle.model.specs.Machine.{Hop, Plane, on, announce, withdraw, done, refused}
use Rattle.model.specs.Laws.{Sound}
use Rattle.model.specs.Tables.{usable, nodes_room}
use Rattle.model.proofs.MapLaws.{none≢some}
use Rattle.model.proofs.LongestLaws.{longest_laws}
use Rattle.model.specs.Single.{Single}
use Rattle.model.proofs.OnePlane.{one_sound, announce_done, announce_full, withdraw_done, withdraw_absent}
use Rattle.model.proofs.Mapped.{mapped, made, held_all, put_all, removed_all, put_mapped, removed_mapped, held_mapped, rising_mapped}
use Rattle.trie.specs.declared.node.Node.{Node}
use Rattle.trie.specs.Nodes.{at, key, unlinked, entries, routes, holds}
use Rattle.trie.specs.Trie.{Under, Compressed}
use Rattle.trie.specs.Search.{Best}
use Rattle.trie.specs.Changes.{Announced, Withdrawn}
use Rattle.trie.specs.Well.{AddressHalves, WellFormed, prefixes, NodeLaws}
use Rattle.trie.proofs.Keys.{key_length}
use Rattle.trie.proofs.Commons.{covers_agree, agree_covers}
use Rattle.trie.proofs.Entries.{entries_rise}
use Rattle.trie.proofs.Rooms.{nodes_used, slot_holds, route_slot, exact, distinct}

-- the nodes of a map do not depend on its values
module _ {V W : Type 0} (f : V → W) where
  partings_mapped : (m : Map V) → partings (mapped f m) ≡ partings m
  partings_mapped [] = refl
  partings_mapped (r ∷ []) = refl
  partings_mapped (r ∷ (s ∷ m)) = ap (λ (ps : List Bits). common r.prefix s.prefix ∷ ps) (partings_mapped (s ∷ m))

  seen_made : (o : Option V) → is_some (made f o) ≡ is_some o
  seen_made None = refl
  seen_made (Some v) = refl

  branches_mapped : (m : Map V) → branches (mapped f m) ≡ branches m
  branches_mapped m =
      ap (λ (test : Bits → Bool). filter test (partings (mapped f m))) (fun_ext (λ p. ap not (ap is_some (held_mapped f m p) ∙ seen_made (held m p))))
      ∙ ap (filter (λ p. not (is_some (held m p)))) (partings_mapped m)

  pub nodes_mapped : (m : Map V) → nodes (mapped f m) ≡ nodes m
  nodes_mapped m =
      ap (λ (n : ℕ). n + length (branches (mapped f m))) (length-map m (λ r. Rattle.model.proofs.Mapped.revalued f r))
      ∙ ap (λ (ps : List Bits). length m + length ps) (branches_mapped m)

-- as many nodes are in use as the plane has routes and branches
pub plane_nodes : (w u : ℕ) (ns : List Node) → Compressed ns u → nodes (routes w u ns) ≡ u
plane_nodes w u ns g = nodes_mapped (front w) (entries u ns) ∙ nodes_used ns u g

module _ (w u : ℕ) (ns : List Node) (good : WellFormed w u ns) where
  pub plane_holds : (p : Bits) → held (routes w u ns) p ≡ made (front w) (held (entries u ns) p)
  plane_holds p = held_mapped (front w) (entries u ns) p

  -- every next hop is an address
  pub held_proper : (p : Bits) (h : Halves) → held (entries u ns) p ≡ Some h → AddressHalves w h
  held_proper p h e = held_all (AddressHalves w) (entries u ns) p h good.hops e

  pub slot_proper : (i : ℕ) (h : Halves) → i < u → (at ns i).hop ≡ Some h → AddressHalves w h
  slot_proper i h l e = held_proper (key (at ns i)) h (slot_holds ns u good.trie i l ∙ e)

  seen : (p : Bits) → held (routes w u ns) p ≡ None → holds ns u p ≡ None
  seen p e = none_made (holds ns u p) (sym (plane_holds p) ∙ e)
    where
      none_made : (o : Option Halves) → made (front w) o ≡ None → o ≡ None
      none_made None z = refl
      none_made (Some h) z = absurd (none≢some (front w h) (sym z))

  hidden : (p : Bits) → holds ns u p ≡ None → held (routes w u ns) p ≡ None
  hidden p e = plane_holds p ∙ ap (made (front w)) e

  -- the nodes are those of the plane's routes and branches
  pub plane_exact : (p : Bits) → In p (prefixes u ns) ↔ (Held (held (routes w u ns)) p ⊎ Branch (held (routes w u ns)) p)
  plane_exact p = (
    (λ i. elim ((exact ns u good.trie p).0 i) [ inl r ↦ inl (λ e. r (seen p e)) | inr b ↦ inr (record { absent = hidden p b.absent; sides = λ s. ((b.sides s).0, (λ e. (b.sides s).1 (seen (b.sides s).0 e)), (b.sides s).2) }) ]),
    (λ x. (exact ns u good.trie p).1 (elim x [ inl r ↦ inl (λ e. r (hidden p e)) | inr b ↦ inr (record { absent = seen p b.absent; sides = λ s. ((b.sides s).0, (λ e. (b.sides s).1 (hidden (b.sides s).0 e)), (b.sides s).2) }) ])),
  )

  pub plane_sound : Sound (nodes_room (length ns)) (routes w u ns ∷ [])
  plane_sound = one_sound (nodes_room (length ns)) (routes w u ns) (rising_mapped (front w) (entries u ns) (entries_rise u ns)) (le-leb _ _ (omega (arith, good.count, good.few)))

  -- a route put in
  module _ (p : Bits) (h : Halves) (b : Hop) (bits : front w h ≡ b) where
    put_plane : put (routes w u ns) p b ≡ mapped (front w) (put (entries u ns) p h)
    put_plane = ap (put (routes w u ns) p) (sym bits) ∙ put_mapped (front w) (entries u ns) p h

    pub announced_good : (ms : List Node) (v : ℕ) → length ms ≡ length ns → AddressHalves w h → Announced ns u (usable (length ns)) p h ms (Some v) → WellFormed w v ms
    announced_good ms v e ok x = record {
      few = subst (λ (n : ℕ). v ≤ usable n) (sym e) x.1;
      trie = x.0;
      count = plane_nodes w v ms x.0;
      hops = subst (AllByRecursion (λ r. AddressHalves w r.value)) (sym x.2) (put_all (λ r. AddressHalves w r.value) (entries u ns) p h ok good.hops);
    }

    pub announced : (ms : List Node) (v : ℕ) → Announced ns u (usable (length ns)) p h ms (Some v)
        → Single (nodes_room (length ns)) (routes w u ns) (routes w v ms) (on 0 (announce p b)) done
    announced ms v x =
        let plane : routes w v ms ≡ put (routes w u ns) p b = ap (mapped (front w)) x.2 ∙ sym put_plane in
        let fits : fits_nodes (usable (length ns)) (routes w v ms) ≡ true = le-leb _ _ (omega (arith, plane_nodes w v ms x.0, x.1)) in
        subst (λ (m : Plane). Single (nodes_room (length ns)) (routes w u ns) m (on 0 (announce p b)) done) (sym plane)
        (announce_done (nodes_room (length ns)) (routes w u ns) p b (ap (fits_nodes (usable (length ns))) (sym plane) ∙ fits))

    pub no_room : (ms : List Node) → Announced ns u (usable (length ns)) p h ms None
        → Single (nodes_room (length ns)) (routes w u ns) (routes w u ms) (on 0 (announce p b)) (refused 15)
    no_room ms x =
        subst (λ (l : List Node). Single (nodes_room (length ns)) (routes w u ns) (routes w u l) (on 0 (announce p b)) (refused 15)) (sym x.0)
        (announce_full (nodes_room (length ns)) (routes w u ns) p b
        (ap (fits_nodes (usable (length ns))) put_plane ∙ ap (λ (n : ℕ). lib.Dec.leb n (usable (length ns))) (nodes_mapped (front w) (put (entries u ns) p h)) ∙ x.1))

  -- a route taken out
  pub withdrawn_good : (p : Bits) (ms : List Node) (v : ℕ) → length ms ≡ length ns → Withdrawn ns u p ms (Some v) → WellFormed w v ms
  withdrawn_good p ms v e x = record {
    few = subst (λ (n : ℕ). v ≤ usable n) (sym e) (omega (arith, x.1, good.few));
    trie = x.0;
    count = plane_nodes w v ms x.0;
    hops = subst (AllByRecursion (λ r. AddressHalves w r.value)) (sym x.2) (removed_all (λ r. AddressHalves w r.value) (entries u ns) p good.hops);
  }

  pub withdrawn : (p : Bits) (ms : List Node) (v : ℕ) → Withdrawn ns u p ms (Some v)
      → Single (nodes_room (length ns)) (routes w u ns) (routes w v ms) (on 0 (withdraw p)) done
  withdrawn p ms v x = go (held (entries u ns) p) refl
    where
      plane : routes w v ms ≡ removed (routes w u ns) p
      plane = ap (mapped (front w)) x.2 ∙ sym (removed_mapped (front w) (entries u ns) p)

      go : (o : Option Halves) → held (entries u ns) p ≡ o → Single (nodes_room (length ns)) (routes w u ns) (routes w v ms) (on 0 (withdraw p)) done
      go None f = absurd (x.3 f)
      go (Some h) f =
          subst (λ (m : Plane). Single (nodes_room (length ns)) (routes w u ns) m (on 0 (withdraw p)) done) (sym plane)
          (withdraw_done (nodes_room (length ns)) (routes w u ns) p (front w h) (plane_holds p ∙ ap (made (front w)) f))

  pub not_held : (p : Bits) (ms : List Node) → Withdrawn ns u p ms None
      → Single (nodes_room (length ns)) (routes w u ns) (routes w u ms) (on 0 (withdraw p)) (refused 14)
  not_held p ms x =
      subst (λ (l : List Node). Single (nodes_room (length ns)) (routes w u ns) (routes w u l) (on 0 (withdraw p)) (refused 14)) (sym x.0)
      (withdraw_absent (nodes_room (length ns)) (routes w u ns) p (plane_holds p ∙ ap (made (front w)) x.1))

  -- the answer of a lookup, by the longest route that covers the address
  module _ (a : Front) (narrow : w ≤ 128) (bound : a.len ≤ w) where
    short : (i : ℕ) → i < u → (at ns i).prefix.len ≤ 128
    short i l = good.trie.trie.short i l

    key_covers : (i : ℕ) → i < u → (at ns i).prefix.len ≤ a.len → covers (key (at ns i)) (front w a.bits) ≡ covers (front (at ns i).prefix.len (at ns i).prefix.bits) (word a.bits)
    unfolding key
    key_covers i l h = ap (covers (key (at ns i))) (front_is w a.bits) ∙ covers_front (at ns i).prefix.len w (at ns i).prefix.bits (word a.bits) (omega arith) (short i l)

    under_covers : (i : ℕ) → i < u → Under (at ns i) (unlinked a None) → covers (key (at ns i)) (front w a.bits) ≡ true
    under_covers i l v = key_covers i l v.long ∙ agree_covers (at ns i).prefix.len (at ns i).prefix.bits a.bits (short i l) v.same

    covers_under : (i : ℕ) → i < u → (at ns i).prefix.len ≤ a.len → covers (key (at ns i)) (front w a.bits) ≡ true → Under (at ns i) (unlinked a None)
    covers_under i l h e = record { long = h; same = covers_agree (at ns i).prefix.len (at ns i).prefix.bits a.bits (short i l) (sym (key_covers i l h) ∙ e) }

    -- a candidate is the prefix of a slot with a route that covers the address
    pub record SlotOf (q : Bits) : Type 0 where
      pub slot : ℕ
      pub used : slot < u
      pub prefix : key (at ns slot) ≡ q
      pub routed : (at ns slot).hop ≡ None → ⊥
      pub under : Under (at ns slot) (unlinked a None)

    candidate_slot : (q : Bits) → Candidate (held (routes w u ns)) (front w a.bits) a.len q → SlotOf q
    candidate_slot q c =
        let r = route_slot ns u good.trie q (λ e. c.visible (plane_holds q ∙ ap (made (front w)) e)) in
        let long : (at ns r.0).prefix.len ≤ a.len = omega (arith, c.within, sym (key_length (at ns r.0) (short r.0 r.1)) ∙ ap length r.2) in
        record {
          slot = r.0;
          used = r.1;
          prefix = r.2;
          routed = λ e. c.visible (ap (held (routes w u ns)) (sym r.2) ∙ plane_holds (key (at ns r.0)) ∙ ap (made (front w)) (slot_holds ns u good.trie r.0 r.1 ∙ e));
          under = covers_under r.0 r.1 long (ap (λ (s : Bits). covers s (front w a.bits)) r.2 ∙ c.covering);
        }

    wide : a.len ≤ length (front w a.bits)
    wide = omega (arith, Rattle.bits.proofs.Fronts.front_length w a.bits narrow)

    pub found_is : (i : ℕ) (h : Halves) → (at ns i).hop ≡ Some h → Best (at ns) u (unlinked a None) (Some i) → Some ((at ns i).prefix.len, front w h) ≡ answer (held (routes w u ns)) (front w a.bits) a.len
    found_is i h e x =
        let value : held (routes w u ns) (key (at ns i)) ≡ Some (front w h) = plane_holds (key (at ns i)) ∙ ap (made (front w)) (slot_holds ns u good.trie i x.covering.0 ∙ e) in
        let long : length (key (at ns i)) ≡ (at ns i).prefix.len = key_length (at ns i) (short i x.covering.0) in
        (longest_laws Hop).only_answer (held (routes w u ns)) (front w a.bits) a.len (Some ((at ns i).prefix.len, front w h)) wide (record {
          prefix = key (at ns i);
          candidate = record { visible = λ f. none≢some (front w h) (sym f ∙ value); covering = under_covers i x.covering.0 x.covering.1; within = omega (arith, long, x.covering.1.long) };
          long = long;
          value = value;
          longest = λ q c. let r : SlotOf q = candidate_slot q c in
              omega (arith, x.longest r.slot r.used r.under r.routed, sym (key_length (at ns r.slot) (short r.slot r.used)) ∙ ap length r.prefix);
        })

    pub none_is : Best (at ns) u (unlinked a None) None → None ≡ answer (held (routes w u ns)) (front w a.bits) a.len
    none_is x = (longest_laws Hop).only_answer (held (routes w u ns)) (front w a.bits) a.len None wide
        (λ q c. let r : SlotOf q = candidate_slot q c in x.longest r.slot r.used r.under r.routed)

pub node_laws : NodeLaws
node_laws = record { exact = plane_exact; once = λ w u ns g. distinct ns u g.trie }
