-- Plans for which there is no room, and plans by the nodes in use alone.
use Rattle.std.proofs.Common.{◌≡◌, ℕ, ◌+◌, ◌<◌, ◌≤◌, false, leb, List, length, take, Some, None, sym, ◌∙◌, subst, lt_irrefl, arith}
use Rattle.std.proofs.lemmas.Bool.{leb-false}
use Rattle.std.proofs.lemmas.List.{get_or-take, length-take-le}
use Rattle.bits.specs.declared.halves.Halves.{Halves}
use Rattle.model.specs.Maps.{put}
use Rattle.model.specs.Room.{Fits, fits_nodes}
use Rattle.model.proofs.MapLaws.{none≢some}
use Rattle.trie.specs.declared.node.Node.{Node}
use Rattle.trie.specs.Nodes.{at, blank, key, entries, holds, altered}
use Rattle.trie.specs.Trie.{Compressed}
use Rattle.trie.specs.Search.{Found}
use Rattle.trie.specs.declared.search.End.{End}
use Rattle.trie.proofs.InUse.{found_in_use}
use Rattle.trie.proofs.Keys.{found_none}
use Rattle.trie.proofs.Rooms.{wants_one, wants_two}
use Rattle.trie.proofs.Entries.{unfit}
use Rattle.pool.specs.declared.plan.Meeting.{Meeting}
use Rattle.pool.specs.declared.plan.Meeting.TheVariants.{Same, Below, Above, Apart}
use Rattle.pool.specs.declared.plan.Plan.{Plan}
use Rattle.pool.specs.declared.plan.Plan.TheVariants.{Root, Set, Leaf, Middle, Fork}
use Rattle.pool.specs.Plans.{Meets, Suits, wanted}

module _ (ns : List Node) (u room : ℕ) (k : Node) (h : Halves) (g : Compressed ns u) (few : u ≤ room) (short : k.prefix.len ≤ 128) (hop : k.hop ≡ Some h) where
  some : k.hop ≡ None → ⊥
  some e = none≢some h (sym e ∙ hop)

  over : (p : Plan) → Suits ns u k p → room < u + wanted p → Fits room (altered (holds ns u) (key k) k.hop) → ⊥
  over Root s l f = lt_irrefl room (omega (arith, l, wants_one ns u g k short some room (λ j i e. lt_irrefl 0 (omega (arith, i, s))) f))
  over (Set e) s l f = lt_irrefl room (omega (arith, l, few))
  over (Leaf e) s l f = lt_irrefl room (omega (arith, l, wants_one ns u g k short some room (found_none (at ns) u g.trie k e.slot e.shared short s.0 (λ z. lt_irrefl 0 (omega (arith, z.1, s.1.1)))) f))
  over (Middle e) s l f = lt_irrefl room (omega (arith, l, wants_one ns u g k short some room (found_none (at ns) u g.trie k e.slot e.shared short s.0 (λ z. lt_irrefl 0 (omega (arith, z.0, s.1.0)))) f))
  over (Fork e) s l f = lt_irrefl room (omega (arith, l, wants_two ns u g k short some room e.slot e.shared s.0 s.1.0 s.1.1 f))

  pub no_room_for : (p : Plan) → Suits ns u k p → leb (u + wanted p) room ≡ false → fits_nodes room (put (entries u ns) (key k) h) ≡ false
  no_room_for p s e = unfit ns u k room h hop (over p s (leb-false _ _ e))

-- a plan by the nodes in use alone
module _ (ns : List Node) (u : ℕ) (within : u ≤ length ns) (k : Node) where
  met : (e : End) (m : Meeting) → Found (at (take u ns)) (length (take u ns)) k e.slot e.shared × Meets (at (take u ns) e.slot).prefix.len k.prefix.len e.shared m
      → Found (at ns) u k e.slot e.shared × Meets (at ns e.slot).prefix.len k.prefix.len e.shared m
  met e m x =
      let r : Found (at ns) u k e.slot e.shared = found_in_use ns u within k e.slot e.shared x.0 in
      (r, subst (λ (n : Node). Meets n.prefix.len k.prefix.len e.shared m) (get_or-take u ns e.slot blank r.slot) x.1)

  pub suits_in_use : (p : Plan) → Suits (take u ns) (length (take u ns)) k p → Suits ns u k p
  suits_in_use Root s = sym (length-take-le u ns within) ∙ s
  suits_in_use (Set e) s = met e Same s
  suits_in_use (Leaf e) s = met e Below s
  suits_in_use (Middle e) s = met e Above s
  suits_in_use (Fork e) s = met e Apart s
