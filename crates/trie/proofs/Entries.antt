-- The map that a trie holds, after a route is put in or taken out.
use Rattle.std.proofs.Common.{◌≡◌, ℕ, Bool, false, cond, List, take, Some, None, sym, ap, ◌∙◌, subst, inl, inr}
use mathlib.Core.Path.{fun_ext}
use Rattle.std.proofs.lemmas.Bool.{cases_Bool}
use Rattle.bits.specs.Bits.{Bits, equal}
use Rattle.bits.specs.declared.halves.Halves.{Halves}
use Rattle.bits.proofs.Orders.{equal_is}
use Rattle.model.specs.Maps.{Map, Visible, held, put, removed, Rising}
use Rattle.model.specs.Room.{Fits, fits_nodes}
use Rattle.model.proofs.MapLaws.{put_holds, put_rises, removed_holds, removed_rises, extensional}
use Rattle.model.proofs.RoomLaws.{fits_same}
use Rattle.trie.specs.declared.node.Node.{Node}
use Rattle.trie.specs.Nodes.{key, entries, holds, altered}
use Rattle.trie.specs.Changes.{Placed, Dropped, Announced, Withdrawn}
use Rattle.trie.proofs.Keys.{equal_eq, equal_ne, collected_rises}

equal_turned : (p q : Bits) → equal p q ≡ equal q p
equal_turned p q = elim (cases_Bool (equal p q)) [
  | inl e ↦ e ∙ sym (equal_eq q p (sym (equal_is p q e)))
  | inr e ↦ e ∙ sym (equal_ne q p (λ z. Rattle.std.proofs.lemmas.Bool.true≢false (sym (equal_eq p q (sym z)) ∙ e)))
]

module _ (m : Map Halves) (p : Bits) where
  put_altered : (h : Halves) → held (put m p h) ≡ altered (held m) p (Some h)
  put_altered h = fun_ext (λ q. put_holds m p h q ∙ ap (λ (b : Bool). cond b (Some h) (held m q)) (equal_turned q p))

  removed_altered : held (removed m p) ≡ altered (held m) p None
  removed_altered = fun_ext (λ q. removed_holds m p q ∙ ap (λ (b : Bool). cond b None (held m q)) (equal_turned q p))

pub entries_rise : (u : ℕ) (ns : List Node) → Rising (entries u ns)
entries_rise u ns = collected_rises (take u ns)

same_map : (m n : Map Halves) → Rising m → Rising n → held m ≡ held n → m ≡ n
same_map m n a b e = extensional m n a b (λ p. ap (λ (f : Visible Halves). f p) e)

module _ (ns : List Node) (u : ℕ) (k : Node) where
  pub placed_is : (room : ℕ) (h : Halves) (ms : List Node) (v : ℕ) → k.hop ≡ Some h → Placed ns u room k ms v → Announced ns u room (key k) h ms (Some v)
  placed_is room h ms v e x = (
    x.good,
    x.fits,
    same_map (entries v ms) (put (entries u ns) (key k) h) (entries_rise v ms) (put_rises (entries u ns) (key k) h (entries_rise u ns))
        (x.map ∙ ap (altered (holds ns u) (key k)) e ∙ sym (put_altered (entries u ns) (key k) h)),
  )

  pub unfit : (room : ℕ) (h : Halves) → k.hop ≡ Some h → (Fits room (altered (holds ns u) (key k) k.hop) → ⊥) → fits_nodes room (put (entries u ns) (key k) h) ≡ false
  unfit room h e ne = elim (cases_Bool (fits_nodes room (put (entries u ns) (key k) h))) [
    | inr f ↦ f
    | inl f ↦ absurd (ne (subst (Fits room) (put_altered (entries u ns) (key k) h ∙ ap (altered (holds ns u) (key k)) (sym e)) ((fits_same room (put (entries u ns) (key k) h) (put_rises (entries u ns) (key k) h (entries_rise u ns))).1 f)))
  ]

  pub dropped_is : (ms : List Node) (v : ℕ) → Dropped ns u k ms v → Withdrawn ns u (key k) ms (Some v)
  dropped_is ms v x = (
    x.good,
    x.fewer,
    same_map (entries v ms) (removed (entries u ns) (key k)) (entries_rise v ms) (removed_rises (entries u ns) (key k) (entries_rise u ns))
        (x.map ∙ sym (removed_altered (entries u ns) (key k))),
    x.was,
  )
