-- What a lookup finds in a place for one route. Assumes nothing.
use Rattle.std.proofs.Common.{◌≡◌, ℕ, ◌≤◌, Bool, true, false, cond, ◌&&◌, leb, length, Some, None, Option, sym, refl}
use Rattle.bits.specs.Bits.{Bits, covers}
use Rattle.model.specs.Maps.{held}
use Rattle.model.specs.Longest.{answer}
use Rattle.model.specs.Machine.{Answer}
use Rattle.model.proofs.OneRoute.{answer_empty, answer_matched, answer_unmatched}
use Rattle.minimal.specs.declared.one_route.Route.{Route}
use Rattle.minimal.specs.Held.{plane_of}

module _ {A P : Type 0} (bits : A → Bits) (pbits : P → Bits) (a : A) (b : ℕ) where
  -- the route, if it matches
  abbrev pub found : Option (Route A P) → Answer
  found None = None
  found (Some r) = cond (leb (length (pbits r.prefix)) b && covers (pbits r.prefix) (bits a)) (Some (length (pbits r.prefix), bits r.hop)) None

  pub answer_one : (o : Option (Route A P)) → b ≤ length (bits a) → answer (held (plane_of bits pbits o)) (bits a) b ≡ found o
  answer_one None l = sym (answer_empty _ (bits a) b refl)
  answer_one (Some r) l = go (leb (length (pbits r.prefix)) b && covers (pbits r.prefix) (bits a)) refl
    where
      go : (m : Bool) → (leb (length (pbits r.prefix)) b && covers (pbits r.prefix) (bits a)) ≡ m → answer (held (plane_of bits pbits (Some r))) (bits a) b ≡ cond m (Some (length (pbits r.prefix), bits r.hop)) None
      go true e = sym (answer_matched _ _ _ (bits a) b refl l _ refl e)
      go false e = sym (answer_unmatched _ _ _ (bits a) b refl l e)
