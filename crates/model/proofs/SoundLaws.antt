-- Planes stay sound, and a table of one plane is local. Assumes nothing.
use Rattle.std.proofs.Common.{◌≡◌, ℕ, zero, suc, ◌<◌, Bool, true, false, cond, not, ltb, ◌⊎◌, List, [], length, take, set, is_some, Some, None, refl, ap, inl, inr}
use Rattle.std.proofs.lemmas.Bool.{false≢true, cases_eq}
use Rattle.std.proofs.lemmas.List.{get_or-set_same, get_or-set_other, length-set}
use Rattle.bits.specs.Bits.{Bits}
use Rattle.model.specs.Maps.{Visible, held, put, Rising}
use Rattle.model.specs.Longest.{at_length, answer}
use Rattle.model.specs.Room.{RoomLaw}
use Rattle.model.specs.Machine.{Plane, Room, Act, announce, withdraw, fetch, Call, on, lookup, plane, act_refusal, accepted, applied, next}
use Rattle.model.specs.Laws.{Local, Sound}
use Rattle.model.specs.Tables.{plain}
use Rattle.model.proofs.Coverings.{take_covers}
use Rattle.model.proofs.MapLaws.{put_rises, removed_rises}
use Rattle.model.proofs.LogLaws.{accepted_plane}

applied_rises : (m : Plane) (act : Act) → Rising m → Rising (applied m act)
applied_rises m (announce p h) g = put_rises m p h g
applied_rises m (withdraw p) g = removed_rises m p g
applied_rises m (fetch p) g = g

accepted_act : (r : Room) (ps : List Plane) (j : ℕ) (act : Act) → accepted r ps (on j act) ≡ true → not (is_some (act_refusal (r j) (plane ps j) act)) ≡ true
accepted_act r ps j act e = go (ltb j (length ps)) e
  where
    go : (b : Bool) → not (is_some (cond b (act_refusal (r j) (plane ps j) act) (Some 6))) ≡ true → not (is_some (act_refusal (r j) (plane ps j) act)) ≡ true
    go true g = g
    go false g = absurd (false≢true g)

applied_fits : (fits : Plane → Bool) → RoomLaw fits → (m : Plane) (act : Act) → Rising m → fits m ≡ true → not (is_some (act_refusal fits m act)) ≡ true → fits (applied m act) ≡ true
applied_fits fits law m (announce p h) g f e = go (fits (put m p h)) refl e
  where
    go : (b : Bool) → fits (put m p h) ≡ b → not (is_some {T = ℕ} (cond b None (Some 15))) ≡ true → fits (put m p h) ≡ true
    go true t u = t
    go false t u = absurd (false≢true u)
applied_fits fits law m (withdraw p) g f e = law.less m p g f
applied_fits fits law m (fetch p) g f e = f

-- a call leaves planes sound, by the room law
pub sound_next : (r : Room) → ((i : ℕ) → RoomLaw (r i)) → (ps : List Plane) (c : Call) → Sound r ps → Sound r (next r ps c)
sound_next r law ps (lookup a b) s = s
sound_next r law ps (on j act) s = go (accepted r ps (on j act)) refl
  where
    go : (b : Bool) → accepted r ps (on j act) ≡ b → Sound r (cond b (set ps j (applied (plane ps j) act)) ps)
    go false t = s
    go true t = record {
      some = simp length-set s.some;
      few = simp length-set s.few;
      rising = λ i. rises i (cases_eq i j);
      fits = λ i k. fitting i (simp length-set at k) (cases_eq i j);
    }
      where
        l : j < length ps
        l = accepted_plane r ps j act t

        rises : (i : ℕ) → (i ≡ j) ⊎ (i ≡ j → ⊥) → Rising (plane (set ps j (applied (plane ps j) act)) i)
        rises i (inl e) = rw (e, get_or-set_same ps j (applied (plane ps j) act) [] l) (applied_rises (plane ps j) act (s.rising j))
        rises i (inr n) = rw (get_or-set_other ps j i (applied (plane ps j) act) [] n) (s.rising i)

        fitting : (i : ℕ) → i < length ps → (i ≡ j) ⊎ (i ≡ j → ⊥) → r i (plane (set ps j (applied (plane ps j) act)) i) ≡ true
        fitting i k (inl e) = rw (e, get_or-set_same ps j (applied (plane ps j) act) [] l) (applied_fits (r j) (law j) (plane ps j) act (s.rising j) (s.fits j l) (accepted_act r ps j act t))
        fitting i k (inr n) = rw (get_or-set_other ps j i (applied (plane ps j) act) [] n) (s.fits i k)

-- maps that give the same along an address give it the same answers
pub answer_same : {V : Type 0} (s t : Visible V) (a : Bits) → ((k : ℕ) → s (take k a) ≡ t (take k a)) → (b : ℕ) → answer s a b ≡ answer t a b
answer_same s t a e zero = ap (at_length zero) (e zero)
answer_same s t a e (suc b) =
    let i = answer_same s t a e b in
    let f = e (suc b) in cc

pub plain_local : Local plain
plain_local ps qs a g b l = answer_same (held (plane ps 0)) (held (plane qs 0)) a (λ k. g.routes 0 (take k a) (take_covers k a)) b
