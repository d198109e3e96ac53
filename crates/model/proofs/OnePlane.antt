-- A table of one plane, visible as it is: what a call has to answer and to leave. Assumes nothing.
use Rattle.std.proofs.Common.{◌≡◌, ℕ, zero, suc, ◌<◌, ◌≤◌, true, false, ltb, leb, List, [], ◌∷◌, map, length, take, Some, None, Option, refl, ap, arith}
use Rattle.std.proofs.lemmas.List.{length-map, length-take}
use Rattle.std.proofs.lemmas.Bool.{le-leb, lt-leb, le-ltb}
use Rattle.bits.specs.Bits.{Bits}
use Rattle.model.specs.Maps.{Route, held, put, removed, Rising}
use Rattle.model.specs.Longest.{answer}
use Rattle.model.specs.Machine.{Hop, Stored, Plane, Room, Act, announce, withdraw, fetch, Call, on, lookup, Reply, done, holds, found, refused, plane, reply_of, next}
use Rattle.model.specs.Stack.{table, Described}
use Rattle.model.specs.Laws.{Sound, Does}
use Rattle.model.specs.Tables.{plain, usable, rows_room}
use Rattle.model.specs.Single.{Single}

pub one_described : (m : Plane) (r : Room) → Described (table (m ∷ []) plain r) (m ∷ []) plain r
one_described m r = record { planes = refl; view = refl; room = refl }

pub one_sound : (r : Room) (m : Plane) → Rising m → r 0 m ≡ true → Sound r (m ∷ [])
one_sound r m g f = record { some = omega arith; few = omega arith; rising = rises; fits = fitting }
  where
    rises : (i : ℕ) → Rising (plane (m ∷ []) i)
    rises zero = g
    rises (suc i) = tt

    fitting : (i : ℕ) → i < 1 → r i (plane (m ∷ []) i) ≡ true
    fitting zero l = f
    fitting (suc i) l = absurd (omega arith)

-- the plane that the first n of some rows hold
pub rows_sound : {X : Type 0} (f : X → Route Stored) (c n : ℕ) (rows : List X) → n ≤ usable c → Rising (map f (take n rows)) → Sound (rows_room c) (map f (take n rows) ∷ [])
rows_sound f c n rows l g = one_sound (rows_room c) (map f (take n rows)) g (le-leb _ _ (omega (arith, length-map (take n rows) f, length-take n rows)))

pub single_does : {X : Type 0} (plane_of : X → Plane) (room : X → Room) (s t : X) (c : Call) (y : Reply) → room t ≡ room s → Single (room s) (plane_of s) (plane_of t) c y
    → Does (λ x. plane_of x ∷ []) (λ x. plain) room (λ x. table (plane_of x ∷ []) plain (room x)) s t c y
single_does plane_of room s t c y e x = record {
  reply = x.reply;
  planes_after = x.planes;
  same_view = refl;
  same_room = e;
  entries = λ i. table (x.planes i) plain (e i);
}

pub no_plane : (r : Room) (m : Plane) (i : ℕ) (act : Act) → (i ≡ 0 → ⊥) → Single r m m (on i act) (refused 6)
no_plane r m zero act ne = absurd (ne refl)
no_plane r m (suc i) act ne = let e : ltb (suc i) 1 ≡ false = le-ltb (suc i) 1 (omega arith) in record { reply = rw e refl; planes = rw e refl }

pub announce_done : (r : Room) (m : Plane) (p : Bits) (h : Hop) → r 0 (put m p h) ≡ true → Single r m (put m p h) (on 0 (announce p h)) done
announce_done r m p h e = record { reply = rw e refl; planes = rw e refl }

pub announce_full : (r : Room) (m : Plane) (p : Bits) (h : Hop) → r 0 (put m p h) ≡ false → Single r m m (on 0 (announce p h)) (refused 15)
announce_full r m p h e = record { reply = rw e refl; planes = rw e refl }

pub withdraw_done : (r : Room) (m : Plane) (p : Bits) (h : Hop) → held m p ≡ Some h → Single r m (removed m p) (on 0 (withdraw p)) done
withdraw_done r m p h e = record { reply = rw e refl; planes = rw e refl }

pub withdraw_absent : (r : Room) (m : Plane) (p : Bits) → held m p ≡ None → Single r m m (on 0 (withdraw p)) (refused 14)
withdraw_absent r m p e = record { reply = rw e refl; planes = rw e refl }

pub fetch_holds : (r : Room) (m : Plane) (p : Bits) (o : Option Hop) → o ≡ held m p → Single r m m (on 0 (fetch p)) (holds o)
fetch_holds r m p o e = record { reply = ap holds e; planes = refl }

pub lookup_found : (r : Room) (m : Plane) (a : Bits) (b : ℕ) (x : Option (ℕ × Hop)) → b ≤ length a → x ≡ answer (held m) a b → Single r m m (lookup a b) (found x)
lookup_found r m a b x l e = let f : leb b (length a) ≡ true = le-leb b (length a) l in record { reply = rw (f, e) refl; planes = refl }

pub lookup_refused : (r : Room) (m : Plane) (a : Bits) (b : ℕ) → length a < b → Single r m m (lookup a b) (refused 12)
lookup_refused r m a b l = let f : leb b (length a) ≡ false = lt-leb b (length a) l in record { reply = rw f refl; planes = refl }
