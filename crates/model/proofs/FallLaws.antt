-- A fall-through, by its two tables. Assumes nothing.
use Rattle.std.proofs.Common.{◌≡◌, ℕ, zero, suc, ◌+◌, ◌-◌, ◌<◌, ◌≤◌, min, Bool, true, false, cond, ltb, leb, ◌⊎◌, List, [], ◌++◌, length, take, drop, Some, None, Option, sym, refl, ap, ◌∙◌, inl, inr, arith}
use Rattle.std.proofs.lemmas.List.{length-take, length-take-le, length-drop, length-append, take-take, get_or-take, get_or-drop, get_or_past, get_or_append_left, get_or-append_right, take_at, drop_at}
use Rattle.std.proofs.lemmas.Bool.{lt-ltb, le-ltb, cases_lt, le-leb}
use Rattle.bits.specs.Bits.{Bits, covers}
use Rattle.model.specs.Maps.{Visible, held, put, removed, Rising}
use Rattle.model.specs.Longest.{or_else, at_length, answer}
use Rattle.model.specs.Views.{unless, fallen_through}
use Rattle.model.specs.Room.{Held, RoomLaw}
use Rattle.model.specs.Machine.{Plane, Target, View, Room, Act, on, lookup, Reply, found, plane}
use Rattle.model.specs.Stack.{Stack, fall, fall_view, fall_room, Described}
use Rattle.model.specs.Laws.{Agree, Local, Sound}
use Rattle.model.proofs.StackLaws.{after_nil, refusal_upper, refusal_lower, next_upper, next_lower}
use Rattle.model.proofs.Steps.{At, Step, DescribedAt, step_count}

-- ---- the view

-- answers at a prefix of the address
pub answer_take : {V : Type 0} (s : Visible V) (a : Bits) (n b : ℕ) → b ≤ n → n ≤ length a → answer s (take n a) b ≡ answer s a b
answer_take s a n zero h l = refl
answer_take s a n (suc b) h l =
    let i = answer_take s a n b (omega arith) l in
    let t = take-take (suc b) n a h in
    cc (ap s t)

module _ {V : Type 0} where
  fallen_step : (n : ℕ) (x y : Option V) (p q : Option (ℕ × V)) → or_else (at_length n (or_else x (unless (or_else (at_length n x) p) y))) (or_else p q) ≡ or_else (or_else (at_length n x) p) (or_else (at_length n y) q)
  fallen_step n (Some h) y p q = refl
  fallen_step n None None (Some x) q = refl
  fallen_step n None (Some h) (Some x) q = refl
  fallen_step n None None None q = refl
  fallen_step n None (Some h) None q = refl

  fallen_start : (x y : Option V) → at_length zero (or_else x (unless (at_length zero x) y)) ≡ or_else (at_length zero x) (at_length zero y)
  fallen_start None y = refl
  fallen_start (Some x) y = refl

  -- the answer through a fall-through: the upper's, or else the lower's
  pub fallen_answer : (u l : Visible V) (a : Bits) (b : ℕ) → b ≤ length a → answer (fallen_through u l) a b ≡ or_else (answer u a b) (answer l a b)
  fallen_answer u l a zero h = fallen_start (u []) (l [])
  fallen_answer u l a (suc b) h =
      let i = fallen_answer u l a b (omega arith) in
      let n = length-take-le (suc b) a h in
      let t = answer_take u a (suc b) (suc b) (omega arith) h in
      let s = fallen_step (suc b) (u (take (suc b) a)) (l (take (suc b) a)) (answer u a b) (answer l a b) in
      let e : answer u (take (suc b) a) (length (take (suc b) a)) ≡ or_else (at_length (suc b) (u (take (suc b) a))) (answer u a b) = rw n t in
      rw (e, i) s

-- ---- locality

none_past : (i n : ℕ) (ps : List Plane) → n ≤ i → plane (take n ps) i ≡ []
none_past i n ps h = get_or_past (take n ps) i [] (simp length-take (omega arith))

agree_take : (k : ℕ) (ps qs : List Plane) (a : Bits) → Agree ps qs a → Agree (take k ps) (take k qs) a
agree_take k ps qs a g = record {
  count = simp length-take (ap (λ n. min k n) g.count);
  routes = λ i p c. go i p c (cases_lt i k);
}
  where
    go : (i : ℕ) (p : Bits) → covers p a ≡ true → (i < k) ⊎ (k ≤ i) → held (plane (take k ps) i) p ≡ held (plane (take k qs) i) p
    go i p c (inl h) = rw (get_or-take k ps i [] h, get_or-take k qs i [] h) (g.routes i p c)
    go i p c (inr h) = rw (none_past i k ps h, none_past i k qs h) refl

agree_drop : (k : ℕ) (ps qs : List Plane) (a : Bits) → Agree ps qs a → Agree (drop k ps) (drop k qs) a
agree_drop k ps qs a g = record {
  count = simp length-drop (ap (λ n. n - k) g.count);
  routes = λ i p c. rw (get_or-drop k ps i [], get_or-drop k qs i []) (g.routes (k + i) p c);
}

pub fall_local : (k : ℕ) (v w : View) → Local v → Local w → Local (fall_view k v w)
fall_local k v w lv lw ps qs a g b h =
    let x = lv (take k ps) (take k qs) a (agree_take k ps qs a g) b h in
    let y = lw (drop k ps) (drop k qs) a (agree_drop k ps qs a g) b h in
    rw (fallen_answer (v (take k ps)) (w (drop k ps)) a b h, fallen_answer (v (take k qs)) (w (drop k qs)) a b h, x, y) refl

-- ---- room

pub fall_roomy : (k : ℕ) (r s : Room) → ((i : ℕ) → RoomLaw (r i)) → ((i : ℕ) → RoomLaw (s i)) → (i : ℕ) → RoomLaw (fall_room k r s i)
fall_roomy k r s x y i = record {
  less = λ m p g e. less (ltb i k) m p g e;
  altered = λ m p h g w e. altered (ltb i k) m p h g w e;
}
  where
    less : (b : Bool) (m : Plane) (p : Bits) → Rising m → cond b (r i m) (s (i - k) m) ≡ true → cond b (r i (removed m p)) (s (i - k) (removed m p)) ≡ true
    less true m p g e = (x i).less m p g e
    less false m p g e = (y (i - k)).less m p g e

    altered : (b : Bool) (m : Plane) (p : Bits) (h : Target) → Rising m → Held (held m) p → cond b (r i m) (s (i - k) m) ≡ true → cond b (r i (put m p h)) (s (i - k) (put m p h)) ≡ true
    altered true m p h g w e = (x i).altered m p h g w e
    altered false m p h g w e = (y (i - k)).altered m p h g w e

pub fall_sound : (r s : Room) (ps qs : List Plane) → Sound r ps → Sound s qs → length (ps ++ qs) ≤ 8 → Sound (fall_room (length ps) r s) (ps ++ qs)
fall_sound r s ps qs x y few = record {
  some = simp length-append (omega (arith, x.some));
  few = few;
  rising = λ i. rises i (cases_lt i (length ps));
  fits = λ i l. fitting i (simp length-append at l) (cases_lt i (length ps));
}
  where
    rises : (i : ℕ) → (i < length ps) ⊎ (length ps ≤ i) → Rising (plane (ps ++ qs) i)
    rises i (inl l) = rw (get_or_append_left ps qs [] i l) (x.rising i)
    rises i (inr l) = rw (get_or-append_right ps qs (length ps) i [] refl l) (y.rising (i - length ps))

    fitting : (i : ℕ) → i < length ps + length qs → (i < length ps) ⊎ (length ps ≤ i) → fall_room (length ps) r s i (plane (ps ++ qs) i) ≡ true
    fitting i m (inl l) = rw (lt-ltb i (length ps) l, get_or_append_left ps qs [] i l) (x.fits i l)
    fitting i m (inr l) = rw (le-ltb i (length ps) l, get_or-append_right ps qs (length ps) i [] refl l) (y.fits (i - length ps) (omega arith))

-- ---- the description

-- the fall-through of two tables, at one moment
abbrev pub joined : At → At → At
joined u l = record {
  planes = u.planes ++ l.planes;
  view = fall_view (length u.planes) u.view l.view;
  room = fall_room (length u.planes) u.room l.room;
  stack = fall u.stack l.stack;
}

pub fall_described : {d e : Stack} {ps qs : List Plane} {v w : View} {r s : Room} → Described d ps v r → Described e qs w s → Described (fall d e) (ps ++ qs) (fall_view (length ps) v w) (fall_room (length ps) r s)
fall_described x y = record {
  planes = rw (x.planes, y.planes) refl;
  view = rw (x.planes, x.view, y.view) refl;
  room = rw (x.planes, x.room, y.room) refl;
}

-- ---- one call

module _ (u l : At) (x : DescribedAt u) where
  -- an act on a plane of the upper table
  pub fall_upper : (t : At) {y : Reply} (i : ℕ) (act : Act) → i < length u.planes → Step u t (on i act) y → Step (joined u l) (joined t l) (on i act) y
  fall_upper t i act lt f =
      let k = length u.planes in
      let b : ltb i k ≡ true = lt-ltb i k lt in
      let n = step_count u t f in
      record {
        reply = f.reply ∙ rw (refusal_upper u.room l.room k u.planes l.planes refl i act b, get_or_append_left u.planes l.planes [] i lt) refl;
        planes_after = ap (λ ps. ps ++ l.planes) f.planes_after ∙ sym (next_upper u.room l.room k u.planes l.planes refl i act b);
        same_view = rw (n, f.same_view) refl;
        same_room = rw (n, f.same_room) refl;
        entries = rw (x.planes, b, after_nil l.stack, f.entries) refl;
      }

  -- an act on any other plane
  pub fall_lower : (t : At) {y : Reply} (i : ℕ) (act : Act) → length u.planes ≤ i → Step l t (on (i - length u.planes) act) y → Step (joined u l) (joined u t) (on i act) y
  fall_lower t i act ge f =
      let k = length u.planes in
      let b : ltb i k ≡ false = le-ltb i k ge in
      record {
        reply = f.reply ∙ rw (refusal_lower u.room l.room k u.planes l.planes refl i act b, get_or-append_right u.planes l.planes k i [] refl ge) refl;
        planes_after = ap (λ ps. u.planes ++ ps) f.planes_after ∙ sym (next_lower u.room l.room k u.planes l.planes refl i act b);
        same_view = rw f.same_view refl;
        same_room = rw f.same_room refl;
        entries = rw (x.planes, b, after_nil u.stack, f.entries) refl;
      }

  -- the answer to a lookup
  fall_found : (a : Bits) (b : ℕ) → b ≤ length a → answer ((joined u l).view (joined u l).planes) a b ≡ or_else (answer (u.view u.planes) a b) (answer (l.view l.planes) a b)
  fall_found a b h = rw (take_at u.planes l.planes (length u.planes) refl, drop_at u.planes l.planes (length u.planes) refl) (fallen_answer (u.view u.planes) (l.view l.planes) a b h)

  -- a lookup past the address's width: the upper refuses it
  pub fall_too_long : (t : At) {y : Reply} (a : Bits) (b : ℕ) → leb b (length a) ≡ false → Step u t (lookup a b) y → Step (joined u l) (joined t l) (lookup a b) y
  fall_too_long t a b e f =
      let n = step_count u t f in
      record {
        reply = f.reply ∙ rw e refl;
        planes_after = ap (λ ps. ps ++ l.planes) f.planes_after;
        same_view = rw (n, f.same_view) refl;
        same_room = rw (n, f.same_room) refl;
        entries = rw (e, after_nil l.stack, f.entries) refl;
      }

  -- the upper's answer stands
  pub fall_first : (t : At) (a : Bits) (b : ℕ) (z : ℕ × Target) → b ≤ length a → Step u t (lookup a b) (found (Some z)) → Step (joined u l) (joined t l) (lookup a b) (found (Some z))
  fall_first t a b z h f =
      let e : leb b (length a) ≡ true = le-leb b (length a) h in
      let r : found (Some z) ≡ found (answer (u.view u.planes) a b) = f.reply ∙ rw e refl in
      let q : Some z ≡ answer (u.view u.planes) a b = cc in
      let n = step_count u t f in
      record {
        reply = rw (e, fall_found a b h, ← q) refl;
        planes_after = ap (λ ps. ps ++ l.planes) f.planes_after;
        same_view = rw (n, f.same_view) refl;
        same_room = rw (n, f.same_room) refl;
        entries = rw (e, x.planes, x.view, ← q, after_nil l.stack, f.entries) refl;
      }

  -- the upper has none: the lower is asked
  pub fall_second : (t w : At) {y : Reply} (a : Bits) (b : ℕ) → b ≤ length a → Step u t (lookup a b) (found None) → Step l w (lookup a b) y → Step (joined u l) (joined t w) (lookup a b) y
  fall_second t w {y} a b h f g =
      let e : leb b (length a) ≡ true = le-leb b (length a) h in
      let r : found None ≡ found (answer (u.view u.planes) a b) = f.reply ∙ rw e refl in
      let q : None ≡ answer (u.view u.planes) a b = cc in
      let s : y ≡ found (answer (l.view l.planes) a b) = g.reply ∙ rw e refl in
      let n = step_count u t f in
      record {
        reply = s ∙ rw (e, fall_found a b h, ← q) refl;
        planes_after = rw (f.planes_after, g.planes_after) refl;
        same_view = rw (n, f.same_view, g.same_view) refl;
        same_room = rw (n, f.same_room, g.same_room) refl;
        entries = rw (e, x.planes, x.view, ← q, f.entries, g.entries) refl;
      }
