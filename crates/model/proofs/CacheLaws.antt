-- A destination cache, by the table below it. Assumes nothing.
use Rattle.std.proofs.Common.{◌≡◌, ℕ, zero, suc, ◌<◌, ◌≤◌, Bool, true, false, cond, not, eqb, leb, ◌⊎◌, List, [], ◌∷◌, map, length, get_or, set, replicate, Some, None, sym, refl, ap, ◌∙◌, subst, inl, inr, arith}
use Rattle.std.proofs.lemmas.List.{get_or-set_same, get_or-set_other, set_past, set-get_or, get_or-map, get_or_past, length-map, length-set, map-set, get_or-replicate, length-replicate}
use Rattle.std.proofs.lemmas.Bool.{le-leb, eqb-true, cases_eq, cases_lt, cases_Bool, and_parts, true≢false}
use Rattle.bits.specs.Bits.{Bits, covers, equal}
use Rattle.bits.proofs.Orders.{equal_is, equal_self}
use Rattle.model.specs.Maps.{Visible, held}
use Rattle.model.specs.Longest.{answer}
use Rattle.model.specs.Machine.{Plane, Target, Answer, View, Room, Act, announce, withdraw, fetch, Call, on, lookup, Reply, found, plane, accepted, applied, next, reply_of}
use Rattle.model.specs.Slots.{Slot, slot, slot_of, in_full, holds_address, reaches, cleared}
use Rattle.model.specs.Stack.{Stack, cache, planes_of, room_of, after, UpToDate, AllUpToDate, Current, Described}
use Rattle.model.specs.Laws.{Agree, Local}
use Rattle.model.specs.Logs.{granted}
use Rattle.model.proofs.LogLaws.{Went, turned_down, went, how, accepted_plane}
use Rattle.model.proofs.MapLaws.{put_holds, removed_holds}
use Rattle.model.proofs.StackLaws.{after_nil}
use Rattle.model.proofs.Steps.{At, Step, DescribedAt}

-- a cache of n slots, with these entries, over a table at one moment
abbrev pub cached : ℕ → List Slot → At → At
cached n es s = record { planes = s.planes; view = s.view; room = s.room; stack = cache n es s.stack }

pub cache_described : {d : Stack} {ps : List Plane} {v : View} {r : Room} (n : ℕ) (es : List Slot) → Described d ps v r → Described (cache n es d) ps v r
cache_described n es x = record { planes = x.planes; view = x.view; room = x.room }

-- ---- the slot rule

-- the reply tells whether a call was accepted
granted_is : (v : View) (r : Room) (ps : List Plane) (c : Call) → granted (reply_of v r ps c) ≡ accepted r ps c
granted_is v r ps c = go (how v r ps c)
  where
    go : Went v r ps c → granted (reply_of v r ps c) ≡ accepted r ps c
    go (turned_down a t) = t ∙ sym a
    go (went a t y) = t ∙ sym a

-- the slots after an act, by its reply
abbrev pub slots_left : Act → Reply → List Slot → List Slot
slots_left act y es = cond (granted y) (map (cleared act) es) es

-- a fetch leaves every slot
pub fetch_leaves : (p : Bits) (es : List Slot) → map (cleared (fetch p)) es ≡ es
fetch_leaves p [] = refl
fetch_leaves p (None ∷ es) = ap (λ t. None ∷ t) (fetch_leaves p es)
fetch_leaves p (Some e ∷ es) = ap (λ t. Some e ∷ t) (fetch_leaves p es)

pub fetch_keeps : (p : Bits) (y : Reply) (es : List Slot) → es ≡ slots_left (fetch p) y es
fetch_keeps p y es = go (granted y)
  where
    go : (b : Bool) → es ≡ cond b (map (cleared (fetch p)) es) es
    go true = sym (fetch_leaves p es)
    go false = refl

-- ---- one call

module _ (n : ℕ) (es : List Slot) (s : At) (x : DescribedAt s) where
  -- what the description says of acceptance
  taken : (t : At) {c : Call} {y : Reply} → Step s t c y → accepted (room_of s.stack) (planes_of s.stack) c ≡ granted y
  taken t {c} {y} f = rw (x.planes, x.room) (sym (granted_is s.view s.room s.planes c) ∙ ap granted (sym f.reply))

  -- an act is passed on, and its reply says what happens to the slots
  pub cache_act : (t : At) {y : Reply} (i : ℕ) (act : Act) (es' : List Slot) → es' ≡ slots_left act y es → Step s t (on i act) y → Step (cached n es s) (cached n es' t) (on i act) y
  cache_act t i act es' e f = record {
    reply = f.reply;
    planes_after = f.planes_after;
    same_view = f.same_view;
    same_room = f.same_room;
    entries = rw (taken t f, e, f.entries) refl;
  }

  -- a lookup in which the slots take no part is passed on
  pub cache_past : (t : At) {y : Reply} (a : Bits) (b : ℕ) → in_full n a b ≡ false → Step s t (lookup a b) y → Step (cached n es s) (cached n es t) (lookup a b) y
  cache_past t a b out f = record {
    reply = f.reply;
    planes_after = f.planes_after;
    same_view = f.same_view;
    same_room = f.same_room;
    entries = rw (out, f.entries) (ap (λ o. cache n o (after s.stack (lookup a b ∷ []))) (stay (accepted (room_of s.stack) (planes_of s.stack) (lookup a b))));
  }
    where
      stay : (b : Bool) → es ≡ cond b es es
      stay true = refl
      stay false = refl

  -- the answer found below is the one that its planes give
  pub found_now : (t : At) (a : Bits) (b : ℕ) (w : Answer) → b ≡ length a → Step s t (lookup a b) (found w) → w ≡ answer (s.view s.planes) a (length a)
  found_now t a b w l f =
      let u : leb b (length a) ≡ true = le-leb b (length a) (omega arith) in
      let y : found w ≡ found (answer (s.view s.planes) a b) = f.reply ∙ rw u refl in
      let z : w ≡ answer (s.view s.planes) a b = cc in
      z ∙ ap (answer (s.view s.planes) a) l

  -- a miss stores what is found below
  pub cache_miss : (t : At) (es' : List Slot) (a : Bits) (b : ℕ) (w : Answer) → es' ≡ set es (slot_of n a) (Some (a, w)) → in_full n a b ≡ true → b ≡ length a → holds_address (slot es (slot_of n a)) a ≡ false → Step s t (lookup a b) (found w) → Step (cached n es s) (cached n es' t) (lookup a b) (found w)
  cache_miss t es' a b w e full l miss f =
      let z : answer (s.view s.planes) a b ≡ w = ap (answer (s.view s.planes) a) l ∙ sym (found_now t a b w l f) in
      record {
        reply = f.reply;
        planes_after = f.planes_after;
        same_view = f.same_view;
        same_room = f.same_room;
        entries = rw (e, taken t f, full, miss, x.planes, x.view, z, f.entries) refl;
      }

  -- a hit: the layer below is left alone
  pub cache_hit : (a : Bits) (b : ℕ) (w : Answer) → in_full n a b ≡ true → b ≡ length a → slot es (slot_of n a) ≡ Some (a, w) → w ≡ answer (s.view s.planes) a (length a) → Step (cached n es s) (cached n es s) (lookup a b) (found w)
  cache_hit a b w full l e now =
      let u : leb b (length a) ≡ true = le-leb b (length a) (omega arith) in
      let y : answer (s.view s.planes) a b ≡ w = ap (answer (s.view s.planes) a) l ∙ sym now in
      let k : set es (slot_of n a) (Some (a, w)) ≡ es = ap (set es (slot_of n a)) (sym e) ∙ set-get_or es (slot_of n a) None in
      record {
        reply = rw (u) (ap found (sym y));
        planes_after = refl;
        same_view = refl;
        same_room = refl;
        entries = rw (u, full, e, equal_self a, after_nil s.stack, x.planes, x.view, y, k) refl;
      }

-- ---- entries stay up to date

-- the map that lookups see after a call
seen_after : (s t : At) {c : Call} {y : Reply} → Step s t c y → t.view t.planes ≡ s.view (next s.room s.planes c)
seen_after s t f = rw (f.same_view, f.planes_after) refl

-- after a lookup nothing else is seen
pub current_looked : (s t : At) {a : Bits} {b : ℕ} {y : Reply} (es : List Slot) → Step s t (lookup a b) y → AllUpToDate (s.view s.planes) es → AllUpToDate (t.view t.planes) es
current_looked s t es f h = rw (seen_after s t f) h

-- one entry more
pub current_stored : (m : Visible Target) (es es' : List Slot) (k : ℕ) (a : Bits) (w : Answer) → es' ≡ set es k (Some (a, w)) → w ≡ answer m a (length a) → AllUpToDate m es → AllUpToDate m es'
current_stored m es es' k a w s e h = rw s (record { at = λ i. go i (cases_eq i k) (cases_lt k (length es)) })
  where
    go : (i : ℕ) → (i ≡ k) ⊎ (i ≡ k → ⊥) → (k < length es) ⊎ (length es ≤ k) → UpToDate m (slot (set es k (Some (a, w))) i)
    go i (inl f) (inl g) = rw (f, get_or-set_same es k (Some (a, w)) None g) e
    go i (inl f) (inr g) = rw (set_past es k (Some (a, w)) g) (h.at i)
    go i (inr f) g = rw (get_or-set_other es k i (Some (a, w)) None f) (h.at i)

-- a prefix that covers the address is not the one of an update that does not
apart : (q p a : Bits) → covers q a ≡ false → covers p a ≡ true → equal p q ≡ false
apart q p a out c = go (cases_Bool (equal p q))
  where
    go : (equal p q ≡ true) ⊎ (equal p q ≡ false) → equal p q ≡ false
    go (inl e) = absurd (true≢false (sym c ∙ ap (λ r. covers r a) (equal_is p q e) ∙ out))
    go (inr e) = e

unreached : (m : Plane) (act : Act) (a p : Bits) → reaches act a ≡ false → covers p a ≡ true → held (applied m act) p ≡ held m p
unreached m (announce q h) a p out c = put_holds m q h p ∙ rw (apart q p a out c) refl
unreached m (withdraw q) a p out c = removed_holds m q p ∙ rw (apart q p a out c) refl
unreached m (fetch q) a p out c = refl

-- an act that does not reach the address leaves all that covers it
agree_applied : (ps : List Plane) (i : ℕ) (act : Act) (a : Bits) → i < length ps → reaches act a ≡ false → Agree (set ps i (applied (plane ps i) act)) ps a
agree_applied ps i act a l out = record { count = length-set ps i (applied (plane ps i) act); routes = λ j p c. go j p c (cases_eq j i) }
  where
    go : (j : ℕ) (p : Bits) → covers p a ≡ true → (j ≡ i) ⊎ (j ≡ i → ⊥) → held (plane (set ps i (applied (plane ps i) act)) j) p ≡ held (plane ps j) p
    go j p c (inl e) = rw (e, get_or-set_same ps i (applied (plane ps i) act) [] l) (unreached (plane ps i) act a p out c)
    go j p c (inr e) = ap (λ (m : Plane). held m p) (get_or-set_other ps i j (applied (plane ps i) act) [] e)

-- so it gets the same answer: the one place where locality is used
unreached_answer : (v : View) (r : Room) (ps : List Plane) (i : ℕ) (act : Act) (a : Bits) → Local v → accepted r ps (on i act) ≡ true → reaches act a ≡ false → answer (v ps) a (length a) ≡ answer (v (set ps i (applied (plane ps i) act))) a (length a)
unreached_answer v r ps i act a local t out =
    sym (local (set ps i (applied (plane ps i) act)) ps a (agree_applied ps i act a (accepted_plane r ps i act t) out) (length a) (omega arith))

-- the entries that an accepted update leaves
current_cleared : (v : View) (r : Room) (ps : List Plane) (i : ℕ) (act : Act) (es : List Slot) → Local v → accepted r ps (on i act) ≡ true → AllUpToDate (v ps) es → AllUpToDate (v (set ps i (applied (plane ps i) act))) (map (cleared act) es)
current_cleared v r ps i act es local t h = record { at = λ k. at k (cases_lt k (length es)) }
  where
    one : (e : Slot) → UpToDate (v ps) e → UpToDate (v (set ps i (applied (plane ps i) act))) (cleared act e)
    one None c = tt
    one (Some e) c = two (reaches act e.0) refl
      where
        two : (b : Bool) → reaches act e.0 ≡ b → UpToDate (v (set ps i (applied (plane ps i) act))) (cond b None (Some e))
        two true f = tt
        two false f = c ∙ unreached_answer v r ps i act e.0 local t f

    at : (k : ℕ) → (k < length es) ⊎ (length es ≤ k) → UpToDate (v (set ps i (applied (plane ps i) act))) (slot (map (cleared act) es) k)
    at k (inl l) = rw (get_or-map (cleared act) es k None None l) (one (slot es k) (h.at k))
    at k (inr l) = rw (get_or_past (map (cleared act) es) k None (simp length-map l)) tt

-- after an act, by its reply
pub current_acted : (s t : At) {y : Reply} (i : ℕ) (act : Act) (es es' : List Slot) → Local s.view → es' ≡ slots_left act y es → Step s t (on i act) y → AllUpToDate (s.view s.planes) es → AllUpToDate (t.view t.planes) es'
current_acted s t {y} i act es es' local e f h = rw (seen_after s t f, e) (go (accepted s.room s.planes (on i act)) refl)
  where
    said : granted y ≡ accepted s.room s.planes (on i act)
    said = ap granted f.reply ∙ granted_is s.view s.room s.planes (on i act)

    go : (b : Bool) → accepted s.room s.planes (on i act) ≡ b → AllUpToDate (s.view (next s.room s.planes (on i act))) (slots_left act y es)
    go true b = rw (said, b) (current_cleared s.view s.room s.planes i act es local b h)
    go false b = rw (said, b) h

-- empty slots
pub current_empty : (m : Visible Target) (n : ℕ) → AllUpToDate m (replicate n None)
current_empty m n = record { at = λ k. subst (λ z. UpToDate m z) (sym (go k (cases_lt k n))) tt }
  where
    go : (k : ℕ) → (k < n) ⊎ (n ≤ k) → slot (replicate n None) k ≡ None
    go k (inl l) = get_or-replicate n k None None l
    go k (inr l) = get_or_past (replicate n None) k None (simp length-replicate l)

-- the entries of a stack are current where the cache's are and those below
pub cache_current : {d : Stack} {ps : List Plane} {v : View} {r : Room} (n : ℕ) (es : List Slot) → Described d ps v r → AllUpToDate (v ps) es → Current d → Current (cache n es d)
cache_current n es x h c = (rw (x.planes, x.view) h, c)

-- ---- the test of a lookup

pub full_bound : (n : ℕ) (a : Bits) (b : ℕ) → in_full n a b ≡ true → b ≡ length a
full_bound n a b f = eqb-true b (length a) (and_parts (not (eqb n 0)) (eqb b (length a)) f).1

-- ---- slots that are kept as other values

module _ {X : Type 0} (f : X → Slot) (xs : List X) where
  -- what is read
  pub slot_read : (i j : ℕ) (d : X) → i ≡ j → i < length xs → slot (map f xs) j ≡ f (get_or xs i d)
  slot_read i j d e l = ap (λ k. slot (map f xs) k) (sym e) ∙ get_or-map f xs i d None l

  -- what stands there after one is written
  pub slot_written : (i j : ℕ) (y : X) → i ≡ j → map f (set xs i y) ≡ set (map f xs) j (f y)
  slot_written i j y e = map-set f xs i y ∙ ap (λ k. set (map f xs) k (f y)) e

-- slots that all hold nothing
pub slots_empty : {X : Type 0} (f : X → Slot) (x : X) (n : ℕ) (xs : List X) → xs ≡ replicate n x → f x ≡ None → map f xs ≡ replicate n None
slots_empty f x n xs h e = ap (map f) h ∙ go n
  where
    go : (n : ℕ) → map f (replicate n x) ≡ replicate n None
    go zero = refl
    go (suc n) = rw e (ap (λ t. None ∷ t) (go n))
