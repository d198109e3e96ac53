-- What lists of calls leave of a stack of layers. Assumes nothing.
use Rattle.std.proofs.Common.{◌≡◌, ℕ, zero, suc, ◌-◌, ◌<◌, ◌≤◌, Bool, true, false, cond, not, ◌&&◌, eqb, ltb, leb, ◌⊎◌, List, [], ◌∷◌, ◌++◌, length, take, set, is_some, Some, None, Option, sym, refl, ap, ◌∙◌, inl, inr, append_assoc, arith}
use mathlib.Core.Path.{fun_ext}
use Rattle.std.proofs.lemmas.List.{length-set, length-append, get_or_append_left, get_or-append_right, set-append_left, set-append_right}
use Rattle.std.proofs.lemmas.Bool.{ltb-true, ltb-false, lt-ltb, le-ltb, leb-false, cases_lt, cond-true, cond-false, true≢false, false≢true, ne_eqb}
use Rattle.bits.specs.Bits.{Bits}
use Rattle.model.specs.Maps.{Visible}
use Rattle.model.specs.Views.{Rule, permits}
use Rattle.model.specs.Longest.{answer}
use Rattle.model.specs.Machine.{Plane, Target, Answer, View, Room, Act, announce, withdraw, fetch, Call, on, lookup, plane, reads, act_refusal, refusal_of, accepted, applied, next, reply_of, replies, end}
use Rattle.model.specs.Slots.{Slot, slot, slot_of, holds_address, hits, slot_rule, slots_after}
use Rattle.model.specs.Stack.{Stack, table, cache, filter, fall, planes_of, view_of, room_of, filter_view, fall_room, cache_sends, cache_sent, past, asked_again, filter_sends, filter_sent, upper_gets, lower_gets, upper_sent, lower_sent, if_none, after}

-- ---- the machine over lists

pub end_append : (r : Room) (ps : List Plane) (xs ys : List Call) → end r ps (xs ++ ys) ≡ end r (end r ps xs) ys
end_append r ps [] ys = refl
end_append r ps (c ∷ xs) ys = end_append r (next r ps c) xs ys

pub replies_append : (v : View) (r : Room) (ps : List Plane) (xs ys : List Call) → replies v r ps (xs ++ ys) ≡ replies v r ps xs ++ replies v r (end r ps xs) ys
replies_append v r ps [] ys = refl
replies_append v r ps (c ∷ xs) ys = ap (λ t. reply_of v r ps c ∷ t) (replies_append v r (next r ps c) xs ys)

pub length_replies : (v : View) (r : Room) (ps : List Plane) (cs : List Call) → length (replies v r ps cs) ≡ length cs
length_replies v r ps [] = refl
length_replies v r ps (c ∷ cs) = ap suc (length_replies v r (next r ps c) cs)

pub length_next : (r : Room) (ps : List Plane) (c : Call) → length (next r ps c) ≡ length ps
length_next r ps (on i act) = go (accepted r ps (on i act))
  where
    go : (b : Bool) → length (cond b (set ps i (applied (plane ps i) act)) ps) ≡ length ps
    go true = length-set ps i (applied (plane ps i) act)
    go false = refl
length_next r ps (lookup a b) = refl

pub length_end : (r : Room) (ps : List Plane) (cs : List Call) → length (end r ps cs) ≡ length ps
length_end r ps [] = refl
length_end r ps (c ∷ cs) = length_end r (next r ps c) cs ∙ length_next r ps c

-- ---- what a cache sends down

-- a cache sends down every act, and lookups leave the planes
sends_end : (n : ℕ) (r : Room) (ps : List Plane) (es : List Slot) (c : Call) → end r ps (cache_sends n es c) ≡ next r ps c
sends_end n r ps es (on i act) = refl
sends_end n r ps es (lookup a b) = go (hits n es a b)
  where
    go : (x : Bool) → end r ps (cond x [] (lookup a b ∷ [])) ≡ ps
    go true = refl
    go false = refl

pub sent_end : (n : ℕ) (v : View) (r : Room) (ps : List Plane) (es : List Slot) (cs : List Call) → end r ps (cache_sent n v r ps es cs) ≡ end r ps cs
sent_end n v r ps es [] = refl
sent_end n v r ps es (c ∷ cs) =
    end_append r ps (cache_sends n es c) (cache_sent n v r (next r ps c) (slot_rule n v r ps es c) cs)
    ∙ rw (sends_end n r ps es c) (sent_end n v r (next r ps c) (slot_rule n v r ps es c) cs)

-- ---- what a filter sends down

again_end : (q : List Rule) (s : Visible Target) (a : Bits) (b : ℕ) (r : Room) (ps : List Plane) → end r ps (asked_again q s a b) ≡ ps
again_end q s a zero r ps = refl
again_end q s a (suc k) r ps = go (again_end q s a k r ps) (s (take (suc k) a)) (permits q (take (suc k) a))
  where
    go : end r ps (asked_again q s a k) ≡ ps → (o : Option Target) (p : Bool) → end r ps (past o p (lookup a k ∷ asked_again q s a k) (asked_again q s a k)) ≡ ps
    go x None p = x
    go x (Some h) true = refl
    go x (Some h) false = x

filter_ends : (q : List Rule) (v : View) (r : Room) (ps : List Plane) (c : Call) → end r ps (filter_sends q v ps c) ≡ next r ps c
filter_ends q v r ps (on i act) = refl
filter_ends q v r ps (lookup a b) = go (leb b (length a))
  where
    go : (t : Bool) → end r ps (cond t (lookup a b ∷ asked_again q (v ps) a b) []) ≡ ps
    go true = again_end q (v ps) a b r ps
    go false = refl

pub filter_end : (q : List Rule) (v : View) (r : Room) (ps : List Plane) (cs : List Call) → end r ps (filter_sent q v r ps cs) ≡ end r ps cs
filter_end q v r ps [] = refl
filter_end q v r ps (c ∷ cs) =
    end_append r ps (filter_sends q v ps c) (filter_sent q v r (next r ps c) cs)
    ∙ rw (filter_ends q v r ps c) (filter_end q v r (next r ps c) cs)

-- ---- what a fall-through sends down

module _ (r s : Room) (k : ℕ) where
  room_upper : (i : ℕ) → ltb i k ≡ true → fall_room k r s i ≡ r i
  room_upper i f = fun_ext (λ m. cond-true (ltb i k) (r i m) (s (i - k) m) f)

  room_lower : (i : ℕ) → ltb i k ≡ false → fall_room k r s i ≡ s (i - k)
  room_lower i f = fun_ext (λ m. cond-false (ltb i k) (r i m) (s (i - k) m) f)

  module _ (ps qs : List Plane) (e : length ps ≡ k) where
    joined_length : (i : ℕ) → ltb i k ≡ false → ltb i (length (ps ++ qs)) ≡ ltb (i - k) (length qs)
    joined_length i f = go (cases_lt (i - k) (length qs))
      where
        ge : k ≤ i
        ge = ltb-false i k f

        go : (i - k < length qs) ⊎ (length qs ≤ i - k) → ltb i (length (ps ++ qs)) ≡ ltb (i - k) (length qs)
        go (inl x) = lt-ltb i _ (simp length-append (omega (arith, ge))) ∙ sym (lt-ltb (i - k) (length qs) x)
        go (inr x) = le-ltb i _ (simp length-append (omega (arith, ge))) ∙ sym (le-ltb (i - k) (length qs) x)

    -- an act on a plane of the upper table is refused as there
    pub refusal_upper : (i : ℕ) (act : Act) → ltb i k ≡ true → refusal_of (fall_room k r s) (ps ++ qs) (on i act) ≡ refusal_of r ps (on i act)
    refusal_upper i act f =
        let l : i < length ps = omega (arith, ltb-true i k f) in
        let l2 : ltb i (length (ps ++ qs)) ≡ true = lt-ltb i _ (simp length-append (omega arith)) in
        let l1 : ltb i (length ps) ≡ true = lt-ltb i _ l in
        let g : plane (ps ++ qs) i ≡ plane ps i = get_or_append_left ps qs [] i l in
        rw (l2, l1, g) (ap (λ fits. act_refusal fits (plane ps i) act) (room_upper i f))

    -- and one on any other plane as in the lower
    pub refusal_lower : (i : ℕ) (act : Act) → ltb i k ≡ false → refusal_of (fall_room k r s) (ps ++ qs) (on i act) ≡ refusal_of s qs (on (i - k) act)
    refusal_lower i act f =
        let ge : k ≤ i = ltb-false i k f in
        let g : plane (ps ++ qs) i ≡ plane qs (i - k) = get_or-append_right ps qs k i [] e ge in
        rw (joined_length i f, g) (ap (λ fits. cond (ltb (i - k) (length qs)) (act_refusal fits (plane qs (i - k)) act) (Some 6)) (room_lower i f))

    pub next_upper : (i : ℕ) (act : Act) → ltb i k ≡ true → next (fall_room k r s) (ps ++ qs) (on i act) ≡ next r ps (on i act) ++ qs
    next_upper i act f =
        let l : i < length ps = omega (arith, ltb-true i k f) in
        let g : plane (ps ++ qs) i ≡ plane ps i = get_or_append_left ps qs [] i l in
        rw (refusal_upper i act f, g, set-append_left ps qs i (applied (plane ps i) act) l) (pull (accepted r ps (on i act)))
      where
        pull : (b : Bool) → cond b (set ps i (applied (plane ps i) act) ++ qs) (ps ++ qs) ≡ cond b (set ps i (applied (plane ps i) act)) ps ++ qs
        pull true = refl
        pull false = refl

    pub next_lower : (i : ℕ) (act : Act) → ltb i k ≡ false → next (fall_room k r s) (ps ++ qs) (on i act) ≡ ps ++ next s qs (on (i - k) act)
    next_lower i act f =
        let ge : k ≤ i = ltb-false i k f in
        let g : plane (ps ++ qs) i ≡ plane qs (i - k) = get_or-append_right ps qs k i [] e ge in
        rw (refusal_lower i act f, g, set-append_right ps qs k i (applied (plane qs (i - k)) act) e ge) (pull (accepted s qs (on (i - k) act)))
      where
        pull : (b : Bool) → cond b (ps ++ set qs (i - k) (applied (plane qs (i - k)) act)) (ps ++ qs) ≡ ps ++ cond b (set qs (i - k) (applied (plane qs (i - k)) act)) qs
        pull true = refl
        pull false = refl

module _ (r s : Room) (v : View) where
  pub fall_next : (k : ℕ) (ps qs : List Plane) (c : Call) → length ps ≡ k → next (fall_room k r s) (ps ++ qs) c ≡ end r ps (upper_gets k c) ++ end s qs (lower_gets k v ps c)
  fall_next k ps qs (on i act) e = go (ltb i k) refl
    where
      go : (b : Bool) → ltb i k ≡ b → next (fall_room k r s) (ps ++ qs) (on i act) ≡ end r ps (cond b (on i act ∷ []) []) ++ end s qs (cond b [] (on (i - k) act ∷ []))
      go true f = next_upper r s k ps qs e i act f
      go false f = next_lower r s k ps qs e i act f
  fall_next k ps qs (lookup a b) e = go (leb b (length a)) (answer (v ps) a b)
    where
      go : (t : Bool) (x : Answer) → ps ++ qs ≡ ps ++ end s qs (cond t (if_none x (lookup a b ∷ [])) [])
      go true None = refl
      go true (Some x) = refl
      go false x = refl

  pub fall_end : (k : ℕ) (ps qs : List Plane) (cs : List Call) → length ps ≡ k → end (fall_room k r s) (ps ++ qs) cs ≡ end r ps (upper_sent k cs) ++ end s qs (lower_sent k v r ps cs)
  fall_end k ps qs [] e = refl
  fall_end k ps qs (c ∷ cs) e =
      let x = fall_next k ps qs c e in
      let i = fall_end k (end r ps (upper_gets k c)) (end s qs (lower_gets k v ps c)) cs (length_end r ps (upper_gets k c) ∙ e) in
      rw (x, i, end_append r ps (upper_gets k c) (upper_sent k cs), end_append s qs (lower_gets k v ps c) (lower_sent k v r (end r ps (upper_gets k c)) cs)) refl

-- ---- the stack after no calls, and planes, view and room after some

pub after_nil : (d : Stack) → after d [] ≡ d
after_nil (table ps v r) = refl
after_nil (cache n es d) = ap (cache n es) (after_nil d)
after_nil (filter q d) = ap (filter q) (after_nil d)
after_nil (fall u l) = rw (after_nil u, after_nil l) refl

pub record Kept (d e : Stack) (cs : List Call) : Type 0 where
  pub planes : planes_of e ≡ end (room_of d) (planes_of d) cs
  pub view : view_of e ≡ view_of d
  pub room : room_of e ≡ room_of d

pub kept : (d : Stack) (cs : List Call) → Kept d (after d cs) cs
kept (table ps v r) cs = record { planes = refl; view = refl; room = refl }
kept (cache n es d) cs =
    let k = kept d (cache_sent n (view_of d) (room_of d) (planes_of d) es cs) in
    record { planes = k.planes ∙ sent_end n (view_of d) (room_of d) (planes_of d) es cs; view = k.view; room = k.room }
kept (filter q d) cs =
    let k = kept d (filter_sent q (view_of d) (room_of d) (planes_of d) cs) in
    record { planes = k.planes ∙ filter_end q (view_of d) (room_of d) (planes_of d) cs; view = ap (filter_view q) k.view; room = k.room }
kept (fall u l) cs =
    let k = kept u (upper_sent (length (planes_of u)) cs) in
    let m = kept l (lower_sent (length (planes_of u)) (view_of u) (room_of u) (planes_of u) cs) in
    let n : length (planes_of (after u (upper_sent (length (planes_of u)) cs))) ≡ length (planes_of u) = ap length k.planes ∙ length_end (room_of u) (planes_of u) (upper_sent (length (planes_of u)) cs) in
    record {
      planes = rw (k.planes, m.planes) (sym (fall_end (room_of u) (room_of l) (view_of u) (length (planes_of u)) (planes_of u) (planes_of l) cs refl));
      view = rw (n, k.view, m.view) refl;
      room = rw (n, k.room, m.room) refl;
    }

-- ---- one list after another

slots_append : (n : ℕ) (v : View) (r : Room) (ps : List Plane) (es : List Slot) (xs ys : List Call) → slots_after n v r ps es (xs ++ ys) ≡ slots_after n v r (end r ps xs) (slots_after n v r ps es xs) ys
slots_append n v r ps es [] ys = refl
slots_append n v r ps es (c ∷ xs) ys = slots_append n v r (next r ps c) (slot_rule n v r ps es c) xs ys

sent_append : (n : ℕ) (v : View) (r : Room) (ps : List Plane) (es : List Slot) (xs ys : List Call) → cache_sent n v r ps es (xs ++ ys) ≡ cache_sent n v r ps es xs ++ cache_sent n v r (end r ps xs) (slots_after n v r ps es xs) ys
sent_append n v r ps es [] ys = refl
sent_append n v r ps es (c ∷ xs) ys =
    rw (sent_append n v r (next r ps c) (slot_rule n v r ps es c) xs ys) (sym (append_assoc (cache_sends n es c) _ _))

filter_append : (q : List Rule) (v : View) (r : Room) (ps : List Plane) (xs ys : List Call) → filter_sent q v r ps (xs ++ ys) ≡ filter_sent q v r ps xs ++ filter_sent q v r (end r ps xs) ys
filter_append q v r ps [] ys = refl
filter_append q v r ps (c ∷ xs) ys = rw (filter_append q v r (next r ps c) xs ys) (sym (append_assoc (filter_sends q v ps c) _ _))

upper_append : (k : ℕ) (xs ys : List Call) → upper_sent k (xs ++ ys) ≡ upper_sent k xs ++ upper_sent k ys
upper_append k [] ys = refl
upper_append k (c ∷ xs) ys = rw (upper_append k xs ys) (sym (append_assoc (upper_gets k c) _ _))

lower_append : (k : ℕ) (v : View) (r : Room) (ps : List Plane) (xs ys : List Call) → lower_sent k v r ps (xs ++ ys) ≡ lower_sent k v r ps xs ++ lower_sent k v r (end r ps (upper_sent k xs)) ys
lower_append k v r ps [] ys = refl
lower_append k v r ps (c ∷ xs) ys =
    rw (lower_append k v r (end r ps (upper_gets k c)) xs ys, end_append r ps (upper_gets k c) (upper_sent k xs)) (sym (append_assoc (lower_gets k v ps c) _ _))

pub after_append : (d : Stack) (xs ys : List Call) → after d (xs ++ ys) ≡ after (after d xs) ys
after_append (table ps v r) xs ys = rw (end_append r ps xs ys) refl
after_append (cache n es d) xs ys =
    let v = view_of d in let r = room_of d in let ps = planes_of d in
    let k = kept d (cache_sent n v r ps es xs) in
    let e : planes_of (after d (cache_sent n v r ps es xs)) ≡ end r ps xs = k.planes ∙ sent_end n v r ps es xs in
    rw (k.view, k.room, e, slots_append n v r ps es xs ys, sent_append n v r ps es xs ys, after_append d (cache_sent n v r ps es xs) (cache_sent n v r (end r ps xs) (slots_after n v r ps es xs) ys)) refl
after_append (filter q d) xs ys =
    let v = view_of d in let r = room_of d in let ps = planes_of d in
    let k = kept d (filter_sent q v r ps xs) in
    let e : planes_of (after d (filter_sent q v r ps xs)) ≡ end r ps xs = k.planes ∙ filter_end q v r ps xs in
    rw (k.view, k.room, e, filter_append q v r ps xs ys, after_append d (filter_sent q v r ps xs) (filter_sent q v r (end r ps xs) ys)) refl
after_append (fall u l) xs ys =
    let v = view_of u in let r = room_of u in let ps = planes_of u in let q = length (planes_of u) in
    let k = kept u (upper_sent q xs) in
    let n : length (planes_of (after u (upper_sent q xs))) ≡ q = ap length k.planes ∙ length_end r ps (upper_sent q xs) in
    rw (n, k.view, k.room, k.planes, upper_append q xs ys, lower_append q v r ps xs ys, after_append u (upper_sent q xs) (upper_sent q ys), after_append l (lower_sent q v r ps xs) (lower_sent q v r (end r ps (upper_sent q xs)) ys)) refl

-- ---- a refused call

pub next_refused : (r : Room) (ps : List Plane) (c : Call) → accepted r ps c ≡ false → next r ps c ≡ ps
next_refused r ps (on i act) f = rw f refl
next_refused r ps (lookup a b) f = refl

-- a fetch or a lookup leaves the planes
set_own : (ps : List Plane) (i : ℕ) → set ps i (plane ps i) ≡ ps
set_own [] i = refl
set_own (m ∷ ps) zero = refl
set_own (m ∷ ps) (suc i) = ap (λ qs. m ∷ qs) (set_own ps i)

pub next_reads : (r : Room) (ps : List Plane) (c : Call) → reads c ≡ true → next r ps c ≡ ps
next_reads r ps (on i (announce p h)) e = absurd (false≢true e)
next_reads r ps (on i (withdraw p)) e = absurd (false≢true e)
next_reads r ps (on i (fetch p)) e = go (accepted r ps (on i (fetch p)))
  where
    go : (b : Bool) → cond b (set ps i (plane ps i)) ps ≡ ps
    go true = set_own ps i
    go false = refl
next_reads r ps (lookup a b) e = refl

-- a lookup past the address's width
too_long : (r : Room) (ps : List Plane) (a : Bits) (b : ℕ) → accepted r ps (lookup a b) ≡ false → leb b (length a) ≡ false
too_long r ps a b f = go (leb b (length a)) f
  where
    go : (t : Bool) → not (is_some {T = ℕ} (cond t None (Some 12))) ≡ false → t ≡ false
    go true g = absurd (true≢false g)
    go false g = refl

no_hit : (n : ℕ) (es : List Slot) (a : Bits) (b : ℕ) → leb b (length a) ≡ false → hits n es a b ≡ false
no_hit n es a b f =
    let z : eqb b (length a) ≡ false = ne_eqb b (length a) (λ e. omega (arith, leb-false b (length a) f)) in
    rw z (go (not (eqb n 0)))
  where
    go : (t : Bool) → ((t && false) && holds_address (slot es (slot_of n a)) a) ≡ false
    go true = refl
    go false = refl

-- it leaves every layer as it was
pub after_refused : (d : Stack) (c : Call) → accepted (room_of d) (planes_of d) c ≡ false → after d (c ∷ []) ≡ d
after_refused (table ps v r) c f = ap (λ qs. table qs v r) (next_refused r ps c f)
after_refused (cache n es d) (on i act) f = rw (f, after_refused d (on i act) f) refl
after_refused (cache n es d) (lookup a b) f = rw (f, no_hit n es a b (too_long (room_of d) (planes_of d) a b f), after_refused d (lookup a b) f) refl
after_refused (filter q d) (on i act) f = rw (after_refused d (on i act) f) refl
after_refused (filter q d) (lookup a b) f = rw (too_long (room_of d) (planes_of d) a b f, after_nil d) refl
after_refused (fall u l) (on i act) f = go (after_refused u (on i act)) (after_refused l (on (i - length (planes_of u)) act)) (ltb i (length (planes_of u))) refl
  where
    go : (accepted (room_of u) (planes_of u) (on i act) ≡ false → after u (on i act ∷ []) ≡ u)
        → (accepted (room_of l) (planes_of l) (on (i - length (planes_of u)) act) ≡ false → after l (on (i - length (planes_of u)) act ∷ []) ≡ l)
        → (b : Bool) → ltb i (length (planes_of u)) ≡ b
        → fall (after u (cond b (on i act ∷ []) [] ++ [])) (after l (cond b [] (on (i - length (planes_of u)) act ∷ []) ++ [])) ≡ fall u l
    go x y true t = rw (x (ap (λ o. not (is_some o)) (sym (refusal_upper (room_of u) (room_of l) (length (planes_of u)) (planes_of u) (planes_of l) refl i act t)) ∙ f), after_nil l) refl
    go x y false t = rw (after_nil u, y (ap (λ o. not (is_some o)) (sym (refusal_lower (room_of u) (room_of l) (length (planes_of u)) (planes_of u) (planes_of l) refl i act t)) ∙ f)) refl
after_refused (fall u l) (lookup a b) f = rw (after_refused u (lookup a b) f, too_long (room_of u) (planes_of u) a b f, after_nil l) refl
