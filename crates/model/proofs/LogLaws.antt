-- What planes and slots hold after a list of calls. Assumes nothing.
use Rattle.std.proofs.Common.{◌≡◌, ℕ, zero, suc, ◌<◌, Bool, true, false, cond, not, ◌&&◌, ◌||◌, eqb, ltb, ◌⊎◌, ◌↔◌, List, [], ◌∷◌, map, length, set, is_some, Some, None, Option, sym, refl, ap, ◌∙◌, subst, inl, inr, arith}
use Rattle.std.proofs.lemmas.Bool.{cases_Bool, true≢false, false≢true, ltb-true, eqb-true, eqb-false, and_parts, and_cases}
use Rattle.std.proofs.lemmas.List.{get_or-set_same, get_or-set_other, length-set, length-map}
use Rattle.bits.specs.Bits.{Bits}
use Rattle.model.specs.Maps.{held, put, removed}
use Rattle.model.specs.Longest.{answer}
use Rattle.model.specs.Machine.{Hop, Plane, Answer, View, Room, Act, announce, withdraw, fetch, Call, on, lookup, Reply, done, found, plane, act_refusal, refusal_of, accepted, applied, next, act_reply, accepted_reply, unless_refused, reply_of, end}
use Rattle.model.specs.Slots.{Slot, slot, slot_of, in_full, reaches, cleared, slot_rule, slots_after}
use Rattle.model.specs.Since.{Since}
use Rattle.model.specs.Logs.{Event, event, log, granted, names, updates, updated, fell, covered, HoldsByLog, CachedByLog}
use Rattle.bits.proofs.Orders.{equal_is}
use Rattle.model.proofs.MapLaws.{put_holds, removed_holds}
use Rattle.model.proofs.Since.{since_none, since_more, since_either, iff_trans}

-- ---- an accepted call, by its reply

act_taken : (m : Plane) (act : Act) → granted (act_reply m act) ≡ true
act_taken m (announce p h) = refl
act_taken m (withdraw p) = refl
act_taken m (fetch p) = refl

reply_taken : (v : View) (ps : List Plane) (c : Call) → granted (accepted_reply v ps c) ≡ true
reply_taken v ps (on i act) = act_taken (plane ps i) act
reply_taken v ps (lookup a b) = refl

-- the call was refused, or it was accepted and got its reply
pub data Went (v : View) (r : Room) (ps : List Plane) (c : Call) : Type 0 where
  turned_down : accepted r ps c ≡ false → granted (reply_of v r ps c) ≡ false → Went v r ps c
  went : accepted r ps c ≡ true → granted (reply_of v r ps c) ≡ true → reply_of v r ps c ≡ accepted_reply v ps c → Went v r ps c

pub how : (v : View) (r : Room) (ps : List Plane) (c : Call) → Went v r ps c
how v r ps c = go (refusal_of r ps c) refl
  where
    go : (o : Option ℕ) → refusal_of r ps c ≡ o → Went v r ps c
    go None e = went (ap (λ o. not (is_some o)) e) (ap (λ o. granted (unless_refused o (accepted_reply v ps c))) e ∙ reply_taken v ps c) (ap (λ o. unless_refused o (accepted_reply v ps c)) e)
    go (Some n) e = turned_down (ap (λ o. not (is_some o)) e) (ap (λ o. granted (unless_refused o (accepted_reply v ps c))) e)

-- what a call's event passes: it was accepted, and the call is such
passed : (b d : Bool) (t : Bool) → (b && d) ≡ t → b ≡ true → d ≡ t
passed true d t e f = e
passed false d t e f = absurd (false≢true f)

-- ---- planes

pub accepted_plane : (r : Room) (ps : List Plane) (j : ℕ) (act : Act) → accepted r ps (on j act) ≡ true → j < length ps
accepted_plane r ps j act e = go (ltb j (length ps)) refl e
  where
    go : (b : Bool) → ltb j (length ps) ≡ b → not (is_some (cond b (act_refusal (r j) (plane ps j) act) (Some 6))) ≡ true → j < length ps
    go true f g = ltb-true j (length ps) f
    go false f g = absurd (false≢true g)

-- an act changes what a plane holds only at the prefix that it names
applied_other : (m : Plane) (act : Act) (p : Bits) → names act p ≡ false → held (applied m act) p ≡ held m p
applied_other m (announce q h) p e = put_holds m q h p ∙ rw e refl
applied_other m (withdraw q) p e = removed_holds m q p ∙ rw e refl
applied_other m (fetch q) p e = refl

module _ (v : View) (r : Room) (i : ℕ) (p : Bits) (h : Hop) where
  applied_names : (m : Plane) (act : Act) (y : Reply) → y ≡ act_reply m act → names act p ≡ true → (held (applied m act) p ≡ Some h) ↔ (event (on i act) y ≡ event (on i (announce p h)) done)
  applied_names m (announce q g) y f e =
      let x : p ≡ q = equal_is p q e in
      let z : held (put m q g) p ≡ Some g = put_holds m q g p ∙ rw e refl in (
        (λ w. let gh : Some g ≡ Some h = sym z ∙ w in let k : g ≡ h = cc in let c : on i (announce q g) ≡ on i (announce p h) = cc in λ t. record { call = c t; reply = f t }),
        (λ w. let c : on i (announce q g) ≡ on i (announce p h) = ap (λ t. t.call) w in let k : g ≡ h = cc in z ∙ ap (λ t. Some t) k),
      )
  applied_names m (withdraw q) y f e =
      let z : held (removed m q) p ≡ None = removed_holds m q p ∙ rw e refl in (
        (λ w. let k : ◌≡◌ {A = Option Hop} None (Some h) = sym z ∙ w in let o : ◌≡◌ {A = ℕ} 0 1 = cc in absurd (omega arith)),
        (λ w. let c : on i (withdraw q) ≡ on i (announce p h) = ap (λ t. t.call) w in let o : ◌≡◌ {A = ℕ} 0 1 = cc in absurd (omega arith)),
      )
  applied_names m (fetch q) y f e = absurd (false≢true e)

  same_iff : (o o' : Option Hop) → o ≡ o' → (o ≡ Some h) ↔ (o' ≡ Some h)
  same_iff o o' e = ((λ f. sym e ∙ f), (λ f. e ∙ f))

  hit : (ps : List Plane) (c : Call) → updated i p (event c (reply_of v r ps c)) ≡ true → (held (plane (next r ps c) i) p ≡ Some h) ↔ (event c (reply_of v r ps c) ≡ event (on i (announce p h)) done)
  hit ps (lookup a b) u = absurd (false≢true (and_parts (granted (reply_of v r ps (lookup a b))) false u).1)
  hit ps (on j act) u = go (how v r ps (on j act))
    where
      w : (granted (reply_of v r ps (on j act)) ≡ true) × (updates i p (on j act) ≡ true)
      w = and_parts (granted (reply_of v r ps (on j act))) (updates i p (on j act)) u

      go : Went v r ps (on j act) → (held (plane (next r ps (on j act)) i) p ≡ Some h) ↔ (event (on j act) (reply_of v r ps (on j act)) ≡ event (on i (announce p h)) done)
      go (turned_down a t) = absurd (true≢false (sym w.0 ∙ t))
      go (went a t y) =
          let n = and_parts (eqb j i) (names act p) w.1 in
          let e : j ≡ i = eqb-true j i n.0 in
          let l : i < length ps = subst (λ k. k < length ps) e (accepted_plane r ps j act a) in
          let s : plane (next r ps (on j act)) i ≡ applied (plane ps i) act = rw (a, e, get_or-set_same ps i (applied (plane ps i) act) [] l) refl in
          let y' : reply_of v r ps (on j act) ≡ act_reply (plane ps i) act = y ∙ ap (λ k. act_reply (plane ps k) act) e in
          let k = applied_names (plane ps i) act (reply_of v r ps (on j act)) y' n.1 in (
            (λ f. ap (λ k. event (on k act) (reply_of v r ps (on j act))) e ∙ k.0 (ap (λ m. held m p) (sym s) ∙ f)),
            (λ f. ap (λ m. held m p) s ∙ k.1 (ap (λ k. event (on k act) (reply_of v r ps (on j act))) (sym e) ∙ f)),
          )

  miss : (ps : List Plane) (c : Call) → updated i p (event c (reply_of v r ps c)) ≡ false → (held (plane (next r ps c) i) p ≡ Some h) ↔ (held (plane ps i) p ≡ Some h)
  miss ps (lookup a b) u = same_iff (held (plane ps i) p) (held (plane ps i) p) refl
  miss ps (on j act) u = same_iff (held (plane (next r ps (on j act)) i) p) (held (plane ps i) p) (go (how v r ps (on j act)))
    where
      same_plane : j ≡ i → names act p ≡ false → j < length ps → held (plane (set ps j (applied (plane ps j) act)) i) p ≡ held (plane ps i) p
      same_plane e n l =
          let k : i < length ps = subst (λ k. k < length ps) e l in
          rw (e, get_or-set_same ps i (applied (plane ps i) act) [] k) (applied_other (plane ps i) act p n)

      other_plane : eqb j i ≡ false → held (plane (set ps j (applied (plane ps j) act)) i) p ≡ held (plane ps i) p
      other_plane e = ap (λ m. held m p) (get_or-set_other ps j i (applied (plane ps j) act) [] (λ z. eqb-false j i e (sym z)))

      set_other : j < length ps → (eqb j i ≡ false) ⊎ (names act p ≡ false) → held (plane (set ps j (applied (plane ps j) act)) i) p ≡ held (plane ps i) p
      set_other l (inl e) = other_plane e
      set_other l (inr n) = elim (cases_Bool (eqb j i)) [ inl e ↦ same_plane (eqb-true j i e) n l | inr e ↦ other_plane e ]

      go : Went v r ps (on j act) → held (plane (next r ps (on j act)) i) p ≡ held (plane ps i) p
      go (turned_down a t) = rw a refl
      go (went a t y) = rw a (set_other (accepted_plane r ps j act a) (and_cases (eqb j i) (names act p) (passed (granted (reply_of v r ps (on j act))) (updates i p (on j act)) false u t)))

  planes_since : (ps : List Plane) (cs : List Call) → (held (plane (end r ps cs) i) p ≡ Some h) ↔ Since (updated i p) (log v r ps cs) (event (on i (announce p h)) done) (held (plane ps i) p ≡ Some h)
  planes_since ps [] = since_none (updated i p) (event (on i (announce p h)) done) (held (plane ps i) p ≡ Some h)
  planes_since ps (c ∷ cs) =
      iff_trans (planes_since (next r ps c) cs)
      (since_more (updated i p) (event c (reply_of v r ps c)) (log v r (next r ps c) cs) (event (on i (announce p h)) done) (held (plane (next r ps c) i) p ≡ Some h) (held (plane ps i) p ≡ Some h) (hit ps c) (miss ps c))

pub holds_by_log : (v : View) (r : Room) (ps : List Plane) (cs : List Call) (i : ℕ) (p : Bits) (h : Hop) → HoldsByLog i p h (log v r ps cs) (plane ps i) (plane (end r ps cs) i)
holds_by_log v r ps cs i p h = planes_since v r i p h ps cs

-- ---- slots

slot_map : (f : Slot → Slot) → f None ≡ None → (es : List Slot) (k : ℕ) → slot (map f es) k ≡ f (slot es k)
slot_map f e [] zero = sym e
slot_map f e [] (suc k) = sym e
slot_map f e (x ∷ es) zero = refl
slot_map f e (x ∷ es) (suc k) = slot_map f e es k

-- an entry is left exactly where it was and the update does not cover its address
cleared_other : (act : Act) (s : Slot) (a : Bits) (x : Answer) → reaches act a ≡ false → (cleared act s ≡ Some (a, x)) ↔ (s ≡ Some (a, x))
cleared_other act s a x f = (there s, λ e. rw (e, f) refl)
  where
    there : (s : Slot) → cleared act s ≡ Some (a, x) → s ≡ Some (a, x)
    there None e = e
    there (Some y) e = go (reaches act y.0) e
      where
        go : (b : Bool) → cond b None (Some y) ≡ Some (a, x) → Some y ≡ Some (a, x)
        go true g = let z : ◌≡◌ {A = ℕ} 0 1 = cc in absurd (omega arith)
        go false g = g

cleared_gone : (act : Act) (s : Slot) (a : Bits) (x : Answer) → reaches act a ≡ true → cleared act s ≡ Some (a, x) → ⊥
cleared_gone act None a x f e = let z : ◌≡◌ {A = ℕ} 0 1 = cc in omega arith
cleared_gone act (Some y) a x f e = go (reaches act y.0) refl e
  where
    go : (b : Bool) → reaches act y.0 ≡ b → cond b None (Some y) ≡ Some (a, x) → ⊥
    go true g e = let z : ◌≡◌ {A = ℕ} 0 1 = cc in omega arith
    go false g e = let m : y ≡ (a, x) = cc in true≢false (sym f ∙ ap (λ z. reaches act z.0) (sym m) ∙ g)

rule_length : (n : ℕ) (v : View) (r : Room) (ps : List Plane) (es : List Slot) (c : Call) → length (slot_rule n v r ps es c) ≡ length es
rule_length n v r ps es (on i act) = go (accepted r ps (on i act))
  where
    go : (b : Bool) → length (cond b (map (cleared act) es) es) ≡ length es
    go true = length-map es (cleared act)
    go false = refl
rule_length n v r ps es (lookup a b) = go (accepted r ps (lookup a b)) (in_full n a b)
  where
    go : (t u : Bool) → length (cond t (cond u (set es (slot_of n a) (Some (a, answer (v ps) a b))) es) es) ≡ length es
    go true true = length-set es (slot_of n a) (Some (a, answer (v ps) a b))
    go true false = refl
    go false u = refl

-- an update that covers a, or a lookup that falls into slot k
abbrev concerns : ℕ → ℕ → Bits → Call → Bool
concerns n k a (on i act) = reaches act a
concerns n k a (lookup b m) = in_full n b m && eqb (slot_of n b) k

abbrev concerned : ℕ → ℕ → Bits → Event → Bool
concerned n k a e = granted e.reply && concerns n k a e.call

module _ (n : ℕ) (v : View) (r : Room) (k : ℕ) (a : Bits) (x : Answer) where
  slot_iff : (s s' : Slot) → s ≡ s' → (s ≡ Some (a, x)) ↔ (s' ≡ Some (a, x))
  slot_iff s s' e = ((λ f. sym e ∙ f), (λ f. e ∙ f))

  -- what a lookup leaves in the slot that it falls into
  lookup_slot : (ps : List Plane) (es : List Slot) (b : Bits) (m : ℕ) → k < length es → accepted r ps (lookup b m) ≡ true → concerns n k a (lookup b m) ≡ true
      → (m ≡ length b) × (slot (slot_rule n v r ps es (lookup b m)) k ≡ Some (b, answer (v ps) b m))
  lookup_slot ps es b m l t u =
      let p = and_parts (in_full n b m) (eqb (slot_of n b) k) u in
      let q = and_parts (not (eqb n 0)) (eqb m (length b)) p.0 in
      let s : slot_of n b ≡ k = eqb-true (slot_of n b) k p.1 in
      (eqb-true m (length b) q.1, rw (t, p.0, s, get_or-set_same es k (Some (b, answer (v ps) b m)) None l) refl)

  slot_hit : (ps : List Plane) (es : List Slot) → k < length es → (c : Call) → concerned n k a (event c (reply_of v r ps c)) ≡ true
      → (slot (slot_rule n v r ps es c) k ≡ Some (a, x)) ↔ (event c (reply_of v r ps c) ≡ event (lookup a (length a)) (found x))
  slot_hit ps es l (on i act) u = go (how v r ps (on i act))
    where
      w : (granted (reply_of v r ps (on i act)) ≡ true) × (reaches act a ≡ true)
      w = and_parts (granted (reply_of v r ps (on i act))) (reaches act a) u

      go : Went v r ps (on i act) → (slot (slot_rule n v r ps es (on i act)) k ≡ Some (a, x)) ↔ (event (on i act) (reply_of v r ps (on i act)) ≡ event (lookup a (length a)) (found x))
      go (turned_down t f) = absurd (true≢false (sym w.0 ∙ f))
      go (went t f y) =
          let s : slot (slot_rule n v r ps es (on i act)) k ≡ cleared act (slot es k) = rw t (slot_map (cleared act) refl es k) in (
            (λ e. absurd (cleared_gone act (slot es k) a x w.1 (sym s ∙ e))),
            (λ e. let c : on i act ≡ lookup a (length a) = ap (λ t. t.call) e in let o : ◌≡◌ {A = ℕ} 0 1 = cc in absurd (omega arith)),
          )
  slot_hit ps es l (lookup b m) u = go (how v r ps (lookup b m))
    where
      w : (granted (reply_of v r ps (lookup b m)) ≡ true) × (concerns n k a (lookup b m) ≡ true)
      w = and_parts (granted (reply_of v r ps (lookup b m))) (concerns n k a (lookup b m)) u

      go : Went v r ps (lookup b m) → (slot (slot_rule n v r ps es (lookup b m)) k ≡ Some (a, x)) ↔ (event (lookup b m) (reply_of v r ps (lookup b m)) ≡ event (lookup a (length a)) (found x))
      go (turned_down t f) = absurd (true≢false (sym w.0 ∙ f))
      go (went t f y) =
          let s = lookup_slot ps es b m l t w.1 in (
            (λ e. let g : ◌≡◌ {A = Slot} (Some (b, answer (v ps) b m)) (Some (a, x)) = sym s.1 ∙ e in
                let p : ◌≡◌ {A = Bits × Answer} (b, answer (v ps) b m) (a, x) = cc in
                let ba : b ≡ a = ap (λ z. z.0) p in
                let ma : m ≡ length a = s.0 ∙ ap length ba in
                let xa : answer (v ps) b m ≡ x = ap (λ z. z.1) p in
                let c : lookup b m ≡ lookup a (length a) = cc in
                let d : reply_of v r ps (lookup b m) ≡ found x = y ∙ ap (λ t. found t) xa in
                λ i. record { call = c i; reply = d i }),
            (λ e. let c : lookup b m ≡ lookup a (length a) = ap (λ t. t.call) e in
                let d : found (answer (v ps) b m) ≡ found x = sym y ∙ ap (λ t. t.reply) e in
                let ba : b ≡ a = cc in
                let xa : answer (v ps) b m ≡ x = cc in
                s.1 ∙ ap (λ t. Some (t, answer (v ps) b m)) ba ∙ ap (λ t. Some (a, t)) xa),
          )

  slot_miss : (ps : List Plane) (es : List Slot) (c : Call) → concerned n k a (event c (reply_of v r ps c)) ≡ false
      → (slot (slot_rule n v r ps es c) k ≡ Some (a, x)) ↔ (slot es k ≡ Some (a, x))
  slot_miss ps es (on i act) u = go (how v r ps (on i act))
    where
      go : Went v r ps (on i act) → (slot (slot_rule n v r ps es (on i act)) k ≡ Some (a, x)) ↔ (slot es k ≡ Some (a, x))
      go (turned_down t f) = slot_iff (slot (slot_rule n v r ps es (on i act)) k) (slot es k) (rw t refl)
      go (went t f y) =
          let s : slot (slot_rule n v r ps es (on i act)) k ≡ cleared act (slot es k) = rw t (slot_map (cleared act) refl es k) in
          iff_trans (slot_iff (slot (slot_rule n v r ps es (on i act)) k) (cleared act (slot es k)) s)
          (cleared_other act (slot es k) a x (passed (granted (reply_of v r ps (on i act))) (reaches act a) false u f))
  slot_miss ps es (lookup b m) u = slot_iff (slot (slot_rule n v r ps es (lookup b m)) k) (slot es k) (go (how v r ps (lookup b m)))
    where
      full : (t : Bool) → (t ≡ false) ⊎ (eqb (slot_of n b) k ≡ false) → slot (cond t (set es (slot_of n b) (Some (b, answer (v ps) b m))) es) k ≡ slot es k
      full false w = refl
      full true (inl e) = absurd (true≢false e)
      full true (inr e) = get_or-set_other es (slot_of n b) k (Some (b, answer (v ps) b m)) None (λ z. eqb-false (slot_of n b) k e (sym z))

      go : Went v r ps (lookup b m) → slot (slot_rule n v r ps es (lookup b m)) k ≡ slot es k
      go (turned_down t f) = rw t refl
      go (went t f y) = rw t (full (in_full n b m) (and_cases (in_full n b m) (eqb (slot_of n b) k) (passed (granted (reply_of v r ps (lookup b m))) (concerns n k a (lookup b m)) false u f)))

-- ---- the last lookup, and no update since

and_or_left : (t d : Bool) → ((t && d) || (t && false)) ≡ (t && d)
and_or_left true true = refl
and_or_left true false = refl
and_or_left false d = refl

and_or_right : (t d : Bool) → ((t && false) || (t && d)) ≡ (t && d)
and_or_right true d = refl
and_or_right false d = refl

concerned_either : (n k : ℕ) (a : Bits) (c : Call) (y : Reply) → (fell n k (event c y) || covered a (event c y)) ≡ concerned n k a (event c y)
concerned_either n k a (on i act) y = and_or_right (granted y) (reaches act a)
concerned_either n k a (lookup b m) y = and_or_left (granted y) (in_full n b m && eqb (slot_of n b) k)

fell_either : (n k : ℕ) (a : Bits) (x : Answer) → (fell n k (event (lookup a (length a)) (found x)) || covered a (event (lookup a (length a)) (found x))) ≡ true → fell n k (event (lookup a (length a)) (found x)) ≡ true
fell_either n k a x e = sym (and_or_left true (in_full n a (length a) && eqb (slot_of n a) k)) ∙ e

module _ (n : ℕ) (v : View) (r : Room) (k : ℕ) (a : Bits) (x : Answer) where
  slots_either : (ps : List Plane) (es : List Slot) (cs : List Call) → k < length es
      → (slot (slots_after n v r ps es cs) k ≡ Some (a, x)) ↔ Since (λ e. fell n k e || covered a e) (log v r ps cs) (event (lookup a (length a)) (found x)) (slot es k ≡ Some (a, x))
  slots_either ps es [] l = since_none (λ e. fell n k e || covered a e) (event (lookup a (length a)) (found x)) (slot es k ≡ Some (a, x))
  slots_either ps es (c ∷ cs) l =
      let y = reply_of v r ps c in
      iff_trans (slots_either (next r ps c) (slot_rule n v r ps es c) cs (rw (rule_length n v r ps es c) l))
      (since_more (λ e. fell n k e || covered a e) (event c (reply_of v r ps c)) (log v r (next r ps c) cs) (event (lookup a (length a)) (found x))
      (slot (slot_rule n v r ps es c) k ≡ Some (a, x)) (slot es k ≡ Some (a, x))
      (λ u. slot_hit n v r k a x ps es l c (sym (concerned_either n k a c y) ∙ u))
      (λ u. slot_miss n v r k a x ps es c (sym (concerned_either n k a c y) ∙ u)))

pub cached_by_log : (n : ℕ) (v : View) (r : Room) (ps : List Plane) (es : List Slot) (cs : List Call) (k : ℕ) → k < length es → CachedByLog n k (log v r ps cs) (slot es k) (slot (slots_after n v r ps es cs) k)
cached_by_log n v r ps es cs k l a x =
    iff_trans (slots_either n v r k a x ps es cs l)
    (since_either (fell n k) (covered a) (log v r ps cs) (event (lookup a (length a)) (found x)) (slot es k ≡ Some (a, x)) (fell_either n k a x))
