-- A policy filter, by the table below it. Assumes nothing.
use Rattle.std.proofs.Common.{◌≡◌, ℕ, zero, suc, ◌<◌, ◌≤◌, Bool, true, false, cond, leb, List, [], ◌∷◌, ◌++◌, length, take, Some, None, Option, sym, refl, ap, ◌∙◌, append_assoc, append-nil, arith}
use Rattle.std.proofs.lemmas.List.{length-take}
use Rattle.std.proofs.lemmas.Bool.{le-leb}
use Rattle.bits.specs.Bits.{Bits, covers}
use Rattle.model.specs.Maps.{Visible}
use Rattle.model.specs.Longest.{or_else, at_length, answer}
use Rattle.model.specs.Views.{Rule, permits, filtered}
use Rattle.model.specs.Machine.{Plane, Target, Answer, View, Room, Act, Call, on, lookup, Reply, found, refused}
use Rattle.model.specs.Stack.{Stack, filter, filter_view, past, asked_again, after, Described}
use Rattle.model.specs.Laws.{Local}
use Rattle.bits.proofs.Strings.{covers_starts}
use Rattle.model.proofs.StackLaws.{after_nil, after_append}
use Rattle.model.proofs.Steps.{At, Step, DescribedAt}
use Rattle.model.proofs.Lookups.{found_answer}

-- ---- locality

-- an answer is no longer than the bound
Within : {V : Type 0} → Option (ℕ × V) → ℕ → Type 0
Within None b = Unit {0}
Within (Some x) b = x.0 ≤ b

module _ {V : Type 0} where
  within : (s : Visible V) (a : Bits) (b : ℕ) → Within (answer s a b) b
  unfolding Within
  within s a zero = go (s [])
    where
      go : (o : Option V) → Within (at_length zero o) zero
      go None = tt
      go (Some h) = omega arith
  within s a (suc k) = go (s (take (suc k) a)) (answer s a k) (within s a k)
    where
      go : (o : Option V) (y : Option (ℕ × V)) → Within y k → Within (or_else (at_length (suc k) o) y) (suc k)
      go None None w = tt
      go None (Some x) w = omega arith
      go (Some h) y w = omega arith

  pub answer_within : (s : Visible V) (a : Bits) (b n : ℕ) (h : V) → answer s a b ≡ Some (n, h) → n ≤ b
  unfolding Within
  answer_within s a b n h e = let w : Within (Some (n, h)) b = rw e at (within s a b) in w

  -- maps with equal answers at every bound give the same along the address
  pub same_along : (s t : Visible V) (a : Bits) → ((b : ℕ) → b ≤ length a → answer s a b ≡ answer t a b) → (k : ℕ) → k ≤ length a → s (take k a) ≡ t (take k a)
  unfolding Within
  same_along s t a e zero l = go (s []) (t []) (e zero (omega arith))
    where
      go : (x y : Option V) → at_length zero x ≡ at_length zero y → x ≡ y
      go None None f = refl
      go None (Some h) f = let z : ◌≡◌ {A = ℕ} 0 1 = cc in absurd (omega arith)
      go (Some h) None f = let z : ◌≡◌ {A = ℕ} 0 1 = cc in absurd (omega arith)
      go (Some g) (Some h) f = let m : ◌≡◌ {A = ℕ × V} (zero, g) (zero, h) = cc in ap (λ y. Some y.1) m
  same_along s t a e (suc k) l = go (s (take (suc k) a)) (t (take (suc k) a)) (answer s a k) (answer t a k) (within s a k) (within t a k) (e k (omega arith)) (e (suc k) l)
    where
      go : (x y : Option V) (p q : Option (ℕ × V)) → Within p k → Within q k → p ≡ q → or_else (at_length (suc k) x) p ≡ or_else (at_length (suc k) y) q → x ≡ y
      go None None p q u w f g = refl
      go (Some h) (Some h') p q u w f g = let m : ◌≡◌ {A = ℕ × V} (suc k, h) (suc k, h') = cc in ap (λ y. Some y.1) m
      go None (Some h) None q u w f g = let z : ◌≡◌ {A = ℕ} 0 1 = cc in absurd (omega arith)
      go None (Some h) (Some x) q u w f g = let z : x.0 ≡ suc k = let m : x ≡ (suc k, h) = cc in ap (λ y. y.0) m in absurd (omega arith)
      go (Some h) None p None u w f g = let z : ◌≡◌ {A = ℕ} 0 1 = cc in absurd (omega arith)
      go (Some h) None p (Some x) u w f g = let z : x.0 ≡ suc k = let m : x ≡ (suc k, h) = cc in ap (λ y. y.0) m in absurd (omega arith)

  answer_upto : (s t : Visible V) (a : Bits) (b : ℕ) → ((k : ℕ) → k ≤ b → s (take k a) ≡ t (take k a)) → answer s a b ≡ answer t a b
  answer_upto s t a zero e = ap (at_length zero) (e zero (omega arith))
  answer_upto s t a (suc b) e =
      let i = answer_upto s t a b (λ k h. e k (omega arith)) in
      let f = e (suc b) (omega arith) in cc

pub filter_local : (q : List Rule) (v : View) → Local v → Local (filter_view q v)
filter_local q v lv ps qs a g b h =
    answer_upto (filtered q (v ps)) (filtered q (v qs)) a b
    (λ k l. ap (λ o. cond (permits q (take k a)) o None) (same_along (v ps) (v qs) a (lv ps qs a g) k (omega arith)))

-- ---- one answer from below, what is asked after it and what it comes to

module _ (q : List Rule) (s : Visible Target) (a : Bits) where
  abbrev pub below : ℕ → List Call
  below zero = []
  below (suc m) = lookup a m ∷ asked_again q s a m

  abbrev pub under : ℕ → Answer
  under zero = None
  under (suc m) = answer (filtered q s) a m

  abbrev pub rest : Answer → List Call
  rest None = []
  rest (Some x) = cond (permits q (take x.0 a)) [] (below x.0)

  abbrev pub shows : Answer → Answer
  shows None = None
  shows (Some x) = cond (permits q (take x.0 a)) (Some x) (under x.0)

  pub asks_rest : (b : ℕ) → asked_again q s a b ≡ rest (answer s a b)
  asks_rest zero = go (s []) (permits q [])
    where
      go : (o : Option Target) (p : Bool) → [] ≡ rest (at_length zero o)
      go None p = refl
      go (Some h) p = sym (both (permits q []))
        where
          both : (t : Bool) → ◌≡◌ {A = List Call} (cond t [] []) []
          both true = refl
          both false = refl
  asks_rest (suc k) = go (asks_rest k) (s (take (suc k) a))
    where
      go : asked_again q s a k ≡ rest (answer s a k) → (o : Option Target) → past o (permits q (take (suc k) a)) (lookup a k ∷ asked_again q s a k) (asked_again q s a k) ≡ rest (or_else (at_length (suc k) o) (answer s a k))
      go ih None = ih
      go ih (Some h) = both (permits q (take (suc k) a))
        where
          both : (p : Bool) → past (Some h) p (lookup a k ∷ asked_again q s a k) (asked_again q s a k) ≡ cond p [] (lookup a k ∷ asked_again q s a k)
          both true = refl
          both false = refl

  pub shows_answer : (b : ℕ) → answer (filtered q s) a b ≡ shows (answer s a b)
  shows_answer zero = go (s [])
    where
      go : (o : Option Target) → at_length zero (cond (permits q []) o None) ≡ shows (at_length zero o)
      go None = both (permits q [])
        where
          both : (p : Bool) → at_length {V = Target} zero (cond p None None) ≡ None
          both true = refl
          both false = refl
      go (Some h) = both (permits q [])
        where
          both : (p : Bool) → at_length zero (cond p (Some h) None) ≡ cond p (Some (zero, h)) None
          both true = refl
          both false = refl
  shows_answer (suc k) = go (shows_answer k) (s (take (suc k) a))
    where
      go : answer (filtered q s) a k ≡ shows (answer s a k) → (o : Option Target) → or_else (at_length (suc k) (cond (permits q (take (suc k) a)) o None)) (answer (filtered q s) a k) ≡ shows (or_else (at_length (suc k) o) (answer s a k))
      go ih None = both (permits q (take (suc k) a))
        where
          both : (p : Bool) → or_else (at_length (suc k) (cond p None None)) (answer (filtered q s) a k) ≡ shows (answer s a k)
          both true = ih
          both false = ih
      go ih (Some h) = both (permits q (take (suc k) a))
        where
          both : (p : Bool) → or_else (at_length (suc k) (cond p (Some h) None)) (answer (filtered q s) a k) ≡ cond p (Some (suc k, h)) (answer (filtered q s) a k)
          both true = refl
          both false = refl

-- ---- the description

-- a table behind a policy, at one moment
abbrev pub screened : List Rule → At → At
screened q s = record { planes = s.planes; view = filter_view q s.view; room = s.room; stack = filter q s.stack }

pub filter_described : (q : List Rule) {d : Stack} {ps : List Plane} {v : View} {r : Room} → Described d ps v r → Described (filter q d) ps (filter_view q v) r
filter_described q x = record { planes = x.planes; view = ap (filter_view q) x.view; room = x.room }

-- ---- one call

pub filter_on : (q : List Rule) (s t : At) {y : Reply} (i : ℕ) (act : Act) → Step s t (on i act) y → Step (screened q s) (screened q t) (on i act) y
filter_on q s t i act f = record {
  reply = f.reply;
  planes_after = f.planes_after;
  same_view = ap (filter_view q) f.same_view;
  same_room = f.same_room;
  entries = ap (filter q) f.entries;
}

-- a lookup past the address's width: nothing is sent
pub filter_too_long : (q : List Rule) (s : At) (a : Bits) (b : ℕ) → leb b (length a) ≡ false → Step (screened q s) (screened q s) (lookup a b) (refused 12)
filter_too_long q s a b e = record { reply = rw e refl; planes_after = refl; same_view = refl; same_room = refl; entries = rw (e, after_nil s.stack) refl }

-- the lookups so far: those sent, those to come, and what the answer will be
pub record Asked (q : List Rule) (s t : At) (a : Bits) (b n : ℕ) : Type 0 where
  pub within : n ≤ b
  pub same_planes : t.planes ≡ s.planes
  pub same_view : t.view ≡ s.view
  pub same_room : t.room ≡ s.room
  pub sent : List Call
  pub entries : t.stack ≡ after s.stack sent
  pub to_come : lookup a b ∷ asked_again q (s.view s.planes) a b ≡ sent ++ (lookup a n ∷ asked_again q (s.view s.planes) a n)
  pub same_answer : answer (filtered q (s.view s.planes)) a b ≡ answer (filtered q (s.view s.planes)) a n

-- ---- what a rule matches

-- a prefix is not at or beneath a longer one
pub covers_long : (p a : Bits) (n : ℕ) → n < length p → covers p (take n a) ≡ false
covers_long p a n h = go (covers p (take n a)) refl
  where
    go : (z : Bool) → covers p (take n a) ≡ z → z ≡ false
    go true e = absurd (omega (arith, (covers_starts p (take n a) e).0, length-take n a))
    go false e = refl

-- ---- a lookup, one question below after the other

-- nothing is asked yet
pub asked_none : (q : List Rule) (s : At) (a : Bits) (b : ℕ) → Asked q s s a b b
asked_none q s a b = record {
  within = omega arith;
  same_planes = refl;
  same_view = refl;
  same_room = refl;
  sent = [];
  entries = sym (after_nil s.stack);
  to_come = refl;
  same_answer = refl;
}

module _ (q : List Rule) (s t w : At) (a : Bits) (b n : ℕ) (k : Asked q s t a b n) where
  -- the answer from below is that of the map below
  asked_answer : (x : Answer) → Step t w (lookup a n) (found x) → x ≡ answer (s.view s.planes) a n
  asked_answer x f = found_answer t w a n x f ∙ rw (k.same_view, k.same_planes) refl

  -- and no longer than the bound
  pub asked_within : (m : ℕ) (h : Target) → Step t w (lookup a n) (found (Some (m, h))) → m ≤ n
  asked_within m h f = answer_within (s.view s.planes) a n m h (sym (asked_answer (Some (m, h)) f))

  sent_more : {y : Reply} → Step t w (lookup a n) y → w.stack ≡ after s.stack (k.sent ++ (lookup a n ∷ []))
  sent_more f = f.entries ∙ ap (λ d. after d (lookup a n ∷ [])) k.entries ∙ sym (after_append s.stack k.sent (lookup a n ∷ []))

  -- a denied route: one question more, below it
  pub asked_more : (m : ℕ) (h : Target) → permits q (take (suc m) a) ≡ false → Step t w (lookup a n) (found (Some (suc m, h))) → Asked q s w a b m
  asked_more m h deny f =
      let e = asked_answer (Some (suc m, h)) f in
      let c : asked_again q (s.view s.planes) a n ≡ lookup a m ∷ asked_again q (s.view s.planes) a m = asks_rest q (s.view s.planes) a n ∙ rw (← e, deny) refl in
      let v : answer (filtered q (s.view s.planes)) a n ≡ answer (filtered q (s.view s.planes)) a m = shows_answer q (s.view s.planes) a n ∙ rw (← e, deny) refl in
      let l = asked_within (suc m) h f in
      record {
        within = omega (arith, k.within);
        same_planes = f.planes_after ∙ k.same_planes;
        same_view = f.same_view ∙ k.same_view;
        same_room = f.same_room ∙ k.same_room;
        sent = k.sent ++ (lookup a n ∷ []);
        entries = sent_more f;
        to_come = k.to_come ∙ ap (λ r. k.sent ++ (lookup a n ∷ r)) c ∙ sym (append_assoc k.sent (lookup a n ∷ []) (lookup a m ∷ asked_again q (s.view s.planes) a m));
        same_answer = k.same_answer ∙ v;
      }

  -- no question more: what the last answer comes to is the answer of the whole lookup
  pub asked_all : (x y : Answer) → b ≤ length a → rest q (s.view s.planes) a x ≡ [] → shows q (s.view s.planes) a x ≡ y → DescribedAt s → Step t w (lookup a n) (found x) → Step (screened q s) (screened q w) (lookup a b) (found y)
  asked_all x y h stop shown d f =
      let e = asked_answer x f in
      let z : leb b (length a) ≡ true = le-leb b (length a) h in
      let c : asked_again q (s.view s.planes) a n ≡ [] = asks_rest q (s.view s.planes) a n ∙ rw (← e) stop in
      let v : answer (filtered q (s.view s.planes)) a b ≡ y = k.same_answer ∙ shows_answer q (s.view s.planes) a n ∙ rw (← e) shown in
      let all : k.sent ++ (lookup a n ∷ []) ≡ lookup a b ∷ asked_again q (s.view s.planes) a b = sym (k.to_come ∙ ap (λ r. k.sent ++ (lookup a n ∷ r)) c) in
      record {
        reply = rw (z, v) refl;
        planes_after = f.planes_after ∙ k.same_planes;
        same_view = ap (filter_view q) (f.same_view ∙ k.same_view);
        same_room = f.same_room ∙ k.same_room;
        entries = ap (filter q) (sent_more f ∙ ap (after s.stack) all ∙ rw (d.view, d.planes, z, append-nil (asked_again q (s.view s.planes) a b)) refl);
      }
