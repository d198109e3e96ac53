-- From one call to a whole list of calls. Assumes nothing.
use Rattle.std.proofs.Common.{◌≡◌, ℕ, ◌<◌, Bool, true, false, cond, ◌↔◌, List, [], ◌∷◌, ◌++◌, length, is_some, Some, None, Option, sym, refl, ap, ◌∙◌, arith}
use Rattle.std.specs.List.{AllByRecursion}
use Rattle.std.proofs.lemmas.Bool.{true≢false, lt-ltb}
use Rattle.bits.specs.Bits.{Bits}
use Rattle.model.specs.Maps.{held, put}
use Rattle.model.specs.Room.{Held}
use Rattle.model.specs.Machine.{Hop, Plane, View, Room, announce, withdraw, Call, on, Reply, done, plane, accepted, next, unless_refused, reply_of, replies, end}
use Rattle.model.specs.Stack.{Stack, table, cache, filter, fall, planes_of, view_of, room_of, cache_sent, filter_sent, upper_sent, lower_sent, after, Current, Described}
use Rattle.model.specs.Laws.{Sound, Does}
use Rattle.model.specs.Logs.{Event, event, events, calls_of, log, granted, CachesByLog}
use Rattle.model.specs.Promise.{InTurn, RunsAsReference}
use Rattle.model.proofs.LogLaws.{turned_down, went, how, holds_by_log, cached_by_log}
use Rattle.model.proofs.StackLaws.{end_append, replies_append, length_end, kept, after_nil, after_append, next_refused, next_reads, after_refused}

-- ---- every cache, by the log

pub caches_by_log : (d : Stack) (cs : List Call) → CachesByLog d (after d cs) cs
caches_by_log (table ps v r) cs = tt
caches_by_log (cache n es d) cs = (
  (λ k l. cached_by_log n (view_of d) (room_of d) (planes_of d) es cs k l),
  caches_by_log d (cache_sent n (view_of d) (room_of d) (planes_of d) es cs),
)
caches_by_log (filter q d) cs = caches_by_log d (filter_sent q (view_of d) (room_of d) (planes_of d) cs)
caches_by_log (fall u l) cs = (
  caches_by_log u (upper_sent (length (planes_of u)) cs),
  caches_by_log l (lower_sent (length (planes_of u)) (view_of u) (room_of u) (planes_of u) cs),
)

-- ---- one call in its turn

-- the reply in the log is the machine's at that point
pub log_reply : (v : View) (r : Room) (ps : List Plane) (cs : List Call) (xs zs : List Event) (c : Call) (y : Reply) → log v r ps cs ≡ xs ++ (event c y ∷ zs) → y ≡ reply_of v r (end r ps (calls_of xs)) c
log_reply v r ps [] [] zs c y e = let z : ◌≡◌ {A = ℕ} 0 1 = cc in absurd (omega arith)
log_reply v r ps [] (x ∷ xs) zs c y e = let z : ◌≡◌ {A = ℕ} 0 1 = cc in absurd (omega arith)
log_reply v r ps (b ∷ cs) [] zs c y e =
    let h : event b (reply_of v r ps b) ≡ event c y = cc in
    let k : b ≡ c = ap (λ t. t.call) h in
    let w : reply_of v r ps b ≡ y = ap (λ t. t.reply) h in
    sym w ∙ ap (reply_of v r ps) k
log_reply v r ps (b ∷ cs) (x ∷ xs) zs c y e =
    let h : event b (reply_of v r ps b) ≡ x = cc in
    let t : log v r (next r ps b) cs ≡ xs ++ (event c y ∷ zs) = cc in
    let k : b ≡ x.call = ap (λ t. t.call) h in
    log_reply v r (next r ps b) cs xs zs c y t ∙ ap (λ b. reply_of v r (end r (next r ps b) (calls_of xs)) c) k

pub refused_not_accepted : (v : View) (r : Room) (ps : List Plane) (c : Call) → granted (reply_of v r ps c) ≡ false → accepted r ps c ≡ false
refused_not_accepted v r ps c e = elim (how v r ps c) [ turned_down a t ↦ a | went a t y ↦ absurd (true≢false (sym t ∙ e)) ]

announce_granted : (v : View) (r : Room) (ps : List Plane) (i : ℕ) (p : Bits) (h : Hop) → i < length ps → granted (reply_of v r ps (on i (announce p h))) ≡ r i (put (plane ps i) p h)
announce_granted v r ps i p h l = rw (lt-ltb i (length ps) l) (go (r i (put (plane ps i) p h)))
  where
    go : (b : Bool) → granted (unless_refused (cond b None (Some 15)) done) ≡ b
    go true = refl
    go false = refl

withdraw_done : (v : View) (r : Room) (ps : List Plane) (i : ℕ) (p : Bits) → i < length ps → Held (held (plane ps i)) p → reply_of v r ps (on i (withdraw p)) ≡ done
withdraw_done v r ps i p l h = rw (lt-ltb i (length ps) l) (go (held (plane ps i) p) h)
  where
    go : (o : Option Hop) → (o ≡ None → ⊥) → unless_refused (cond (is_some o) None (Some 14)) done ≡ done
    go None g = absurd (g refl)
    go (Some x) g = refl

-- the same test on both sides
same_test : {b c : Bool} → b ≡ c → (b ≡ false) ↔ (c ≡ false)
same_test e = ((λ f. sym e ∙ f), (λ f. e ∙ f))

pub in_turn : (v : View) (r : Room) (ps : List Plane) (d : Stack) → Described d ps v r → (xs : List Event) (c : Call) (y : Reply) → y ≡ reply_of v r (end r ps (calls_of xs)) c → InTurn r ps d xs c y
in_turn v r ps d x xs c y e = record {
  refused_unchanged = λ f. unchanged (refused_not_accepted v r now c (ap granted (sym e) ∙ f));
  read_unchanged = λ k. end_append r ps (calls_of xs) (c ∷ []) ∙ next_reads r now c k;
  announced = λ i p h k l. same_test (ap granted (e ∙ ap (reply_of v r now) k) ∙ announce_granted v r now i p h (within i l));
  withdrawn = λ i p k l h. e ∙ ap (reply_of v r now) k ∙ withdraw_done v r now i p (within i l) h;
}
  where
    now : List Plane
    now = end r ps (calls_of xs)

    within : (i : ℕ) → i < length ps → i < length (end r ps (calls_of xs))
    within i l = omega (arith, length_end r ps (calls_of xs))

    unchanged : accepted r (end r ps (calls_of xs)) c ≡ false → (end r ps (calls_of xs ++ (c ∷ [])) ≡ end r ps (calls_of xs)) × (after d (calls_of xs ++ (c ∷ [])) ≡ after d (calls_of xs))
    unchanged a =
        let k = kept d (calls_of xs) in
        let rr : room_of (after d (calls_of xs)) ≡ r = k.room ∙ x.room in
        let pp : planes_of (after d (calls_of xs)) ≡ end r ps (calls_of xs) = k.planes ∙ rw (x.room, x.planes) refl in
        let f : accepted (room_of (after d (calls_of xs))) (planes_of (after d (calls_of xs))) c ≡ false = rw (rr, pp) a in (
          end_append r ps (calls_of xs) (c ∷ []) ∙ next_refused r (end r ps (calls_of xs)) c a,
          after_append d (calls_of xs) (c ∷ []) ∙ after_refused (after d (calls_of xs)) c f,
        )

-- ---- a list, call by call

-- what a loop over the calls keeps
pub record So {X : Type 0} (planes : X → List Plane) (view : X → View) (room : X → Room) (stack : X → Stack) (s t : X) (cs : List Call) (ys : List Reply) : Type 0 where
  pub answers : ys ≡ replies (view s) (room s) (planes s) cs
  pub planes_after : planes t ≡ end (room s) (planes s) cs
  pub same_view : view t ≡ view s
  pub same_room : room t ≡ room s
  pub entries : stack t ≡ after (stack s) cs
  pub unchanged : AllByRecursion (λ y. granted y ≡ false) ys → t ≡ s

all_front : {X : Type 0} (P : X → Type 0) (xs : List X) (z : X) → AllByRecursion P (xs ++ (z ∷ [])) → AllByRecursion P xs × P z
all_front P [] z h = (tt, h.0)
all_front P (x ∷ xs) z h = let w = all_front P xs z h.1 in ((h.0, w.0), w.1)

module _ {X : Type 0} {planes : X → List Plane} {view : X → View} {room : X → Room} {stack : X → Stack} where
  pub so_none : (s : X) → So planes view room stack s s [] []
  so_none s = record { answers = refl; planes_after = refl; same_view = refl; same_room = refl; entries = sym (after_nil (stack s)); unchanged = λ h. refl }

  -- one call more
  pub so_more : {s t u : X} {cs : List Call} {ys : List Reply} {c : Call} {y : Reply} → So planes view room stack s t cs ys → Does planes view room stack t u c y → (granted y ≡ false → u ≡ t) → So planes view room stack s u (cs ++ (c ∷ [])) (ys ++ (y ∷ []))
  so_more {s} {t} {u} {cs} {ys} {c} {y} h f keeps = record {
    answers = rw (replies_append (view s) (room s) (planes s) cs (c ∷ []), h.answers, f.reply, h.planes_after, h.same_view, h.same_room) refl;
    planes_after = f.planes_after ∙ rw (h.same_room, h.planes_after) (sym (end_append (room s) (planes s) cs (c ∷ [])));
    same_view = f.same_view ∙ h.same_view;
    same_room = f.same_room ∙ h.same_room;
    entries = f.entries ∙ ap (λ e. after e (c ∷ [])) h.entries ∙ sym (after_append (stack s) cs (c ∷ []));
    unchanged = λ a. let w = all_front (λ z. granted z ≡ false) ys y a in keeps w.1 ∙ h.unchanged w.0;
  }

  -- the whole list
  pub so_promised : {s t : X} {cs : List Call} {ys : List Reply} → Described (stack s) (planes s) (view s) (room s) → Sound (room t) (planes t) → Current (stack t) → So planes view room stack s t cs ys → RunsAsReference planes view room stack s t cs ys
  so_promised {s} {t} {cs} {ys} x sound current h = record {
    answers = h.answers;
    planes_after = h.planes_after;
    same_view = h.same_view;
    same_room = h.same_room;
    sound = sound;
    entries = h.entries;
    current = current;
    unchanged = h.unchanged;
    turns = λ xs zs c y e. in_turn (view s) (room s) (planes s) (stack s) x xs c y (log_reply (view s) (room s) (planes s) cs xs zs c y (ap (events cs) (sym h.answers) ∙ e));
    routes = λ i p w. rw (h.answers, h.planes_after) (holds_by_log (view s) (room s) (planes s) cs i p w);
    slots = rw h.entries (caches_by_log (stack s) cs);
    parts = λ xs zs e. record {
      replies_join = h.answers ∙ ap (replies (view s) (room s) (planes s)) e ∙ replies_append (view s) (room s) (planes s) xs zs;
      planes_join = h.planes_after ∙ ap (end (room s) (planes s)) e ∙ end_append (room s) (planes s) xs zs;
      layers_join = h.entries ∙ ap (after (stack s)) e ∙ after_append (stack s) xs zs;
    };
  }
