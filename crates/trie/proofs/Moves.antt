-- Slots that change places.
use Rattle.std.proofs.Common.{◌≡◌, ℕ, ◌<◌, ◌≤◌, Bool, true, false, ◌≢◌, ◌⊎◌, List, length, get_or, set, Some, None, Option, sym, refl, ap, ◌∙◌, subst, inl, inr, lt_irrefl, arith, length-set, get_or-set_other, get_or-set_same}
use Rattle.std.proofs.lemmas.Bool.{cases_lt, cases_eq, eq-eqb, ne_eqb, cond-true, cond-false, true≢false, false≢true}
use Rattle.trie.specs.declared.node.Node.{Node}
use Rattle.trie.specs.Nodes.{node_bit, link, slot_of, child, with_child, at, blank, key, holds}
use Rattle.trie.specs.Trie.{Under, Beyond, Trie}
use Rattle.trie.specs.Changes.{swapped, bare, Moved, Parent}
use Rattle.trie.proofs.Grow.{child_with, sure_some, sure_with}
use Rattle.trie.proofs.Shrink.{one_parent, renamed}
use Rattle.trie.proofs.Maps.{same_holds}

-- a step towards slot c
pub record Step (f : ℕ → Node) (u i c k : ℕ) : Type 0 where
  pub slot : k < u
  pub under : Under (f k) (f c)
  pub longer : (f i).prefix.len < (f k).prefix.len

pub down_len : (f : ℕ → Node) (u : ℕ) → Trie f u → (i c : ℕ) → i < u → c < u → i ≢ c → Under (f i) (f c) → (f i).prefix.len < (f c).prefix.len
down_len f u t i c hi hc n r = elim (cases_lt (f i).prefix.len (f c).prefix.len) [ inl l ↦ l | inr l ↦ absurd (n (t.apart i c hi hc (omega (arith, r.long)) r.same)) ]

pub down : (f : ℕ → Node) (u : ℕ) → Trie f u → (i c k : ℕ) (s : Bool) → i < u → c < u → i ≢ c → Under (f i) (f c) → s ≡ node_bit (f c) (f i).prefix.len → k ≡ child s (f i) → Step f u i c k
down f u t i c k s hi hc n r e q =
    let l : (f i).prefix.len < (f c).prefix.len = down_len f u t i c hi hc n r in
    let w : (child s (f i) < u) × Under (f (child s (f i))) (f c) = t.full s i c hi hc (record { long = l; same = r.same; side = sym e }) in
    let b : Beyond s (f i) (f (child s (f i))) = (t.kid s i hi (λ z. lt_irrefl 65535 (omega (arith, w.0, z, t.few)))).1 in
    subst (λ (m : ℕ). Step f u i c m) (sym q) (record { slot = w.0; under = w.1; longer = b.long })

-- the exchange of two numbers
pub swapped_l : (h l : ℕ) → swapped h l h ≡ l
swapped_l h l = cond-true _ _ _ (eq-eqb h h refl)

pub swapped_r : (h l : ℕ) → swapped h l l ≡ h
swapped_r h l = elim (cases_eq l h) [ inl e ↦ cond-true _ _ _ (eq-eqb l h e) ∙ e | inr n ↦ cond-false _ _ _ (ne_eqb l h n) ∙ cond-true _ _ _ (eq-eqb l l refl) ]

pub swapped_o : (h l j : ℕ) → j ≢ h → j ≢ l → swapped h l j ≡ j
swapped_o h l j p q = cond-false _ _ _ (ne_eqb j h p) ∙ cond-false _ _ _ (ne_eqb j l q)

-- what holds of both and of every other
swapped_each : (h l : ℕ) (P : ℕ → ℕ → Type 0) → P h l → P l h → ((j : ℕ) → j ≢ h → j ≢ l → P j j) → (j : ℕ) → P j (swapped h l j)
swapped_each h l P a b c j = elim (cases_eq j h) [
  | inl e ↦ subst (λ (k : ℕ). P k (swapped h l k)) (sym e) (subst (P h) (sym (swapped_l h l)) a)
  | inr n ↦ (elim (cases_eq j l) [ inl e ↦ subst (λ (k : ℕ). P k (swapped h l k)) (sym e) (subst (P l) (sym (swapped_r h l)) b) | inr m ↦ subst (P j) (sym (swapped_o h l j n m)) (c j n m) ])
]

pub swapped_back : (h l j : ℕ) → swapped h l (swapped h l j) ≡ j
swapped_back h l = swapped_each h l (λ j k. swapped h l k ≡ j) (swapped_r h l) (swapped_l h l) (λ j n m. swapped_o h l j n m)

pub swapped_in : (h l u j : ℕ) → h < u → l < u → j < u → swapped h l j < u
swapped_in h l u j a b = swapped_each h l (λ j k. j < u → k < u) (λ _. b) (λ _. a) (λ j n m p. p) j

-- one link changed
module _ (ns : List Node) (q : ℕ) (s : Bool) (c : Option ℕ) (l : q < length ns) where
  pub relink_each : (P : ℕ → Node → Type 0) → P q (with_child s (at ns q) c) → ((x : ℕ) → x ≢ q → P x (at ns x)) → (x : ℕ) → P x (at (set ns q (with_child s (at ns q) c)) x)
  relink_each P a b x = elim (cases_eq x q) [
    | inl e ↦ subst (λ (k : ℕ). P k (at (set ns q (with_child s (at ns q) c)) k)) (sym e) (subst (P q) (sym (get_or-set_same ns q (with_child s (at ns q) c) blank l)) a)
    | inr n ↦ subst (P x) (sym (get_or-set_other ns q x (with_child s (at ns q) c) blank n)) (b x n)
  ]

  pub relink_bare : (x : ℕ) → bare (at (set ns q (with_child s (at ns q) c)) x) ≡ bare (at ns x)
  relink_bare = relink_each (λ (x : ℕ) (n : Node). bare n ≡ bare (at ns x)) refl (λ x n. refl)

  pub relink_sure : (u : ℕ) → q < u → c ≢ Some 65535 → ((b : Bool) (x : ℕ) → x < u → link b (at ns x) ≢ Some 65535) → (b : Bool) (x : ℕ) → x < u → link b (at (set ns q (with_child s (at ns q) c)) x) ≢ Some 65535
  relink_sure u qu n all b = relink_each (λ (x : ℕ) (m : Node). x < u → link b m ≢ Some 65535) (λ _. sure_with b s (at ns q) c n (all b q qu)) (λ x _. all b x)

  pub relink_hit : child s (at (set ns q (with_child s (at ns q) c)) q) ≡ slot_of c
  relink_hit = ap (child s) (get_or-set_same ns q (with_child s (at ns q) c) blank l) ∙ elim (child_with s s (at ns q) c) [ inl p ↦ p.1 | inr p ↦ absurd (p.0 refl) ]

  pub relink_miss : (b : Bool) (x : ℕ) → ((x ≡ q) × (b ≡ s) → ⊥) → child b (at (set ns q (with_child s (at ns q) c)) x) ≡ child b (at ns x)
  relink_miss b = relink_each (λ (x : ℕ) (n : Node). ((x ≡ q) × (b ≡ s) → ⊥) → child b n ≡ child b (at ns x))
      (λ z. elim (child_with b s (at ns q) c) [ inl p ↦ absurd (z (refl, p.0)) | inr p ↦ p.1 ]) (λ x n z. refl)

cases_link : (a b : Bool) (i j : ℕ) → ((i ≡ j) × (a ≡ b)) ⊎ ((i ≡ j) × (a ≡ b) → ⊥)
cases_link a b i j = elim (cases_eq i j) [ inr n ↦ inr (λ z. n z.0) | inl e ↦ elim (bools a b) [ inl q ↦ inl (e, q) | inr q ↦ inr (λ z. q z.1) ] ]
  where
    bools : (a b : Bool) → (a ≡ b) ⊎ (a ≡ b → ⊥)
    bools true true = inl refl
    bools true false = inr true≢false
    bools false true = inr false≢true
    bools false false = inl refl

-- both links changed, then both slots
module _ (ns : List Node) (u h l q p : ℕ) (s r : Bool) (ul : u ≤ length ns) (t : Trie (at ns) u) (hu : h < u) (lu : l < u) (ne : h ≢ l) (pq : Parent ns u l q s) (pp : Parent ns u h p r) where
  abbrev n1 : List Node
  n1 = set ns q (with_child s (at ns q) (Some h))

  abbrev n2 : List Node
  n2 = set n1 p (with_child r (at n1 p) (Some l))

  q1 : q < length ns
  q1 = omega (arith, pq.slot)

  p1 : p < length n1
  p1 = rw length-set (omega (arith, pp.slot))

  bare2 : (x : ℕ) → bare (at n2 x) ≡ bare (at ns x)
  bare2 x = relink_bare n1 p r (Some l) p1 x ∙ relink_bare ns q s (Some h) q1 x

  links2 : (b : Bool) (x : ℕ) → x < u → child b (at n2 x) ≡ swapped h l (child b (at ns x))
  links2 b x hx = elim (cases_link b r x p) [
    | inl z ↦ ap (λ (a : Bool). child a (at n2 x)) z.1 ∙ ap (λ (k : ℕ). child r (at n2 k)) z.0 ∙ relink_hit n1 p r (Some l) p1 ∙ sym (swapped_l h l)
        ∙ ap (swapped h l) (sym (ap (λ (a : Bool). child a (at ns x)) z.1 ∙ ap (λ (k : ℕ). child r (at ns k)) z.0 ∙ pp.link))
    | inr z ↦ relink_miss n1 p r (Some l) p1 b x z ∙ (elim (cases_link b s x q) [
      | inl y ↦ ap (λ (a : Bool). child a (at n1 x)) y.1 ∙ ap (λ (k : ℕ). child s (at n1 k)) y.0 ∙ relink_hit ns q s (Some h) q1 ∙ sym (swapped_r h l)
          ∙ ap (swapped h l) (sym (ap (λ (a : Bool). child a (at ns x)) y.1 ∙ ap (λ (k : ℕ). child s (at ns k)) y.0 ∙ pq.link))
      | inr y ↦ relink_miss ns q s (Some h) q1 b x y ∙ sym (swapped_o h l (child b (at ns x))
          (λ e. z (one_parent (at ns) u t b r x p h hx pp.slot hu e pp.link))
          (λ e. y (one_parent (at ns) u t b s x q l hx pq.slot lu e pq.link)))
    ])
  ]

  sure2 : (b : Bool) (x : ℕ) → x < u → link b (at n2 x) ≢ Some 65535
  sure2 = relink_sure n1 p r (Some l) p1 u pp.slot (sure_some l (omega (arith, lu, t.few))) (relink_sure ns q s (Some h) q1 u pq.slot (sure_some h (omega (arith, hu, t.few))) t.sure)

  pub moved : (ms : List Node) → length ms ≡ length n2 → ((d : Node) → get_or ms h d ≡ get_or n2 l d) → ((d : Node) → get_or ms l d ≡ get_or n2 h d) → ((k : ℕ) (d : Node) → (k ≡ h → ⊥) → (k ≡ l → ⊥) → get_or ms k d ≡ get_or n2 k d) → Moved ns ms u h l
  moved ms long a b c = record {
    long = long ∙ length-set n1 p _ ∙ length-set ns q _;
    nodes = λ j hj. ap bare (place j) ∙ bare2 (swapped h l j);
    links = λ d j hj. ap (child d) (place j) ∙ links2 d (swapped h l j) (swapped_in h l u j hu lu hj);
    sure = λ d j hj. subst (λ (n : Node). link d n ≢ Some 65535) (sym (place j)) (sure2 d (swapped h l j) (swapped_in h l u j hu lu hj));
  }
    where
      place : (j : ℕ) → at ms j ≡ at n2 (swapped h l j)
      place = swapped_each h l (λ j k. at ms j ≡ at n2 k) (a blank) (b blank) (λ j n m. c j blank n m)

  pub moved_by : (y1 y2 : Node) → y1 ≡ with_child s (at ns q) (Some h) → y2 ≡ with_child r (at (set ns q y1) p) (Some l) → (ms : List Node) → length ms ≡ length (set (set ns q y1) p y2)
      → ((d : Node) → get_or ms h d ≡ get_or (set (set ns q y1) p y2) l d) → ((d : Node) → get_or ms l d ≡ get_or (set (set ns q y1) p y2) h d) → ((k : ℕ) (d : Node) → (k ≡ h → ⊥) → (k ≡ l → ⊥) → get_or ms k d ≡ get_or (set (set ns q y1) p y2) k d) → Moved ns ms u h l
  moved_by y1 y2 e1 e2 ms long a b c =
      let f1 : set ns q y1 ≡ n1 = ap (λ (y : Node). set ns q y) e1 in
      let f2 : set (set ns q y1) p y2 ≡ n2 = ap (λ (y : Node). set (set ns q y1) p y) e2 ∙ ap (λ (x : List Node). set x p (with_child r (at x p) (Some l))) f1 in
      moved ms (long ∙ ap length f2) (λ d. a d ∙ ap (λ (x : List Node). get_or x l d) f2) (λ d. b d ∙ ap (λ (x : List Node). get_or x h d) f2) (λ k d m n. c k d m n ∙ ap (λ (x : List Node). get_or x k d) f2)

-- the same trie and the same routes, in other slots
module _ (ns ms : List Node) (u h l : ℕ) (m : Moved ns ms u h l) (t : Trie (at ns) u) (ul : u ≤ length ns) (hu : h < u) (lu : l < u) (h0 : 0 < h) (l0 : 0 < l) where
  pub moved_nil : swapped h l 65535 ≡ 65535
  moved_nil = swapped_o h l 65535 (omega (arith, t.few)) (omega (arith, t.few))

  pub moved_trie : Trie (at ms) u
  moved_trie = renamed (at ns) (at ms) u t (swapped h l) (swapped_back h l) (λ j. swapped_in h l u j hu lu) (swapped_o h l 0 (omega arith) (omega arith)) moved_nil
      (λ j hj. ap (λ (n : Node). n.prefix.len) (m.nodes j hj)) (λ j hj. ap (λ (n : Node). node_bit n) (m.nodes j hj)) m.links m.sure

  pub moved_in : u ≤ length ms
  moved_in = omega (arith, m.long)

  pub moved_holds : holds ms u ≡ holds ns u
  unfolding key
  moved_holds = same_holds ns ms u u ul moved_in t moved_trie
      (λ j hj s. (swapped h l j, swapped_in h l u j hu lu hj, ap key (m.nodes (swapped h l j) (swapped_in h l u j hu lu hj)) ∙ ap (λ (k : ℕ). key (at ns k)) (swapped_back h l j)))
      (λ k hk. (swapped h l k, swapped_in h l u k hu lu hk, sym (ap key (m.nodes k hk)), sym (ap (λ (n : Node). n.hop) (m.nodes k hk))))

  -- a slot's hop and links where it is now
  pub moved_hop : (x : ℕ) → x < u → (at ms (swapped h l x)).hop ≡ (at ns x).hop
  moved_hop x hx = ap (λ (n : Node). n.hop) (m.nodes (swapped h l x) (swapped_in h l u x hu lu hx)) ∙ ap (λ (k : ℕ). (at ns k).hop) (swapped_back h l x)

  pub moved_link : (s : Bool) (x : ℕ) → x < u → child s (at ms (swapped h l x)) ≡ swapped h l (child s (at ns x))
  moved_link s x hx = m.links s (swapped h l x) (swapped_in h l u x hu lu hx) ∙ ap (λ (k : ℕ). swapped h l (child s (at ns k))) (swapped_back h l x)

  pub moved_some : (c : ℕ) → c ≢ 65535 → swapped h l c ≢ 65535
  moved_some c n e = n (sym (swapped_back h l c) ∙ ap (swapped h l) e ∙ moved_nil)

  pub moved_forks : (x : ℕ) → ((i : ℕ) → i < u → i ≢ x → (at ns i).hop ≡ None → (s : Bool) → child s (at ns i) ≢ 65535) → (i : ℕ) → i < u → i ≢ swapped h l x → (at ms i).hop ≡ None → (s : Bool) → child s (at ms i) ≢ 65535
  moved_forks x f i hi ne e s z = moved_some (child s (at ns (swapped h l i)))
      (f (swapped h l i) (swapped_in h l u i hu lu hi) (λ y. ne (sym (swapped_back h l i) ∙ ap (swapped h l) y)) (sym (ap (λ (n : Node). n.hop) (m.nodes i hi)) ∙ e) s) (sym (m.links s i hi) ∙ z)
