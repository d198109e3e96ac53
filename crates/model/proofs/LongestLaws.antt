-- The answer of a lookup is the longest match. Assumes nothing.
use Rattle.std.proofs.Common.{◌≡◌, ℕ, zero, suc, ◌≤◌, ◌⊎◌, [], length, take, Some, None, Option, sym, refl, ap, ◌∙◌, inl, inr, arith}
use Rattle.std.proofs.lemmas.List.{length-take-le}
use Rattle.std.proofs.lemmas.Bool.{cases_eq}
use Rattle.bits.specs.Bits.{Bits}
use Rattle.model.specs.Maps.{Visible}
use Rattle.model.specs.Longest.{or_else, at_length, answer, Candidate, LongestFound, Longest, LongestLaws}
use Rattle.bits.proofs.Strings.{covers_starts}
use Rattle.model.proofs.Coverings.{take_covers}

module _ {V : Type 0} where
  some_seen : (o : Option V) (v : V) → o ≡ Some v → o ≡ None → ⊥
  some_seen o v e f = let z : ◌≡◌ {A = ℕ} 0 1 = cc in omega arith

  -- the prefix of k bits is seen: it is the longest match at bound k
  here : (s : Visible V) (a : Bits) (k : ℕ) (v : V) → k ≤ length a → s (take k a) ≡ Some v → LongestFound s a k k v
  here s a k v l e = record {
    prefix = take k a;
    candidate = record { visible = some_seen (s (take k a)) v e; covering = take_covers k a; within = omega (arith, length-take-le k a l) };
    long = length-take-le k a l;
    value = e;
    longest = λ q c. c.within;
  }

  -- a bit more of bound, where nothing of that length is seen
  tighter : (s : Visible V) (a : Bits) (k : ℕ) → s (take (suc k) a) ≡ None → (q : Bits) → Candidate s a (suc k) q → Candidate s a k q
  tighter s a k e q c = record { visible = c.visible; covering = c.covering; within = go (cases_eq (length q) (suc k)) }
    where
      go : (length q ≡ suc k) ⊎ (length q ≡ suc k → ⊥) → length q ≤ k
      go (inl f) = absurd (c.visible (ap s ((covers_starts q a c.covering).1 ∙ ap (λ n. take n a) f) ∙ e))
      go (inr f) = omega (arith, c.within)

  wider : (s : Visible V) (a : Bits) (k : ℕ) → s (take (suc k) a) ≡ None → (x : Option (ℕ × V)) → Longest s a k x → Longest s a (suc k) x
  wider s a k e None n = λ q c. n q (tighter s a k e q c)
  wider s a k e (Some x) f = record {
    prefix = f.prefix;
    candidate = record { visible = f.candidate.visible; covering = f.candidate.covering; within = omega (arith, f.candidate.within) };
    long = f.long;
    value = f.value;
    longest = λ q c. f.longest q (tighter s a k e q c);
  }

  pub is_longest : (s : Visible V) (a : Bits) (b : ℕ) → b ≤ length a → Longest s a b (answer s a b)
  is_longest s a zero l = go (s []) refl
    where
      go : (o : Option V) → s [] ≡ o → Longest s a zero (at_length zero o)
      go None e = λ q c. c.visible (ap s ((covers_starts q a c.covering).1 ∙ ap (λ n. take n a) (empty q c)) ∙ e)
        where
          empty : (q : Bits) → Candidate s a zero q → length q ≡ zero
          empty q c = omega (arith, c.within)
      go (Some v) e = here s a zero v l e
  is_longest s a (suc k) l = go (is_longest s a k (omega arith)) (s (take (suc k) a)) refl
    where
      go : Longest s a k (answer s a k) → (o : Option V) → s (take (suc k) a) ≡ o → Longest s a (suc k) (or_else (at_length (suc k) o) (answer s a k))
      go ih None e = wider s a k e (answer s a k) ih
      go ih (Some v) e = here s a (suc k) v l e

  -- two longest matches are one
  only : (s : Visible V) (a : Bits) (b : ℕ) (x y : Option (ℕ × V)) → Longest s a b x → Longest s a b y → x ≡ y
  only s a b None None f g = refl
  only s a b None (Some y) f g = absurd (f g.prefix g.candidate)
  only s a b (Some x) None f g = absurd (g f.prefix f.candidate)
  only s a b (Some x) (Some y) f g =
      let up : length g.prefix ≤ x.0 = f.longest g.prefix g.candidate in
      let down : length f.prefix ≤ y.0 = g.longest f.prefix f.candidate in
      let n : x.0 ≡ y.0 = omega (arith, f.long, g.long) in
      let m : length f.prefix ≡ length g.prefix = f.long ∙ n ∙ sym g.long in
      let p : f.prefix ≡ g.prefix = (covers_starts f.prefix a f.candidate.covering).1 ∙ ap (λ k. take k a) m ∙ sym (covers_starts g.prefix a g.candidate.covering).1 in
      let w : Some x.1 ≡ Some y.1 = sym f.value ∙ ap s p ∙ g.value in
      let v : x.1 ≡ y.1 = cc in
      λ i. Some (n i, v i)

pub longest_laws : (V : Type 0) → LongestLaws V
longest_laws V = record { is_longest = is_longest; only_answer = λ s a b x l f. only s a b x (answer s a b) f (is_longest s a b l) }
