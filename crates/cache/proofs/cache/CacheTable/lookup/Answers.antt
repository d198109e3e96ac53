use Rattle.std.proofs.Common.{◌<◌, length, Some, sym, ap, ◌∙◌, subst, arith, rules, slice_set}
use Rattle.std.proofs.lemmas.Bool.{true≢false}
use Rattle.std.proofs.lemmas.List.{length-set}
use Rattle.model.specs.Slots.{Slot, slot_of, holds_address}
use Rattle.model.specs.Stack.{UpToDate}
use Rattle.model.proofs.CacheLaws.{cache_hit, cache_miss, found_now, current_looked, current_stored, full_bound, slot_read, slot_written}
use Rattle.model.proofs.Steps.{at, step_of, does_of}
use Rattle.cache.specs.Entries.{as_slot, as_slots}
use Rattle.cache.proofs.Caches.{answer_there, answer_not, hit_is, miss_is}
use Rattle.cache.proofs.cache.CacheTable.lookup.Goals as goal

pub returns-in-Some-clause-does : goal.returns-in-Some-clause-does
returns-in-Some-clause-does g c =
    let s = c.args.self.now in
    let t = g.T.Table in
    let bits = g.T.Addr.Address.bits in
    let a = bits c.args.address in
    let full = sym c.if-not-in_full.ensures in
    let whole = full_bound s.count a c.args.bound full in
    let l : c.slot_of-i.result < length s.slots = omega (arith, c.slot_of-i.ensures.below, c.requires.2.few, c.requires.2.all) in
    let r = slot_read (as_slot bits) s.slots _ _ c.index-self-i.result c.slot_of-i.ensures.which l ∙ answer_there _ a _ c.in-Some.ensures in
    let now = subst (λ (e : Slot). UpToDate (t.view s.inner (t.planes s.inner)) e) r (c.requires.1.at (slot_of s.count a)) in
    does_of (cache_hit s.count (as_slots bits s.slots) _ (t.described s.inner) a _ _ full whole r now)

pub returns-in-Some-clause-miss : goal.returns-in-Some-clause-miss
returns-in-Some-clause-miss g c f n =
    let s = c.args.self.now in
    let bits = g.T.Addr.Address.bits in
    let a = bits c.args.address in
    let full = sym c.if-not-in_full.ensures in
    let l : c.slot_of-i.result < length s.slots = omega (arith, c.slot_of-i.ensures.below, c.requires.2.few, c.requires.2.all) in
    let r = slot_read (as_slot bits) s.slots _ _ c.index-self-i.result c.slot_of-i.ensures.which l ∙ answer_there _ a _ c.in-Some.ensures in
    absurd (true≢false (sym (hit_is s.count (as_slots bits s.slots) a _ _ full r) ∙ n))

pub returns : goal.returns
returns g c =
    let s = c.args.self.now in
    let t = g.T.Table in
    let bits = g.T.Addr.Address.bits in
    let b = as_slot bits in
    let a = bits c.args.address in
    let es = as_slots bits s.slots in
    let w = c.in_ok-answer.answer in
    let full = sym c.if-not-in_full.ensures in
    let whole = full_bound s.count a c.args.bound full in
    let l : c.slot_of-i.result < length s.slots = omega (arith, c.slot_of-i.ensures.below, c.requires.2.few, c.requires.2.all) in
    let i = c.slot_of-i.ensures.which in
    let x = at t.planes t.view t.room t.stack s.inner in
    let y = at t.planes t.view t.room t.stack _ in
    let f = step_of c.in_ok-answer.ensures.does in
    let m = ap (λ (e : Slot). holds_address e a) (slot_read b s.slots _ _ c.index-self-i.result i l) ∙ answer_not _ a c.in_default.ensures in
    let new = slot_written b s.slots _ _ (Some (record { address = c.args.address; answer = w })) i in
    let fresh = found_now s.count es x (t.described s.inner) y a _ _ whole f in
    record {
      valid = (c.in_ok-answer.ensures.valid, current_looked x y _ f (current_stored (x.view x.planes) es _ _ a _ new fresh c.requires.1), record { few = c.requires.2.few; all = length-set s.slots _ _ ∙ c.requires.2.all });
      does = does_of (cache_miss s.count es x (t.described s.inner) y _ a _ _ new full whole m f);
      refused = search rules;
      hit = λ h. absurd (true≢false (sym h ∙ miss_is s.count es a _ full m));
      miss = λ f n. ap (λ k. slice_set s.slots k (Some (record { address = c.args.address; answer = w }))) i;
    }
