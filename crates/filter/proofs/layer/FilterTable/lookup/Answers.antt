use Rattle.std.proofs.Common.{suc, ◌<◌, ◌≤◌, length, sym, refl, ap, ◌∙◌, arith}
use Rattle.std.proofs.lemmas.Bool.{false≢true, ltb-true, ltb-false, le-leb, lt-leb}
use Rattle.model.proofs.Steps.{at, does_of}
use Rattle.model.proofs.FilterLaws.{filter_too_long, asked_none, asked_within, asked_more, asked_all}
use Rattle.filter.specs.Policies.{rules_of}
use Rattle.filter.specs.Verdicts.{verdict}
use Rattle.filter.proofs.Verdicts.{stands, asks, heard, unheard}
use Rattle.filter.proofs.layer.FilterTable.lookup.Goals as goal

pub returns-then-too_long-clause-does : goal.returns-then-too_long-clause-does
returns-then-too_long-clause-does g c =
    let t = g.T.Table in
    let s = c.args.self.now in
    let w = g.met.T.Addr.Address.whole c.args.address in
    let h : length (g.T.Addr.Address.bits c.args.address) < c.args.bound = omega (arith, ltb-true _ _ (sym c.too_long.ensures ∙ c.if-too_long.true)) in
    does_of (filter_too_long (rules_of s.policy) (at t.planes t.view t.room t.stack s.inner) _ _ (lt-leb _ _ h))

pub loop-answer-init : goal.loop-answer-init
loop-answer-init g c = (c.requires, refl, asked_none _ _ _ _)

pub returns-in_err-answer : goal.returns-in_err-answer
returns-in_err-answer g c =
    let w = g.met.T.Addr.Address.whole c.args.address in
    let k = c.loop-answer.invariant.2 in
    let b = ltb-false _ _ (sym c.too_long.ensures ∙ c.if-too_long.false) in
    let h : c.loop-answer.longest ≤ length (g.T.Addr.Address.bits c.args.address) = omega (arith, k.within, b) in
    absurd (false≢true (sym (unheard g.T.Addr.Address.bits _ _ _ _ c.in_err-answer.ensures.once) ∙ le-leb _ _ h))

pub returns-in-Break : goal.returns-in-Break
returns-in-Break g c =
    let t = g.T.Table in
    let s = c.args.self.now in
    let q = rules_of s.policy in
    let bits = g.T.Addr.Address.bits in
    let a = bits c.args.address in
    let x = at t.planes t.view t.room t.stack s.inner in
    let u = at t.planes t.view t.room t.stack c.loop-answer.self.inner in
    let z = at t.planes t.view t.room t.stack c.ask.new.self.inner in
    let w = g.met.T.Addr.Address.whole c.args.address in
    let b = ltb-false _ _ (sym c.too_long.ensures ∙ c.if-too_long.false) in
    let h : c.args.bound ≤ length a = omega (arith, b) in
    let k = c.in_ok-answer.ensures in
    let o = heard bits _ a _ c.in_ok-answer.field-0 k.once in
    let e = sym c.in-Break.is ∙ o.1.1 ∙ ap (λ p. verdict (rules_of p) a o.0) c.loop-answer.invariant.1 in
    let v = stands bits q a (x.view x.planes) o.0 c.in-Break.answer e in
    rw (k.policy ∙ c.loop-answer.invariant.1) (record {
      valid = k.valid;
      does = does_of (asked_all q x u z a _ _ c.loop-answer.invariant.2 _ _ h v.0 v.1 (t.described s.inner) o.1.0);
      refused = λ n. absurd (false≢true (sym n));
    })

pub loop-answer-smaller : goal.loop-answer-smaller
loop-answer-smaller g c =
    let bits = g.T.Addr.Address.bits in
    let a = bits c.args.address in
    let o = heard bits _ a _ c.in_ok-answer.field-0 c.in_ok-answer.ensures.once in
    let e = sym c.in-Continue.is ∙ o.1.1 ∙ ap (λ p. verdict (rules_of p) a o.0) c.loop-answer.invariant.1 in
    let v = asks bits (rules_of c.args.self.now.policy) a o.0 c.in-Continue.below e in
    let m = asked_within _ _ _ _ a _ _ c.loop-answer.invariant.2 (suc c.in-Continue.below) v.0 (rw v.1.0 at o.1.0) in
    omega (arith, m)

pub loop-answer-preserved : goal.loop-answer-preserved
loop-answer-preserved g c =
    let bits = g.T.Addr.Address.bits in
    let a = bits c.args.address in
    let k = c.in_ok-answer.ensures in
    let o = heard bits _ a _ c.in_ok-answer.field-0 k.once in
    let e = sym c.in-Continue.is ∙ o.1.1 ∙ ap (λ p. verdict (rules_of p) a o.0) c.loop-answer.invariant.1 in
    let v = asks bits (rules_of c.args.self.now.policy) a o.0 c.in-Continue.below e in (
      k.valid,
      k.policy ∙ c.loop-answer.invariant.1,
      asked_more _ _ _ _ a _ _ c.loop-answer.invariant.2 c.in-Continue.below v.0 v.1.1 (rw v.1.0 at o.1.0),
    )
