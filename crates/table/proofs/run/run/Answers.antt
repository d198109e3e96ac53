use Rattle.std.proofs.Common.{◌≡◌, ◌+◌, ◌<◌, [], ◌∷◌, ◌++◌, length, get_or, set, take, Some, refl, ap, ◌∙◌, arith}
use Rattle.std.proofs.lemmas.List.{map_push, take_all, take_more_set}
use Rattle.std.proofs.lemmas.List.Elements.{filter_map-append}
use Rattle.std.proofs.Math.Seq.{map-set_same}
use Rattle.model.proofs.PromiseLaws.{so_none, so_more, so_promised}
use Rattle.table.specs.declared.calls.Exchange.{Exchange}
use Rattle.table.specs.Meaning.{as_call, as_reply, calls_in, replies_in}
use Rattle.table.proofs.run.run.Goals as goal

pub loop-exchange-init : goal.loop-exchange-init
loop-exchange-init g c = record { valid = c.requires; so_far = so_none _; calls = refl; replied = refl }

pub loop-exchange-preserved : goal.loop-exchange-preserved
loop-exchange-preserved g c =
    let f = as_call g.T.Addr.Address.bits g.T.Addr.Address.pbits in
    let b = as_reply g.T.Addr.Address.bits in
    let i = c.loop-exchange.exchange-index in
    let xs = c.loop-exchange.exchanges in
    let d = c.exchange-item.result in
    let y = c.perform.result in
    let x : Exchange _ _ = record { call = (get_or xs i d).call; reply = Some y } in
    let inv = c.loop-exchange.invariant in
    let l : i < length xs = omega arith in
    let more : take (i + 1) (set xs i x) ≡ take i xs ++ (x ∷ []) = take_more_set xs i x l in
    let replies : replies_in (take i xs ++ (x ∷ [])) ≡ replies_in (take i xs) ++ (y ∷ []) = filter_map-append (λ x. x.reply) (take i xs) (x ∷ []) in record {
      valid = c.perform.ensures.valid;
      so_far = rw (more, map_push (λ x. x.call) (take i xs) x, map_push f (calls_in (take i xs)) x.call, replies, map_push b (replies_in (take i xs)) y) (so_more inv.so_far c.perform.ensures.does c.perform.ensures.refused);
      calls = map-set_same (λ x. x.call) xs i x d refl ∙ inv.calls;
      replied = rw (more, map_push (λ x. x.reply) (take i xs) x, replies, map_push Some (replies_in (take i xs)) y) (ap (λ t. t ++ (Some y ∷ [])) inv.replied);
    }

pub returns-clause-promise : goal.returns-clause-promise
returns-clause-promise g c =
    let t = g.T.Table in
    let l = c.loop-exchange in
    let all : take l.exchange-index l.exchanges ≡ l.exchanges = take_all l.exchange-index l.exchanges (omega arith) in
    so_promised (t.described _) (t.sound _ l.invariant.valid) (t.current _ l.invariant.valid) (rw (all, l.invariant.calls) at l.invariant.so_far)
