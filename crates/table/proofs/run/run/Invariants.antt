use Rattle.std.proofs.Common.{◌≡◌, map, take, Some}
use Rattle.model.proofs.PromiseLaws.{So}
use Rattle.table.specs.Meaning.{as_call, as_reply, calls_in, replies_in}
use Rattle.table.proofs.run.run.Given as goal

-- the exchanges so far, in their turn
abbrev pub invariant-loop-exchange : goal.invariant-loop-exchange
invariant-loop-exchange g l =
    let t = g.T.Table in
    let done = take l.exchange-index l.exchanges in
    let asked = map (as_call g.T.Addr.Address.bits g.T.Addr.Address.pbits) (calls_in done) in
    let told = map (as_reply g.T.Addr.Address.bits) (replies_in done) in record {
      valid : t.valid l.table;
      so_far : So t.planes t.view t.room t.stack l.initial.table l.table asked told;
      calls : calls_in l.exchanges ≡ calls_in l.initial.exchanges;
      replied : map (λ x. x.reply) done ≡ map Some (replies_in done);
    }
