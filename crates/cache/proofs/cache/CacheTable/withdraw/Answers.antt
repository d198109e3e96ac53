use Rattle.std.proofs.Common.{refl, ◌∙◌, rules}
use Rattle.std.proofs.lemmas.Result.{err_from_is_err_and}
use Rattle.model.specs.Machine.{withdraw, done}
use Rattle.cache.proofs.Caches.{update_clears, act_current, act_done}
use Rattle.cache.proofs.cache.CacheTable.withdraw.Goals as goal

pub returns-in_err-done-clause-does : goal.returns-in_err-done-clause-does
returns-in_err-done-clause-does g c =
    let t = g.T.Table in
    let p = err_from_is_err_and c.from_residual.result c.from_residual.ensures.1 in
    rw (p.1, p.2) (act_done t.planes t.view t.room t.stack g.T.Addr.Address.bits _ _ _ _ _ refl (search rules) (t.described _) refl)

pub returns : goal.returns
returns g c =
    let t = g.T.Table in
    let p = g.T.Addr.Address.pbits c.args.prefix in
    let act = withdraw p in
    let l = c.sweep.ensures.swept ∙ update_clears act p (λ a. refl) _ in
    record {
      valid = (search rules, act_current t.planes t.view t.room t.stack c.args.self.now.inner _ c.args.plane act done _ _ l (search rules) (t.local _) c.requires.1, record { few = c.requires.2.few; all = c.sweep.ensures.all });
      does = act_done t.planes t.view t.room t.stack g.T.Addr.Address.bits _ _ _ act _ l (search rules) (t.described _) refl;
      refused = search rules;
    }
