use Rattle.std.proofs.Common.{refl, rules}
use Rattle.model.proofs.CacheLaws.{fetch_keeps}
use Rattle.cache.proofs.Caches.{act_current, act_done}
use Rattle.cache.proofs.cache.CacheTable.fetch.Goals as goal

pub returns : goal.returns
returns g c =
    let t = g.T.Table in
    let l = fetch_keeps (g.T.Addr.Address.pbits c.args.prefix) _ _ in
    record {
      valid = (search rules, act_current t.planes t.view t.room t.stack _ _ _ _ _ _ _ l c.fetch.ensures.does (t.local _) c.requires.1, c.requires.2);
      does = act_done t.planes t.view t.room t.stack g.T.Addr.Address.bits _ _ _ _ _ l c.fetch.ensures.does (t.described _) refl;
      refused = search rules;
    }
