use Rattle.std.proofs.Common.{rules}
use Rattle.std.proofs.lemmas.Fn.{always_returns_same}
use Rattle.bits.specs.Bits.{order}
use Rattle.bits.specs.Halves.{front}
use Rattle.sorted.specs.Rows.{key}
use Rattle.sorted.proofs.Seeking.{named, named_stands, located}
use Rattle.sorted.proofs.search.locate.Goals as goal

pub returns : goal.returns
returns c =
    let rows = c.args.rows.now in
    let p = front c.args.prefix.len c.args.prefix.bits in
    located rows p c.requires.rising _ c.binary_search_by.ensures.bound
    (c.binary_search_by.ensures.position (λ row. named (order (key row) p)) (always_returns_same _ _ _ (λ a r f k. (named_stands _ _ (search rules), search rules))))
