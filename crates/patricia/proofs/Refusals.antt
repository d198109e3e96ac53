-- What an optional value made a result of its own was. Assumes nothing.
use Rattle.std.proofs.Common.{◌≡◌, Some, None, Option, Ok, Err, arith}
use Rattle.std.specs.Option.{ok_or}

module _ {X E : Type 0} (o : Option X) (d : E) where
  pub given : (x : X) → ok_or o d ≡ Ok x → o ≡ Some x
  given x e = grind (arith, e)

  pub refused_none : (y : E) → ok_or o d ≡ Err y → o ≡ None
  refused_none y e = grind (arith, e)

  pub refused_as : (y : E) → ok_or o d ≡ Err y → y ≡ d
  refused_as y e = grind (arith, e)
