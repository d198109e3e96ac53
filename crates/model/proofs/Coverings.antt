-- Prefixes that cover an address. Assumes nothing.
use Rattle.std.proofs.Common.{◌≡◌, ℕ, zero, suc, true, false, [], ◌∷◌, take, refl}
use Rattle.bits.specs.Bits.{Bits, covers}

-- the first bits of an address cover it
pub take_covers : (k : ℕ) (a : Bits) → covers (take k a) a ≡ true
take_covers zero a = refl
take_covers (suc k) [] = refl
take_covers (suc k) (false ∷ a) = take_covers k a
take_covers (suc k) (true ∷ a) = take_covers k a
