use Rattle.std.specs.Prelude.{◌≡◌, ℕ, ◌%◌, ◌^◌, ◌<◌}
use Rattle.std.proofs.Common.{mod-eq_of_lt, ◌∙◌}
use Rattle.bits.proofs.LowBits.{rest_bound}

pub left : (x : ℕ) → x < 2 ^ 64 → x % 2 ^ 64 % 2 ^ 64 ≡ x
left x h = mod-eq_of_lt (rest_bound 64 x) ∙ mod-eq_of_lt h
