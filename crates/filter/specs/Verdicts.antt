-- What an answer of the table below comes to.
use Rattle.std.specs.Prelude.{◌≡◌, ℕ, ◌-◌, ◌≤◌, cond, List, take, Some, None, Ok, Err, Option, Result, ◌==◌}
use Rattle.std.specs.declared.ops.ControlFlow.{ControlFlow}
use Rattle.std.specs.declared.ops.ControlFlow.TheVariants.{Break, Continue}
use Rattle.bits.specs.Bits.{Bits}
use Rattle.model.specs.Machine.{Reply}
use Rattle.model.specs.Views.{Rule, permits}
use Rattle.table.specs.Meaning.{of_lookup}
use Rattle.table.specs.declared.calls.Refusal.{Refusal}

-- a found route is no longer than w
abbrev pub NoLonger : {A : Type 0} → ℕ → Option (ℕ × A) → Type 0
NoLonger w None = Unit {0}
NoLonger w (Some x) = x.0 ≤ w

-- what an answer comes to: a break with one that stands, or the bound at which it is asked again
abbrev pub Verdict : Type 0 → Type 0
Verdict A = ControlFlow (Option (ℕ × A)) ℕ

-- the bound below a denied route, if there is one
abbrev pub below_denied : {A : Type 0} → ℕ → Verdict A
below_denied n = cond (n == 0) (Break None) (Continue (n - 1))

-- none and a permitted route stand; below a denied one it is asked again
abbrev pub verdict : {A : Type 0} → List Rule → Bits → Option (ℕ × A) → Verdict A
verdict q a None = Break None
verdict q a (Some x) = cond (permits q (take x.0 a)) (Break (Some x)) (below_denied x.0)

-- what a reply of the table below comes to
abbrev pub judged : {A : Type 0} → List Rule → Bits → Result (Option (ℕ × A)) Refusal → Result (Verdict A) Refusal
judged q a (Ok x) = Ok (verdict q a x)
judged q a (Err n) = Err n

-- one lookup below, and what its reply comes to
pub record AskedOnce {A : Type 0} (bits : A → Bits) (q : List Rule) (a : Bits) (does : Reply → Type 0) (r : Result (Verdict A) Refusal) : Type 0 where
  pub told : Result (Option (ℕ × A)) Refusal
  pub asked : does (of_lookup bits told)
  pub comes_to : r ≡ judged q a told
