-- The rules of a policy, and when a list of rules is a policy.
use Rattle.std.specs.Prelude.{ℕ, suc, Bool, true, false, cond, List, [], ◌∷◌, map, length, Some, None, Ok, Err, Option, Result, nat_lt}
use Rattle.bits.specs.Bits.{Bits}
use Rattle.model.specs.Views as views
use Rattle.filter.specs.Rules.{allowed, as_rule, entry_rule, well_formed}
use Rattle.filter.specs.declared.entry.Entry.{Entry}
use Rattle.filter.specs.declared.rule.Rule.{Rule}
use Rattle.filter.specs.declared.policy.Policy.{Policy}
use Rattle.filter.specs.declared.policy.PolicyRefusal.{PolicyRefusal}
use Rattle.filter.specs.declared.policy.PolicyRefusal.TheVariants.{TooManyRules, BadRule}

-- the rules in the places of a policy: those before the first empty place
abbrev pub rules_in : List (Option Entry) → List views.Rule
rules_in [] = []
rules_in (None ∷ xs) = []
rules_in (Some e ∷ xs) = entry_rule e ∷ rules_in xs

-- the search for the first match ends at an empty place, and at a rule that matches
abbrev pub ends : Option Entry → Bits → Bool
ends None p = true
ends (Some e) p = views.matches (entry_rule e) p

-- what is decided where it ends: an empty place denies
abbrev pub permitted : Option Entry → Bool
permitted None = false
permitted (Some e) = allowed e.action

-- the rules of a policy
abbrev pub rules_of : {A P : Type 0} → Policy A P → List views.Rule
rules_of q = rules_in q.rules

-- the place of the first rule that is not well-formed, counted from i
abbrev pub first_bad : ℕ → ℕ → List views.Rule → Option ℕ
first_bad w i [] = None
first_bad w i (r ∷ rs) = cond (well_formed w r) (first_bad w (suc i) rs) (Some i)

-- a refusal: its number, and the rule's place where it is about one
abbrev pub refusal : PolicyRefusal → ℕ × Option ℕ
refusal TooManyRules = (16, None)
refusal (BadRule i) = (17, Some i)

-- the rules of the policy that was made, or the refusal
abbrev pub outcome : {A P : Type 0} → Result (Policy A P) PolicyRefusal → Result (List views.Rule) (ℕ × Option ℕ)
outcome (Ok q) = Ok (rules_of q)
outcome (Err e) = Err (refusal e)

-- these rules, unless one is badly formed
abbrev pub unless_bad : List views.Rule → Option ℕ → Result (List views.Rule) (ℕ × Option ℕ)
unless_bad rs None = Ok rs
unless_bad rs (Some i) = Err (17, Some i)

-- when rules for addresses of w bits are a policy: at most 64, each well-formed
abbrev pub checked_policy : {P : Type 0} → (P → Bits) → ℕ → List (Rule P) → Result (List views.Rule) (ℕ × Option ℕ)
checked_policy pbits w rs = cond (nat_lt 64 (length rs)) (Err (16, None)) (unless_bad (map (as_rule pbits) rs) (first_bad w 0 (map (as_rule pbits) rs)))
