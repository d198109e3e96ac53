-- The rules of a policy as rules of the model.
use Rattle.std.specs.Prelude.{ℕ, Bool, true, false, ◌&&◌, length, nat_le}
use Rattle.bits.specs.Bits.{Bits}
use Rattle.bits.specs.Halves.{front}
use Rattle.model.specs.Views as views
use Rattle.filter.specs.declared.entry.Entry.{Entry}
use Rattle.filter.specs.declared.rule.Action.{Action}
use Rattle.filter.specs.declared.rule.Action.TheVariants.{Permit, Deny}
use Rattle.filter.specs.declared.rule.Rule.{Rule}

-- what a rule does with the routes that it matches
abbrev pub allowed : Action → Bool
allowed Permit = true
allowed Deny = false

-- a rule, by the bits of its prefix
abbrev pub as_rule : {P : Type 0} → (P → Bits) → Rule P → views.Rule
as_rule pbits r = record { permit = allowed r.action; prefix = pbits r.prefix; ge = r.ge; le = r.le }

-- a rule as a policy keeps it
abbrev pub entry_rule : Entry → views.Rule
entry_rule e = record { permit = allowed e.action; prefix = front e.prefix.len e.prefix.bits; ge = e.ge; le = e.le }

-- prefix length ≤ ge ≤ le ≤ width
abbrev pub well_formed : ℕ → views.Rule → Bool
well_formed w r = nat_le (length r.prefix) r.ge && (nat_le r.ge r.le && nat_le r.le w)
