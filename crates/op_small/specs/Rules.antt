-- What a small kernel makes of the steps that it is fed.
use Rattle.std.specs.Prelude.{ℤ, Bool, true, false, List, [], ◌∷◌, map, Option, None, Some, Result, Ok, Err, if◌then◌else◌}
use Rattle.promql_meaning.specs.Absences.{absence_under}
use Rattle.promql_meaning.specs.Elements.{instant_outcome, nameless, row_by_row, seconds_of, time_step}
use Rattle.promql_meaning.specs.Givens.{barren, no_marks, scalar_step}
use Rattle.promql_meaning.specs.Meaning.{as_scalar}
use Rattle.step_table.specs.Groups.{Names}
use Rattle.step_table.specs.Timed.{StepAt, steps_over}
use Rattle.step_table.specs.declared.outcomes.Outcome.{Outcome}
use Rattle.step_table.specs.declared.step.Row.{Row}
use Rattle.step_table.specs.declared.step.Step.{Step}
use Rattle.ticks.specs.declared.moment.Ms.{Ms}
use Rattle.step_batch.specs.declared.steps.Slot.{Slot}
use Rattle.xfrac.specs.Arithmetic.{whole_number}
use Rattle.xfrac.specs.declared.value.NumFault.{NumFault}
use Rattle.xfrac.specs.declared.value.NumFault.TheVariants.{Overflow}
use Rattle.xfrac.specs.declared.value.XFrac.{XFrac}
use Rattle.xfrac.specs.declared.value.XFrac.TheVariants.{NaN}
use Rattle.step_batch.specs.Lent.{Lent}
use Rattle.step_put.specs.Placed.{left_of}
use Rattle.step_put.specs.declared.labels_left.Left.{Left}
use Rattle.step_put.specs.declared.labels_left.Left.TheVariants as kind
use Rattle.step_put.specs.declared.placed.PlacedOutcome.{PlacedOutcome}
use Rattle.op_small.specs.declared.rule.SmallRule.{SmallRule}
use Rattle.op_small.specs.declared.rule.SmallRule.TheVariants.{Number, Time, Stamp, Scalar, Vector, Absent}

-- of a row whose value is its sample's own time in seconds that value, of any other the instant, both without the name
abbrev pub stamp : Bool → ℤ → Row → Outcome
stamp true t row = record { labels = nameless row.labels; value = Ok (Some row.value) }
stamp false t row = instant_outcome t row

-- what a rule makes of a step at an instant
abbrev pub small : SmallRule → ℤ → Step → Step
small (Number value) t step = scalar_step value
small Time t step = time_step t
small (Stamp own) t step = row_by_row (stamp own t) step
small Scalar t step = as_scalar step
small Vector t step = step
small (Absent labels) t step = absence_under labels step.table.rows step.marks

abbrev pub small_at : SmallRule → StepAt → StepAt
small_at rule s = record { at = s.at; step = small rule s.at.0 s.step }

-- steps without rows at some instants
abbrev pub bare : List Ms → List StepAt
bare at = steps_over (λ t. barren no_marks) at

-- what a rule reads: a number and the time the instants alone, the others the steps
abbrev pub read_by : SmallRule → List Ms → List StepAt → List StepAt
read_by (Number value) at fed = bare at
read_by Time at fed = bare at
read_by (Stamp own) at fed = fed
read_by Scalar at fed = fed
read_by Vector at fed = fed
read_by (Absent labels) at fed = fed

-- what is lent of what is fed: of each step what the rule makes of it, at its instant
abbrev pub smalls : SmallRule → List Ms → List StepAt → List StepAt
smalls rule at fed = map (small_at rule) (read_by rule at fed)

-- ---- the one row

-- a number, or where there is none an instant in seconds
abbrev pub value_at : Option XFrac → ℤ → Result (Option XFrac) NumFault
value_at (Some value) t = Ok (Some value)
value_at None t = seconds_of t

-- the rule of a number, or of the time
abbrev pub rule_of : Option XFrac → SmallRule
rule_of (Some value) = Number value
rule_of None = Time

-- the value of the one slot, else NaN
abbrev pub value_of_slots : List Slot → XFrac
value_of_slots (slot ∷ []) = slot.value
value_of_slots _ = NaN

-- the labels of what is absent, if there are any
abbrev pub names_under : Option Names → Names
names_under (Some names) = names
names_under None = []

-- what comes of absence: 1 where there are no slots, unless its labels would pass their limits
abbrev pub absent_value : Option Names → List Slot → Result (Option XFrac) NumFault
absent_value (Some names) [] = Ok (Some (whole_number 1))
absent_value None [] = Err Overflow
absent_value under (slot ∷ slots) = Ok None

-- ---- a row of each row

-- what a rule leaves of the labels of the rows that it reads
abbrev pub left_by : SmallRule → Left
left_by (Stamp own) = kind.Nameless
left_by _ = kind.All

-- a row's value, or the instant in seconds
abbrev pub value_of : Bool → ℤ → XFrac → Result (Option XFrac) NumFault
value_of own t value = if own then Ok (Some value) else seconds_of t

-- what is made of a slot
abbrev pub each_of : Bool → ℤ → Slot → PlacedOutcome
each_of own t slot = record { place = slot.place; value = value_of own t slot.value }

-- the same of a row, under what is left of its labels
abbrev pub each : Left → Bool → ℤ → Row → Outcome
each left own t row = record { labels = left_of left row.labels; value = value_of own t row.value }

abbrev pub each_at : Left → Bool → StepAt → StepAt
each_at left own s = record { at = s.at; step = row_by_row (each left own s.at.0) s.step }

-- ---- a kernel

-- a rule, and what is lent
pub record Smalls : Type 0 where
  pub rule : SmallRule
  pub lent : Lent
