-- Element functions, and operators between a vector and a scalar, over steps. (Prometheus querying, "Functions", and
-- "Operators": the rules are those of the meaning.)
use Rattle.std.specs.Prelude.{◌≤◌, Bool, true, false, List, [], ◌∷◌, map, length, Option, None, Some, Result, if◌then◌else◌}
use Rattle.std.specs.List.{AllByRecursion}
use Rattle.func_table.specs.declared.table.Element.TheVariants.{Round, Clamp, ClampMin, ClampMax}
use Rattle.promql_meaning.specs.Elements.{operated_rows, operated_with}
use Rattle.promql_meaning.specs.Givens.{both, value_in, with_scalar}
use Rattle.promql_meaning.specs.Meaning.{applied_to, zero_number}
use Rattle.step_batch.specs.Lent.{Lent}
use Rattle.step_batch.specs.declared.steps.PlacedStep.{PlacedStep}
use Rattle.step_batch.specs.declared.steps.Slot.{Slot}
use Rattle.step_put.specs.declared.labels_left.Left.{Left}
use Rattle.step_put.specs.declared.labels_left.Left.TheVariants as kind
use Rattle.step_put.specs.declared.placed.PlacedOutcome.{PlacedOutcome}
use Rattle.step_table.specs.Operators.{drops_name}
use Rattle.step_table.specs.Timed.{StepAt}
use Rattle.step_table.specs.Unions.{united}
use Rattle.step_table.specs.declared.marks.Marks.{Marks}
use Rattle.step_table.specs.declared.step.Step.{Step}
use Rattle.value_fn.specs.Elements.{element_of}
use Rattle.xfrac.specs.declared.value.NumFault.{NumFault}
use Rattle.xfrac.specs.declared.value.XFrac.{XFrac}
use Rattle.op_element.specs.declared.formula.ElementRule.{ElementRule}
use Rattle.op_element.specs.declared.formula.ElementRule.TheVariants.{Apply, WithScalar}

-- ---- the rule

-- what a rule makes of a step and of the scalars that it takes; an operator's scalar is the first
abbrev pub element_step : ElementRule → Step → Step → Step → Step
element_step (Apply f) first second step = applied_to f first second step
element_step (WithScalar op scalar_left) first second step = with_scalar (operated_rows op scalar_left) first step

abbrev pub element_at : ElementRule → StepAt → StepAt → StepAt → StepAt
element_at rule first second s = record { at = s.at; step = element_step rule first.step second.step s.step }

-- what is lent of what is fed: of each step and the scalars beside it what the rule makes of them, at the step's instant
abbrev pub elements : ElementRule → List StepAt → List StepAt → List StepAt → List StepAt
elements rule (a ∷ firsts) (b ∷ seconds) (s ∷ steps) = element_at rule a b s ∷ elements rule firsts seconds steps
elements rule _ _ _ = []

-- ---- scalars

-- whether a rule reads the first scalar, and the second
abbrev pub reads_first : ElementRule → Bool
reads_first (Apply Round) = true
reads_first (Apply Clamp) = true
reads_first (Apply ClampMin) = true
reads_first (Apply ClampMax) = true
reads_first (Apply f) = false
reads_first (WithScalar op scalar_left) = true

abbrev pub reads_second : ElementRule → Bool
reads_second (Apply Clamp) = true
reads_second (Apply f) = false
reads_second (WithScalar op scalar_left) = false

-- a scalar has at most one row in each step
abbrev pub IsScalar : Lent → Type 0
IsScalar lent = AllByRecursion (λ (s : PlacedStep). length s.slots ≤ 1) lent.steps

-- the value of a scalar that is read; it may have lost it to a fatal mark
abbrev pub scalar_read : Bool → Step → Option XFrac
scalar_read reads step = if reads then value_in step else Some zero_number

-- the value of the slot of a scalar
abbrev pub slot_read : Bool → List Slot → Option XFrac
slot_read false slots = Some zero_number
slot_read true [] = None
slot_read true (slot ∷ slots) = Some slot.value

abbrev pub scalars_read : ElementRule → Step → Step → Option (XFrac × XFrac)
scalars_read rule first second = both (scalar_read (reads_first rule) first) (scalar_read (reads_second rule) second)

-- the marks and notes of a scalar are those of the step too
abbrev pub marks_read : Bool → Marks → Marks → Marks
marks_read reads marks more = if reads then united marks more else marks

abbrev pub all_marks : ElementRule → Marks → Marks → Marks → Marks
all_marks rule first second marks = marks_read (reads_second rule) (marks_read (reads_first rule) marks first) second

-- ---- rows

-- what a rule leaves of the labels of rows
abbrev pub left_by : ElementRule → Left
left_by (Apply f) = kind.Nameless
left_by (WithScalar op scalar_left) = if drops_name op then kind.Nameless else kind.All

-- what a rule makes of a value and two scalars
abbrev pub value_made : ElementRule → XFrac × XFrac → XFrac → Result (Option XFrac) NumFault
value_made (Apply f) scalars value = element_of f value scalars.0 scalars.1
value_made (WithScalar op scalar_left) scalars value = operated_with op scalar_left scalars.0 value

abbrev pub slot_placed : ElementRule → XFrac × XFrac → Slot → PlacedOutcome
slot_placed rule scalars slot = record { place = slot.place; value = value_made rule scalars slot.value }

-- what is made of the rows of a step; where a scalar has lost its value nothing is
abbrev pub slots_placed : ElementRule → Option (XFrac × XFrac) → List Slot → List PlacedOutcome
slots_placed rule None slots = []
slots_placed rule (Some scalars) slots = map (slot_placed rule scalars) slots

-- ---- a kernel

-- a rule, and what is lent
pub record Elements : Type 0 where
  pub rule : ElementRule
  pub lent : Lent
