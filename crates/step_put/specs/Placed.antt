-- What is made of rows that are fed: values, nothing or faults, by the places of the labels that were fed.
use Rattle.std.specs.Prelude.{◌≤◌, ◌<◌, ◌+◌, ◌&&◌, ℕ, Bool, true, false, List, [], ◌∷◌, ◌++◌, map, nat_lt, Option, None, Some, Result, Ok, Err, slice_get, slice_index_or, if◌then◌else◌, ⊤}
use Rattle.std.specs.List.{filter_map}
use Rattle.std.specs.Option.{option_map}
use Rattle.label_set.specs.Labels.{metric_name, signature, without}
use Rattle.step_batch.specs.Lent.{Lent}
use Rattle.step_batch.specs.declared.steps.Slot.{Slot}
use Rattle.step_table.specs.Groups.{Names}
use Rattle.step_table.specs.Outcomes.{made_of_value, mark_of_value, settled, taken}
use Rattle.step_table.specs.declared.marks.Mark.{Mark}
use Rattle.step_table.specs.declared.marks.Mark.TheVariants.{Overflow, Irrational, OutOfCalendar}
use Rattle.step_table.specs.declared.marks.Marks.{Marks}
use Rattle.step_table.specs.declared.outcomes.Outcome.{Outcome}
use Rattle.step_table.specs.declared.step.Step.{Step}
use Rattle.xfrac.specs.declared.value.NumFault.{NumFault}
use Rattle.xfrac.specs.declared.value.NumFault.TheVariants as fault
use Rattle.xfrac.specs.declared.value.XFrac.{XFrac}
use Rattle.step_put.specs.Puts.{AreAt}
use Rattle.step_put.specs.declared.labels_left.Left.{Left}
use Rattle.step_put.specs.declared.labels_left.Left.TheVariants as kind
use Rattle.step_put.specs.declared.placed.PlacedOutcome.{PlacedOutcome}
use Rattle.step_put.specs.declared.faults.Faults.{Faults}

-- what is left of labels
abbrev pub left_of : Left → Names → Names
left_of kind.All names = names
left_of kind.Nameless names = without (metric_name ∷ []) names
left_of (kind.Signature on listed) names = signature on listed names

-- what is left of labels, the labels that were fed, and the place of what is left of each
pub record Naming : Type 0 where
  pub left : Left
  pub fed : List Names
  pub places : List ℕ

-- what is left of each labels that were fed stands at its place among those that are lent
abbrev pub IsPlaced : Lent → Naming → Type 0
IsPlaced lent n = AreAt lent.labels (map (left_of n.left) n.fed) n.places

-- what is left of labels, the labels that were fed, and what is lent
pub record Made : Type 0 where
  pub left : Left
  pub fed : List Names
  pub lent : Lent

-- what is made of a row, under the labels that are left
abbrev pub outcome_of : Left → List Names → PlacedOutcome → Option Outcome
outcome_of left fed p = option_map (λ (names : Names). record { labels = left_of left names; value = p.value }) (slice_get fed p.place)

abbrev pub outcomes_of : Left → List Names → List PlacedOutcome → List Outcome
outcomes_of left fed placed = filter_map (outcome_of left fed) placed

-- the step of what is made: a row with a fault is left out with its mark, and then rows that share labels with their mark
abbrev pub made_step : Left → List Names → Marks → List PlacedOutcome → Step
made_step left fed marks placed = settled (taken marks (outcomes_of left fed placed))

-- the places rise, from one on and below another
abbrev pub PlacesRise : ℕ → ℕ → List PlacedOutcome → Type 0
PlacesRise low high [] = ⊤
PlacesRise low high (p ∷ placed) = (low ≤ p.place) × (p.place < high) × PlacesRise (p.place + 1) high placed

-- ---- values and faults

-- the value that is made, at a place
abbrev pub slot_at : ℕ → Result (Option XFrac) NumFault → Option Slot
slot_at place value = made_of_value (λ (v : XFrac). record { place = place; value = v }) value

-- the same at its own place, which stands in a list by the place of the labels that were fed
abbrev pub slot_made : List ℕ → PlacedOutcome → Option Slot
slot_made places p = slot_at (slice_index_or places p.place 0) p.value

abbrev pub slots_made : List ℕ → List PlacedOutcome → List Slot
slots_made places placed = filter_map (slot_made places) placed

-- whether there is a value
abbrev pub has_value : Result (Option XFrac) NumFault → Bool
has_value (Ok (Some value)) = true
has_value (Ok None) = false
has_value (Err x) = false

-- whether a place is behind another, if there is one
abbrev pub is_behind : Option ℕ → ℕ → Bool
is_behind None place = true
is_behind (Some last) place = nat_lt last place

-- whether the places of slots rise behind another, if there is one
abbrev pub do_rise : Option ℕ → List Slot → Bool
do_rise last [] = true
do_rise last (s ∷ slots) = is_behind last s.place && do_rise (Some s.place) slots

abbrev pub marks_made : List PlacedOutcome → List Mark
marks_made placed = filter_map (λ (p : PlacedOutcome). mark_of_value p.value) placed

abbrev pub one_if : Bool → Mark → List Mark
one_if b mark = if b then mark ∷ [] else []

-- the marks of faults that came, in their order
abbrev pub marks_of_faults : Faults → List Mark
marks_of_faults f = one_if f.overflow Overflow ++ one_if f.irrational Irrational ++ one_if f.out_of_calendar OutOfCalendar

-- one more fault that came
abbrev pub with_fault : Faults → NumFault → Faults
with_fault f fault.Overflow = record { overflow = true; irrational = f.irrational; out_of_calendar = f.out_of_calendar }
with_fault f fault.Irrational = record { overflow = f.overflow; irrational = true; out_of_calendar = f.out_of_calendar }
with_fault f fault.OutOfCalendar = record { overflow = f.overflow; irrational = f.irrational; out_of_calendar = true }

-- the faults that came with those of one more row
abbrev pub noted : Faults → Result (Option XFrac) NumFault → Faults
noted f (Ok value) = f
noted f (Err x) = with_fault f x
