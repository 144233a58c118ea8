-- What a rule makes of a step is what it makes of its slots.
use Rattle.std.proofs.Common.{◌≡◌, ◌∙◌, ◌+◌, ◌<◌, ◌≤◌, ℕ, zero, suc, arith, Bool, true, false, List, [], ◌∷◌, ◌++◌, length, get_or, slice_get, map, refl, sym, ap, Option, Some, None}
use Rattle.std.specs.Prelude.{IsTrue, if◌then◌else◌, pos}
use Rattle.std.specs.List.{IsDistinct}
use Rattle.std.specs.List.Sorted.{IsStrictlySortedBy}
use Rattle.func_table.specs.declared.table.Element.TheVariants.{Abs, Ceil, Floor, Round, Sgn, Neg, Clamp, ClampMin, ClampMax, Calendar}
use Rattle.label_set.specs.LabelEquality.{labels_eq}
use Rattle.label_set.specs.Labels.{metric_name, without}
use Rattle.promql_meaning.specs.Elements.{operated_with, row_by_row}
use Rattle.promql_meaning.specs.Givens.{barren, both, by_value}
use Rattle.promql_meaning.specs.Meaning.{zero_number}
use Rattle.step_batch.specs.Laws.{LentRowsAreThoseOfSlots}
use Rattle.step_batch.specs.Lent.{SlotsRise, entries_of, row_of, step_of}
use Rattle.step_batch.specs.declared.steps.PlacedStep.{PlacedStep}
use Rattle.step_batch.specs.declared.steps.Slot.{Slot}
use Rattle.step_put.specs.Placed.{PlacesRise, left_of, made_step, outcomes_of}
use Rattle.step_table.specs.Gathering.{nothing_more, settled_table}
use Rattle.step_table.specs.Groups.{Names}
use Rattle.step_table.specs.Operators.{drops_name}
use Rattle.step_table.specs.Outcomes.{settled, taken}
use Rattle.step_table.specs.Shuffles.{OutcomesIgnoreOrder, Shuffled}
use Rattle.step_table.specs.Shuffling.{mapped_shuffled}
use Rattle.step_table.specs.Timed.{StepAt}
use Rattle.step_table.specs.Unions.{united}
use Rattle.step_table.specs.declared.marks.Marks.{Marks}
use Rattle.step_table.specs.declared.outcomes.Outcome.{Outcome}
use Rattle.step_table.specs.declared.step.Row.{Row}
use Rattle.step_table.specs.declared.step.Step.{Step}
use Rattle.ticks.specs.declared.moment.Ms.{Ms}
use Rattle.xfrac.specs.declared.value.XFrac.{XFrac}
use Rattle.step_put.specs.declared.labels_left.Left.{Left}
use Rattle.step_put.specs.declared.labels_left.Left.TheVariants as kind
use Rattle.step_put.specs.declared.placed.PlacedOutcome.{PlacedOutcome}
use Rattle.op_element.specs.Rules.{all_marks, element_at, element_step, left_by, reads_first, reads_second, scalar_read, scalars_read, slot_read, slots_placed, value_made}
use Rattle.op_element.specs.declared.formula.ElementRule.{ElementRule}
use Rattle.op_element.specs.declared.formula.ElementRule.TheVariants.{Apply, WithScalar}

abbrev pub Scalars : Type 0
Scalars = XFrac × XFrac

-- ---- the rule by its scalars

abbrev row_made : ElementRule → Scalars → Row → Outcome
row_made rule scalars row = record { labels = left_of (left_by rule) row.labels; value = value_made rule scalars row.value }

abbrev rows_made : ElementRule → Step → Marks → Scalars → Step
rows_made rule step marks scalars = row_by_row (row_made rule scalars) (record { table = step.table; marks = marks })

with_zero : (o : Option XFrac) (marks : Marks) (f : Scalars → Step) → by_value o marks (λ a. f (a, zero_number)) ≡ by_value (both o (Some zero_number)) marks f
with_zero None marks f = refl
with_zero (Some a) marks f = refl

-- an operator that drops the name leaves the other labels
left_unnamed : (b : Bool) (names : Names) → (if b then without (metric_name ∷ []) names else names) ≡ left_of (if b then kind.Nameless else kind.All) names
left_unnamed true names = refl
left_unnamed false names = refl

by_scalars : (rule : ElementRule) (first second step : Step)
    → element_step rule first second step ≡ by_value (scalars_read rule first second) (all_marks rule first.marks second.marks step.marks) (rows_made rule step (all_marks rule first.marks second.marks step.marks))
by_scalars (Apply Abs) first second step = refl
by_scalars (Apply Ceil) first second step = refl
by_scalars (Apply Floor) first second step = refl
by_scalars (Apply Round) first second step = with_zero (scalar_read true first) (united step.marks first.marks) (rows_made (Apply Round) step (united step.marks first.marks))
by_scalars (Apply Sgn) first second step = refl
by_scalars (Apply Neg) first second step = refl
by_scalars (Apply Clamp) first second step = refl
by_scalars (Apply ClampMin) first second step = with_zero (scalar_read true first) (united step.marks first.marks) (rows_made (Apply ClampMin) step (united step.marks first.marks))
by_scalars (Apply ClampMax) first second step = with_zero (scalar_read true first) (united step.marks first.marks) (rows_made (Apply ClampMax) step (united step.marks first.marks))
by_scalars (Apply (Calendar part)) first second step = refl
by_scalars (WithScalar op scalar_left) first second step =
    ap (by_value (scalar_read true first) (united step.marks first.marks)) (λ i a. row_by_row (λ (row : Row). record { labels = left_unnamed (drops_name op) row.labels i; value = operated_with op scalar_left a row.value }) (record { table = step.table; marks = united step.marks first.marks }))
    ∙ with_zero (scalar_read true first) (united step.marks first.marks) (rows_made (WithScalar op scalar_left) step (united step.marks first.marks))

-- ---- slots

get_there : (labels : List Names) (i : ℕ) (d : Names) → i < length labels → slice_get labels i ≡ Some (get_or labels i d)
get_there [] i d h = absurd (omega arith)
get_there (l ∷ labels) zero d h = refl
get_there (l ∷ labels) (suc i) d h = get_there labels i d (omega arith)

slot_is : (reads : Bool) (labels : List Names) (slots : List Slot) (marks : Marks) → SlotsRise 0 (length labels) slots → (IsTrue reads → length slots ≤ 1) → slot_read reads slots ≡ scalar_read reads (step_of (entries_of labels slots) marks)
slot_is false labels slots marks r f = refl
slot_is true labels [] marks r f = refl
slot_is true labels (s ∷ []) marks r f = let e = get_there labels s.place [] r.1 in rw e refl
slot_is true labels (s ∷ t ∷ slots) marks r f = let k = f refl in absurd (omega arith)

pub scalars_are : (rule : ElementRule) (labels names : List Names) (slots others : List Slot) (marks more : Marks)
    → SlotsRise 0 (length labels) slots → (IsTrue (reads_first rule) → length slots ≤ 1) → SlotsRise 0 (length names) others → (IsTrue (reads_second rule) → length others ≤ 1)
    → both (slot_read (reads_first rule) slots) (slot_read (reads_second rule) others) ≡ scalars_read rule (step_of (entries_of labels slots) marks) (step_of (entries_of names others) more)
scalars_are rule labels names slots others marks more r f s g =
    let a = slot_is (reads_first rule) labels slots marks r f in
    let b = slot_is (reads_second rule) names others more s g in
    λ i. both (a i) (b i)

pub placed_rise : (rule : ElementRule) (scalars : Option Scalars) (low high : ℕ) (slots : List Slot) → SlotsRise low high slots → PlacesRise low high (slots_placed rule scalars slots)
placed_rise rule None low high slots r = tt
placed_rise rule (Some b) low high [] r = tt
placed_rise rule (Some b) low high (s ∷ slots) r = (r.0, r.1, placed_rise rule (Some b) (s.place + 1) high slots r.2)

abbrev rows_at : List Names → List Slot → List Row
rows_at labels slots = map row_of (entries_of labels slots)

outcomes_are : (rule : ElementRule) (b : Scalars) (labels : List Names) (low : ℕ) (slots : List Slot) → SlotsRise low (length labels) slots
    → outcomes_of (left_by rule) labels (slots_placed rule (Some b) slots) ≡ map (row_made rule b) (rows_at labels slots)
outcomes_are rule b labels low [] r = refl
outcomes_are rule b labels low (s ∷ slots) r =
    let e = get_there labels s.place [] r.1 in
    rw e (ap (λ (z : List Outcome). record { labels = left_of (left_by rule) (get_or labels s.place []); value = value_made rule b s.value } ∷ z) (outcomes_are rule b labels (s.place + 1) slots r.2))

none_made : (marks : Marks) → settled (taken marks []) ≡ barren marks
unfolding IsStrictlySortedBy
none_made marks = settled_table (taken marks []) tt ∙ ap barren (nothing_more marks)

made_of_scalars : OutcomesIgnoreOrder → (rule : ElementRule) (labels : List Names) (slots : List Slot) (step : Step) (all : Marks) → SlotsRise 0 (length labels) slots → Shuffled (rows_at labels slots) step.table.rows
    → (o : Option Scalars) → made_step (left_by rule) labels all (slots_placed rule o slots) ≡ by_value o all (rows_made rule step all)
made_of_scalars order rule labels slots step all r same None = none_made all
made_of_scalars order rule labels slots step all r same (Some b) =
    ap (λ (z : List Outcome). settled (taken all z)) (outcomes_are rule b labels 0 slots r)
    ∙ order all (map (row_made rule b) (rows_at labels slots)) (map (row_made rule b) step.table.rows) (mapped_shuffled (row_made rule b) (rows_at labels slots) step.table.rows same)

-- what is made of the slots of a step is what the rule makes of it
pub made_is : LentRowsAreThoseOfSlots → OutcomesIgnoreOrder → (rule : ElementRule) (first second : Step) (labels : List Names) (slots : List Slot) (marks : Marks) → IsDistinct labels_eq labels → SlotsRise 0 (length labels) slots
    → made_step (left_by rule) labels (all_marks rule first.marks second.marks marks) (slots_placed rule (scalars_read rule first second) slots) ≡ element_step rule first second (step_of (entries_of labels slots) marks)
made_is law order rule first second labels slots marks d r =
    let step : Step = step_of (entries_of labels slots) marks in
    let placed : PlacedStep = record { at = record { 0 = pos 0 }; slots = slots; marks = marks } in
    let same : Shuffled (rows_at labels slots) step.table.rows = law (record { labels = labels; steps = [] }) placed (record { distinct = d; placed = tt; rising = tt }) r in
    made_of_scalars order rule labels slots step (all_marks rule first.marks second.marks marks) r same (scalars_read rule first second) ∙ sym (by_scalars rule first second step)

-- the step that is put, by what is known of each of its parts
pub one_made : LentRowsAreThoseOfSlots → OutcomesIgnoreOrder → (rule : ElementRule) (first_labels second_labels labels : List Names) (ones others slots : List Slot) (first_marks second_marks own_marks : Marks) (t : Ms) (f g s : StepAt)
    → (left : Left) (fed : List Names) (marks : Marks) (placed : List PlacedOutcome) (scalars : Option Scalars) (old new : List StepAt)
    → IsDistinct labels_eq labels → SlotsRise 0 (length labels) slots → SlotsRise 0 (length first_labels) ones → (IsTrue (reads_first rule) → length ones ≤ 1) → SlotsRise 0 (length second_labels) others → (IsTrue (reads_second rule) → length others ≤ 1)
    → f.step ≡ step_of (entries_of first_labels ones) first_marks → g.step ≡ step_of (entries_of second_labels others) second_marks → s ≡ record { at = t; step = step_of (entries_of labels slots) own_marks }
    → left ≡ left_by rule → fed ≡ labels → marks ≡ all_marks rule first_marks second_marks own_marks → scalars ≡ both (slot_read (reads_first rule) ones) (slot_read (reads_second rule) others) → placed ≡ slots_placed rule scalars slots
    → new ≡ old ++ record { at = t; step = made_step left fed marks placed } ∷ [] → new ≡ old ++ element_at rule f g s ∷ []
one_made law order rule first_labels second_labels labels ones others slots first_marks second_marks own_marks t f g s left fed marks placed scalars old new d r r1 f1 r2 f2 ef eg es ed el em ec ep n =
    let A : Step = step_of (entries_of first_labels ones) first_marks in
    let B : Step = step_of (entries_of second_labels others) second_marks in
    let all : placed ≡ slots_placed rule (scalars_read rule A B) slots = ep ∙ ap (λ (o : Option Scalars). slots_placed rule o slots) (ec ∙ scalars_are rule first_labels second_labels ones others first_marks second_marks r1 f1 r2 f2) in
    let whole : made_step left fed marks placed ≡ made_step (left_by rule) labels (all_marks rule first_marks second_marks own_marks) (slots_placed rule (scalars_read rule A B) slots) = λ j. made_step (ed j) (el j) (em j) (all j) in
    let there : element_at rule f g s ≡ record { at = t; step = element_step rule A B (step_of (entries_of labels slots) own_marks) } = λ j. record { at = (es j).at; step = element_step rule (ef j) (eg j) (es j).step } in
    n ∙ ap (λ (z : Step). old ++ record { at = t; step = z } ∷ []) (whole ∙ made_is law order rule A B labels slots own_marks d r) ∙ ap (λ (z : StepAt). old ++ z ∷ []) (sym there)
