-- Steps of one row at most.
use Rattle.std.proofs.Common.{◌≡◌, ◌∙◌, ◌+◌, ◌<◌, ◌≤◌, ℕ, zero, suc, arith, get_or, slice_get, List, [], ◌∷◌, length, map, refl, sym, ap, subst, Option, Some, None}
use Rattle.std.specs.Prelude.{ℤ, IsTrue, Result, Ok, Err}
use Rattle.std.specs.List.{AllByRecursion, filter_map}
use Rattle.std.specs.List.Sorted.{IsStrictlySortedBy}
use Rattle.std.proofs.lemmas.List.{length-map}
use Rattle.func_table.specs.declared.table.Element.{Element}
use Rattle.func_table.specs.declared.table.Element.TheVariants.{Round, Clamp, ClampMin, ClampMax}
use Rattle.op_element.specs.Rules.{IsScalar, element_step}
use Rattle.op_element.specs.declared.formula.ElementRule.{ElementRule}
use Rattle.op_element.specs.declared.formula.ElementRule.TheVariants.{Apply, WithScalar}
use Rattle.op_labels.specs.Rules.{Kept}
use Rattle.op_small.specs.Rules.{small, stamp}
use Rattle.op_small.specs.declared.rule.SmallRule.{SmallRule}
use Rattle.op_small.specs.declared.rule.SmallRule.TheVariants.{Number, Time, Stamp, Scalar, Vector, Absent}
use Rattle.promql_meaning.specs.Absences.{absence_under}
use Rattle.promql_meaning.specs.Elements.{row_by_row, seconds_of}
use Rattle.promql_meaning.specs.Givens.{both, by_value, marked, no_marks, value_in}
use Rattle.promql_meaning.specs.Meaning.{applied_to}
use Rattle.step_batch.specs.Laws.{LentRowsAreThoseOfSlots}
use Rattle.step_batch.specs.Lent.{IsLent, Lent, SlotsRise, entries_of, row_of, stage_of, stages}
use Rattle.step_batch.specs.declared.steps.PlacedStep.{PlacedStep}
use Rattle.step_batch.specs.declared.steps.Slot.{Slot}
use Rattle.step_table.specs.Gathering.{settled_table}
use Rattle.step_table.specs.Groups.{Names}
use Rattle.step_table.specs.Outcomes.{settled, taken}
use Rattle.step_table.specs.Outcomes as outcomes
use Rattle.step_table.specs.Shuffles.{Shuffled, none, kept as begun, swapped, joined}
use Rattle.step_table.specs.Timed.{StepAt, steps_over}
use Rattle.step_table.specs.WellFormed.{IsTable}
use Rattle.step_table.specs.declared.marks.Marks.{Marks}
use Rattle.step_table.specs.declared.outcomes.Outcome.{Outcome}
use Rattle.step_table.specs.declared.step.Row.{Row}
use Rattle.step_table.specs.declared.step.Step.{Step}
use Rattle.ticks.specs.declared.moment.Ms.{Ms}
use Rattle.xfrac.specs.declared.value.NumFault.{NumFault}
use Rattle.xfrac.specs.declared.value.XFrac.{XFrac}
use Rattle.step_kernels.specs.Laws.{HasOneRow, binary_keeps_scalars, unary_keeps_scalars, unary_makes_scalars}
use Rattle.step_kernels.specs.Binaries.{binary_step}
use Rattle.step_kernels.specs.Unaries.{unary_step}
use Rattle.step_kernels.specs.declared.binary.BinaryRule.{BinaryRule}
use Rattle.step_kernels.specs.declared.binary.BinaryRule.TheVariants as binary
use Rattle.step_kernels.specs.declared.unary.UnaryRule.{UnaryRule}
use Rattle.step_kernels.specs.declared.unary.UnaryRule.TheVariants as unary

-- ---- slots and rows

same_length : {A : Type 0} (xs ys : List A) → Shuffled xs ys → length xs ≡ length ys
same_length _ _ none = refl
same_length _ _ (begun x xs ys s) = ap suc (same_length xs ys s)
same_length _ _ (swapped x y xs) = refl
same_length _ _ (joined xs ys zs s t) = same_length xs ys s ∙ same_length ys zs t

get_there : (labels : List Names) (i : ℕ) → i < length labels → slice_get labels i ≡ Some (get_or labels i [])
get_there [] i h = absurd (omega arith)
get_there (l ∷ labels) zero h = refl
get_there (l ∷ labels) (suc i) h = get_there labels i (omega arith)

entries_count : (labels : List Names) (low : ℕ) (slots : List Slot) → SlotsRise low (length labels) slots → length (entries_of labels slots) ≡ length slots
entries_count labels low [] r = refl
entries_count labels low (s ∷ slots) r = let e = get_there labels s.place r.1 in rw e (ap suc (entries_count labels (s.place + 1) slots r.2))

-- a lent step has as many rows as slots
rows_count : LentRowsAreThoseOfSlots → (lent : Lent) (s : PlacedStep) → IsLent lent → SlotsRise 0 (length lent.labels) s.slots → length s.slots ≡ length (stage_of lent.labels s).step.table.rows
rows_count law lent s l r =
    sym (entries_count lent.labels 0 s.slots r) ∙ sym (length-map (entries_of lent.labels s.slots) row_of)
    ∙ same_length (map row_of (entries_of lent.labels s.slots)) (stage_of lent.labels s).step.table.rows (law lent s l r)

few_slots : LentRowsAreThoseOfSlots → (lent : Lent) (f : ℤ → Step) → IsLent lent → ((t : ℤ) → HasOneRow (f t)) → (steps : List PlacedStep) (at : List Ms) → AllByRecursion (λ (s : PlacedStep). SlotsRise 0 (length lent.labels) s.slots) steps
    → map (stage_of lent.labels) steps ≡ steps_over f at → AllByRecursion (λ (s : PlacedStep). length s.slots ≤ 1) steps
few_slots law lent f l few [] at r e = tt
few_slots law lent f l few (s ∷ steps) [] r e = absurd (cc)
few_slots law lent f l few (s ∷ steps) (t ∷ at) r e =
    let here : stage_of lent.labels s ≡ record { at = t; step = f t.0 } = cc in
    let later : map (stage_of lent.labels) steps ≡ steps_over f at = cc in
    let same : length (stage_of lent.labels s).step.table.rows ≡ length (f t.0).table.rows = ap (λ (z : StepAt). length z.step.table.rows) here in
    let count = rows_count law lent s l r.0 in
    let one : length (f t.0).table.rows ≤ 1 = few t.0 in
    (omega (arith, same, count, one), few_slots law lent f l few steps at r.1 later)

pub few_rows_are_scalars : LentRowsAreThoseOfSlots → (lent : Lent) (f : ℤ → Step) (at : List Ms) → IsLent lent → stages lent ≡ steps_over f at → ((t : ℤ) → HasOneRow (f t)) → IsScalar lent
few_rows_are_scalars law lent f at l e few = few_slots law lent f l few lent.steps at l.placed e

-- ---- rules that go row by row

is_table : (rows : List Row) → length rows ≤ 1 → IsTable rows
unfolding IsStrictlySortedBy
is_table [] h = tt
is_table (row ∷ []) h = (tt, tt)
is_table (row ∷ other ∷ rows) h = absurd (omega arith)

-- one row at most is settled
one_settled : (step : Step) → HasOneRow step → HasOneRow (settled step)
one_settled step h = subst HasOneRow (sym (settled_table step (is_table step.table.rows h))) h

one_taken : (marks : Marks) (outs : List Outcome) → length outs ≤ 1 → HasOneRow (taken marks outs)
one_taken marks [] h = omega arith
one_taken marks (out ∷ []) h = one out.value
  where
    one : (value : Result (Option XFrac) NumFault) → length (filter_map outcomes.row_of (record { labels = out.labels; value = value } ∷ [])) ≤ 1
    one (Ok None) = omega arith
    one (Ok (Some value)) = omega arith
    one (Err fault) = omega arith
one_taken marks (out ∷ other ∷ outs) h = absurd (omega arith)

row_each : (outcome : Row → Outcome) (step : Step) → HasOneRow step → HasOneRow (row_by_row outcome step)
row_each outcome step h =
    let count = length-map step.table.rows outcome in
    one_settled (taken step.marks (map outcome step.table.rows)) (one_taken step.marks (map outcome step.table.rows) (omega (arith, count, h)))

one_by_value : {A : Type 0} (o : Option A) (marks : Marks) (f : A → Step) → ((a : A) → HasOneRow (f a)) → HasOneRow (by_value o marks f)
one_by_value None marks f h = omega arith
one_by_value (Some a) marks f h = h a

applied_one : (f : Element) (first second step : Step) → HasOneRow step → HasOneRow (applied_to f first second step)
applied_one Round first second step h = one_by_value (value_in first) _ _ (λ a. row_each _ (marked first.marks step) h)
applied_one Clamp first second step h = one_by_value (both (value_in first) (value_in second)) _ _ (λ b. row_each _ (marked second.marks (marked first.marks step)) h)
applied_one ClampMin first second step h = one_by_value (value_in first) _ _ (λ a. row_each _ (marked first.marks step) h)
applied_one ClampMax first second step h = one_by_value (value_in first) _ _ (λ a. row_each _ (marked first.marks step) h)
applied_one f first second step h = row_each _ step h

element_one : (rule : ElementRule) (first second step : Step) → HasOneRow step → HasOneRow (element_step rule first second step)
element_one (Apply f) first second step h = applied_one f first second step h
element_one (WithScalar op scalar_left) first second step h = one_by_value (value_in first) _ _ (λ a. row_each _ (marked first.marks step) h)

absent_one : (labels : Option Names) (rows : List Row) (marks : Marks) → HasOneRow (absence_under labels rows marks)
absent_one (Some labels) [] marks = omega arith
absent_one None [] marks = omega arith
absent_one (Some labels) (row ∷ rows) marks = omega arith
absent_one None (row ∷ rows) marks = omega arith

small_one : (rule : SmallRule) (t : ℤ) (step : Step) → HasOneRow step → HasOneRow (small rule t step)
small_one (Number value) t step h = omega arith
small_one Time t step h = one_taken no_marks (record { labels = []; value = seconds_of t } ∷ []) (omega arith)
small_one (Stamp own) t step h = row_each (stamp own t) step h
small_one Scalar t step h = omega arith
small_one Vector t step h = h
small_one (Absent labels) t step h = absent_one labels step.table.rows step.marks

pub unaries_stay_scalars : (kept : Kept) (rule : UnaryRule) (t : ℤ) (step : Step) → IsTrue (unary_keeps_scalars rule) → HasOneRow step → HasOneRow (unary_step kept rule t step)
unaries_stay_scalars kept (unary.Small rule) t step k h = small_one rule t step h
unaries_stay_scalars kept (unary.Apply rule) t step k h = element_one rule step step step h
unaries_stay_scalars kept (unary.Group f by) t step k h = absurd (cc)
unaries_stay_scalars kept (unary.Relabel rule) t step k h = absurd (cc)

pub binaries_stay_scalars : (rule : BinaryRule) (rows beside : Step) → IsTrue (binary_keeps_scalars rule) → HasOneRow rows → HasOneRow (binary_step rule rows beside)
binaries_stay_scalars (binary.Apply rule) rows beside k h = element_one rule beside beside rows h
binaries_stay_scalars (binary.Join op p) rows beside k h = absurd (cc)
binaries_stay_scalars (binary.Combine op p) rows beside k h = absurd (cc)
binaries_stay_scalars binary.Buckets rows beside k h = absurd (cc)
binaries_stay_scalars (binary.Rank f by label) rows beside k h = absurd (cc)
binaries_stay_scalars binary.Ratio rows beside k h = absurd (cc)

pub unaries_make_scalars : (kept : Kept) (rule : UnaryRule) (t : ℤ) (step : Step) → IsTrue (unary_makes_scalars rule) → HasOneRow (unary_step kept rule t step)
unaries_make_scalars kept (unary.Small rule) t step k = smalls rule k
  where
    smalls : (rule : SmallRule) → IsTrue (unary_makes_scalars (unary.Small rule)) → HasOneRow (small rule t step)
    smalls (Number value) k = absurd (cc)
    smalls Time k = absurd (cc)
    smalls (Stamp own) k = absurd (cc)
    smalls Scalar k = omega arith
    smalls Vector k = absurd (cc)
    smalls (Absent labels) k = absent_one labels step.table.rows step.marks
unaries_make_scalars kept (unary.Apply rule) t step k = absurd (cc)
unaries_make_scalars kept (unary.Group f by) t step k = absurd (cc)
unaries_make_scalars kept (unary.Relabel rule) t step k = absurd (cc)
