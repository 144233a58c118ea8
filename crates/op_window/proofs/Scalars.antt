-- The scalar beside windows, and the step of both.
use Rattle.std.proofs.Common.{◌≡◌, ◌∙◌, ℕ, zero, suc, ◌<◌, ◌≤◌, true, List, [], ◌∷◌, length, map, Option, Some, None, refl, sym, ap, subst, arith}
use Rattle.std.specs.Prelude.{Bool, slice_get, if◌then◌else◌}
use Rattle.std.specs.List.{cons_option}
use Rattle.std.specs.Option.{option_map}
use Rattle.func_table.specs.declared.table.Window.{Window}
use Rattle.func_table.specs.declared.table.Window.TheVariants as window
use Rattle.promql_meaning.specs.Givens.{barren, no_marks, value_in}
use Rattle.promql_meaning.specs.Meaning.{windowed_by, zero_number}
use Rattle.promql_meaning.specs.Ranges.{windowed}
use Rattle.step_batch.specs.Lent.{Lent, SlotsRise, entries_of, stage_of, stages, step_of}
use Rattle.step_batch.specs.declared.steps.PlacedStep.{PlacedStep}
use Rattle.step_batch.specs.declared.steps.Slot.{Slot}
use Rattle.step_table.specs.Groups.{Names}
use Rattle.step_table.specs.Orders.{mark_cmp, note_cmp}
use Rattle.step_table.specs.Timed.{StepAt, steps_over}
use Rattle.step_table.specs.Unions.{union, united}
use Rattle.step_table.specs.declared.marks.Mark.{Mark}
use Rattle.step_table.specs.declared.marks.Marks.{Marks}
use Rattle.step_table.specs.declared.marks.Note.{Note}
use Rattle.step_table.specs.declared.step.Step.{Step}
use Rattle.step_table.specs.declared.windows.WindowRow.{WindowRow}
use Rattle.ticks.specs.declared.moment.Ms.{Ms}
use Rattle.window_fn.specs.declared.frame.WindowFrame.{WindowFrame}
use Rattle.xfrac.specs.declared.value.XFrac.{XFrac}
use Rattle.op_window.specs.Rules.{ScalarsAt, by_scalar, fed_by, first_in, scalar_in, takes_scalar, windows_in}
use Rattle.op_window.specs.declared.scalar.Scalar.{Scalar}

-- ---- marks

mark_none : (xs : List Mark) → union mark_cmp xs [] ≡ xs
mark_none [] = refl
mark_none (x ∷ xs) = refl

note_none : (xs : List Note) → union note_cmp xs [] ≡ xs
note_none [] = refl
note_none (x ∷ xs) = refl

united_none : (marks : Marks) → united marks no_marks ≡ marks
united_none marks = ap (λ (f : List Mark). record { fatal = f; notes = union note_cmp marks.notes [] }) (mark_none marks.fatal) ∙ ap (λ (n : List Note). record { fatal = marks.fatal; notes = n }) (note_none marks.notes)

-- ---- the rule

-- the marks of windows and of a scalar
abbrev pub marked_by : Marks → Scalar → Scalar
marked_by marks scalar = record { value = scalar.value; marks = united marks scalar.marks }

unmarked : (f : Window) (frame : WindowFrame) (rows : List WindowRow) (marks : Marks) → by_scalar f frame (record { value = Some zero_number; marks = united marks no_marks }) rows ≡ windowed f frame.eval.0 zero_number (windows_in frame rows marks)
unmarked f frame rows marks = ap (λ (m : Marks). windowed f frame.eval.0 zero_number (windows_in frame rows m)) (united_none marks)

pub rule_is : (f : Window) (frame : WindowFrame) (rows : List WindowRow) (marks : Marks) (step : Step) → by_scalar f frame (marked_by marks (scalar_in f step)) rows ≡ windowed_by f frame.eval.0 step (windows_in frame rows marks)
rule_is window.PredictLinear frame rows marks step = refl
rule_is window.QuantileOver frame rows marks step = refl
rule_is window.Rate frame rows marks step = unmarked window.Rate frame rows marks
rule_is window.Increase frame rows marks step = unmarked window.Increase frame rows marks
rule_is window.Delta frame rows marks step = unmarked window.Delta frame rows marks
rule_is window.Irate frame rows marks step = unmarked window.Irate frame rows marks
rule_is window.Idelta frame rows marks step = unmarked window.Idelta frame rows marks
rule_is window.Deriv frame rows marks step = unmarked window.Deriv frame rows marks
rule_is window.Changes frame rows marks step = unmarked window.Changes frame rows marks
rule_is window.Resets frame rows marks step = unmarked window.Resets frame rows marks
rule_is window.AvgOver frame rows marks step = unmarked window.AvgOver frame rows marks
rule_is window.MinOver frame rows marks step = unmarked window.MinOver frame rows marks
rule_is window.MaxOver frame rows marks step = unmarked window.MaxOver frame rows marks
rule_is window.SumOver frame rows marks step = unmarked window.SumOver frame rows marks
rule_is window.CountOver frame rows marks step = unmarked window.CountOver frame rows marks
rule_is window.StdvarOver frame rows marks step = unmarked window.StdvarOver frame rows marks
rule_is window.LastOver frame rows marks step = unmarked window.LastOver frame rows marks
rule_is window.PresentOver frame rows marks step = unmarked window.PresentOver frame rows marks

-- ---- the scalar of a step that is lent

no_name : (names : List Names) (i : ℕ) → i < length names → slice_get names i ≡ None → ⊥
no_name [] i h e = omega arith
no_name (n ∷ names) zero h e = cc
no_name (n ∷ names) (suc i) h e = no_name names i (omega arith) e

pub first_is : (labels : List Names) (slots : List Slot) (marks : Marks) → SlotsRise 0 (length labels) slots → length slots ≤ 1 → value_in (step_of (entries_of labels slots) marks) ≡ first_in slots
first_is labels [] marks r l = refl
first_is labels (s ∷ t ∷ slots) marks r l = absurd (omega arith)
first_is labels (s ∷ []) marks r l =
    elim (slice_get labels s.place) as (λ (o : Option Names). slice_get labels s.place ≡ o → value_in (step_of (cons_option (option_map (λ (names : Names). (names, s.value)) o) []) marks) ≡ Some s.value) [
      | None ↦ λ e. absurd (no_name labels s.place r.1 e)
      | Some n ↦ λ e. refl
    ] refl

pub scalars_length : (at : List Ms) (steps : List PlacedStep) → ScalarsAt at steps → length at ≡ length steps
scalars_length [] [] h = refl
scalars_length [] (s ∷ steps) h = absurd h
scalars_length (t ∷ at) [] h = absurd h
scalars_length (t ∷ at) (s ∷ steps) h = ap suc (scalars_length at steps h.2)

abbrev scalar_with : Option XFrac → Marks → Scalar
scalar_with value marks = record { value = value; marks = marks }

same_scalar : (u v : Option XFrac) (m n : Marks) → u ≡ v → m ≡ n → scalar_with u m ≡ scalar_with v n
same_scalar u v m n e f = ap (λ (x : Option XFrac). scalar_with x m) e ∙ ap (λ (x : Marks). scalar_with v x) f

stage_scalar : (labels : List Names) (at : List Ms) (steps : List PlacedStep) (i : ℕ) (marks : Marks) (slots : List Slot) (s : StepAt) → ScalarsAt at steps → option_map (λ (step : PlacedStep). step.marks) (slice_get steps i) ≡ Some marks
    → option_map (λ (step : PlacedStep). step.slots) (slice_get steps i) ≡ Some slots → SlotsRise 0 (length labels) slots → slice_get (map (stage_of labels) steps) i ≡ Some s → scalar_with (first_in slots) marks ≡ scalar_with (value_in s.step) s.step.marks
stage_scalar labels [] [] i marks slots s h m l r e = absurd (cc)
stage_scalar labels [] (x ∷ steps) i marks slots s h m l r e = absurd h
stage_scalar labels (t ∷ at) [] i marks slots s h m l r e = absurd h
stage_scalar labels (t ∷ at) (x ∷ steps) zero marks slots s h m l r e =
    let a : x.marks ≡ marks = cc in
    let b : x.slots ≡ slots = cc in
    let k : stage_of labels x ≡ s = cc in
    let r' : SlotsRise 0 (length labels) x.slots = subst (SlotsRise 0 (length labels)) (sym b) r in
    same_scalar (first_in slots) (value_in (stage_of labels x).step) marks x.marks (ap first_in (sym b) ∙ sym (first_is labels x.slots x.marks r' h.1)) (sym a)
    ∙ ap (λ (z : StepAt). scalar_with (value_in z.step) z.step.marks) k
stage_scalar labels (t ∷ at) (x ∷ steps) (suc i) marks slots s h m l r e = stage_scalar labels at steps i marks slots s h.2 m l r e

pub scalar_is : (f : Window) (at : List Ms) (given : Lent) (i : ℕ) (marks : Marks) (slots : List Slot) (s : StepAt) → takes_scalar f ≡ true → ScalarsAt at given.steps → option_map (λ (step : PlacedStep). step.marks) (slice_get given.steps i) ≡ Some marks
    → option_map (λ (step : PlacedStep). step.slots) (slice_get given.steps i) ≡ Some slots → SlotsRise 0 (length given.labels) slots → slice_get (fed_by f at (stages given)) i ≡ Some s → scalar_with (first_in slots) marks ≡ scalar_in f s.step
scalar_is f at given i marks slots s t h m l r e =
    let e' : slice_get (stages given) i ≡ Some s = subst (λ (b : Bool). slice_get (if b then stages given else steps_over (λ u. barren no_marks) at) i ≡ Some s) t e in
    stage_scalar given.labels at given.steps i marks slots s h m l r e'
    ∙ ap (λ (b : Bool). if b then scalar_with (value_in s.step) s.step.marks else scalar_with (Some zero_number) no_marks) (sym t)
