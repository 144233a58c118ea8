-- The notes and marks of what a plan gives are sets.
use Rattle.std.proofs.Common.{ℕ, zero, suc, Bool, true, false, List, [], ◌∷◌, map, refl, subst, sym, Option, Some, None}
use Rattle.std.specs.Prelude.{ℤ, slice_get}
use Rattle.std.specs.List.{AllByRecursion, AllZip, cons_option, filter_map}
use Rattle.std.specs.List.Sorted.{IsStrictlySortedBy}
use Rattle.std.specs.Option.{option_map}
use Rattle.func_table.specs.declared.table.Aggregate.{Aggregate}
use Rattle.func_table.specs.declared.table.Aggregate.TheVariants as aggregate
use Rattle.func_table.specs.declared.table.Element.{Element}
use Rattle.func_table.specs.declared.table.Element.TheVariants as element_function
use Rattle.func_table.specs.declared.table.Window.{Window}
use Rattle.func_table.specs.declared.table.Window.TheVariants as function
use Rattle.label_set.specs.declared.rules.Grouping.{Grouping}
use Rattle.label_set.specs.declared.rules.Pairing.{Pairing}
use Rattle.label_set.specs.declared.rules.Relabel.{Relabel}
use Rattle.label_set.specs.declared.rules.Relabel.TheVariants as relabelling
use Rattle.label_set.specs.declared.rules.Rule.{Rule}
use Rattle.promql_ast.specs.declared.tree.Expr.{Expr}
use Rattle.step_table.specs.Groups.{Names}
use Rattle.step_table.specs.Groups.{gathered as groups_of}
use Rattle.step_table.specs.KeySets.{sorted_set}
use Rattle.step_table.specs.Laws.{UnionIsSet}
use Rattle.step_table.specs.Matching.{labelled}
use Rattle.step_table.specs.OrderLaws.{mark_cmp_ties, mark_cmp_total, note_cmp_ties, note_cmp_total}
use Rattle.step_table.specs.Orders.{mark_cmp, note_cmp}
use Rattle.step_table.specs.Outcomes.{shared_marks}
use Rattle.step_table.specs.Sets.{step_of_rows}
use Rattle.step_table.specs.Unions.{set_of, united, with_fatal}
use Rattle.step_table.specs.WellFormed.{AreSets}
use Rattle.step_table.specs.declared.cells.PartKind.{PartKind}
use Rattle.step_table.specs.declared.cells.PartKind.TheVariants as part
use Rattle.step_table.specs.declared.cells.StepCells.{StepCells}
use Rattle.step_table.specs.declared.marks.Mark.{Mark}
use Rattle.step_table.specs.declared.marks.Marks.{Marks}
use Rattle.step_table.specs.declared.marks.Note.{Note}
use Rattle.step_table.specs.declared.outcomes.Outcome.{Outcome}
use Rattle.step_table.specs.declared.step.Row.{Row}
use Rattle.step_table.specs.declared.step.Step.{Step}
use Rattle.step_table.specs.declared.windows.WindowRow.{WindowRow}
use Rattle.xfrac.specs.declared.value.PairOp.{PairOp}
use Rattle.xfrac.specs.declared.value.XFrac.{XFrac}
use Rattle.promql_meaning.specs.Aggregations.{aggregated, keyed_values}
use Rattle.promql_meaning.specs.Buckets.{bucket_quantiles}
use Rattle.promql_meaning.specs.Elements.{element_outcome, mapped, operated_rows, operator_outcome, row_by_row, seconds_of}
use Rattle.promql_meaning.specs.Givens.{no_marks, step_of, with_scalar}
use Rattle.promql_meaning.specs.Laws.{MeaningIsWellFormed}
use Rattle.promql_meaning.specs.Meaning.{applied, argument, negation, operation, rounding, step_at, windowed_by, zero_number}
use Rattle.promql_meaning.specs.Outcomes.{with_notes}
use Rattle.promql_meaning.specs.Relabels.{joined_labels, replaced_labels}
use Rattle.promql_meaning.specs.Selecting.{AllSeries, Asked, moment_of, selected}
use Rattle.promql_meaning.specs.Subqueries.{as_times, multiples}
use Rattle.promql_meaning.specs.declared.given.Given.{Given}
use Rattle.promql_meaning.specs.declared.given.Given.TheVariants as given
use Rattle.promql_meaning.specs.declared.given.Stamped.{Stamped}
use Rattle.promql_meaning.specs.declared.given.Windows.{Windows}
use Rattle.step_cells.specs.Joined.{all_cells, all_marks, finished_outcome, joined_partials, joined_rows, joined_windows, keyed_cells, marks_with, rows_in, windows_in}
use Rattle.step_cells.specs.Owed.{cells, lost_mark}
use Rattle.logical_plan.specs.Gathers.{all_owed, gathered, given_over, joined, over_samples, owed_over, windows_of}
use Rattle.logical_plan.specs.PlanMeaning.{Meant, element_given, givens_at, group_given, node_meant, plan_meant, relabel_given, window_given}
use Rattle.logical_plan.specs.PlanRules.{absent_under, filtered, newest_of, pattern_text, selector_of, time_outcome}
use Rattle.logical_plan.specs.declared.nodes.Plan.{Plan}
use Rattle.logical_plan.specs.declared.nodes.PlanNode.TheOpen.{PlanNode-F}
use Rattle.plan_agreement.specs.AgreementLaws.{PlansHaveSets}
use Rattle.plan_agreement.specs.Descents.{descended}
use Rattle.plan_agreement.specs.SameNodes.{SameNode, number, time, select, range, subquery, element, stamp, window, absent, buckets, relabel, sort, scalar_of, vector_of, group, pair, set, ratio, once, gather}
use Rattle.plan_agreement.specs.SameNodes.{filtered as filter_of}
use Rattle.plan_agreement.proofs.Descends.{every, nothing_replaced}
use Rattle.plan_agreement.proofs.Framed.{HasSets, meaning_sets, none_sets, over_sets, step_sets}
use Rattle.plan_agreement.proofs.Sides.{is_scalar, operation_is, sides}
use Rattle.plan_agreement.proofs.Keeping.{absence_keeps, buckets_keep, combined_keeps, counted_keeps, paired_keeps, ranked_keeps, ratio_keeps, rows_keep, scalar_keeps, scalars_keep, settled_keeps, stamp_keeps, summarised_keeps, taken_keeps, windowed_keeps, windows_keep}

module _ (sets : UnionIsSet) where
  more : (marks : Marks) (fatal : List Mark) → AreSets marks → AreSets (with_fatal marks fatal)
  unfolding IsStrictlySortedBy
  more marks fatal h = sets marks (record { fatal = set_of mark_cmp fatal; notes = [] }) h (record { fatal = sorted_set mark_cmp_total mark_cmp_ties fatal; notes = tt })

  noted : (marks : Marks) (notes : List Note) → AreSets marks → AreSets (with_notes marks notes)
  unfolding IsStrictlySortedBy
  noted marks notes h = sets marks (record { fatal = []; notes = set_of note_cmp notes }) h (record { fatal = tt; notes = sorted_set note_cmp_total note_cmp_ties notes })

  rows_stay : (f : Row → Outcome) (s : Step) → AreSets s.marks → AreSets (row_by_row f s).marks
  rows_stay = rows_keep AreSets more noted

  -- ---- arguments

  argument_sets : (gs : List Given) (i : ℕ) → AllByRecursion HasSets gs → HasSets (argument gs i)
  argument_sets [] i a = none_sets
  argument_sets (g ∷ gs) zero a = a.0
  argument_sets (g ∷ gs) (suc i) a = argument_sets gs i a.1

  at_sets : (gs : List Given) (i : ℕ) → AllByRecursion HasSets gs → AreSets (step_at gs i).marks
  at_sets gs i a = step_sets (argument gs i) (argument_sets gs i a)

  rounding_sets : (gs : List Given) → AllByRecursion HasSets gs → AreSets (rounding gs).marks
  rounding_sets [] a = none_sets
  rounding_sets (g ∷ []) a = none_sets
  rounding_sets (g ∷ h ∷ gs) a = step_sets h a.1.0

  -- ---- functions and operators

  mapped_sets : (f : Element) (x y : XFrac) (s : Step) → AreSets s.marks → AreSets (mapped f x y s).marks
  mapped_sets f x y = rows_stay (element_outcome f x y)

  scalar_sets : (f : XFrac → Step → Step) → ((a : XFrac) (s : Step) → AreSets s.marks → AreSets (f a s).marks) → (scalar step : Step) → AreSets scalar.marks → AreSets step.marks → AreSets (with_scalar f scalar step).marks
  scalar_sets f keeps scalar step h k = scalar_keeps AreSets more noted f keeps scalar step (sets step.marks scalar.marks k h)

  applied_sets : (f : Element) (gs : List Given) → AllByRecursion HasSets gs → AreSets (applied f gs).marks
  applied_sets element_function.Abs gs a = mapped_sets element_function.Abs zero_number zero_number (step_at gs 0) (at_sets gs 0 a)
  applied_sets element_function.Ceil gs a = mapped_sets element_function.Ceil zero_number zero_number (step_at gs 0) (at_sets gs 0 a)
  applied_sets element_function.Floor gs a = mapped_sets element_function.Floor zero_number zero_number (step_at gs 0) (at_sets gs 0 a)
  applied_sets element_function.Sgn gs a = mapped_sets element_function.Sgn zero_number zero_number (step_at gs 0) (at_sets gs 0 a)
  applied_sets element_function.Neg gs a = mapped_sets element_function.Neg zero_number zero_number (step_at gs 0) (at_sets gs 0 a)
  applied_sets (element_function.Calendar part) gs a = mapped_sets (element_function.Calendar part) zero_number zero_number (step_at gs 0) (at_sets gs 0 a)
  applied_sets element_function.Round gs a = scalar_sets (λ to. mapped element_function.Round to zero_number) (λ x. mapped_sets element_function.Round x zero_number) (rounding gs) (step_at gs 0) (rounding_sets gs a) (at_sets gs 0 a)
  applied_sets element_function.ClampMin gs a = scalar_sets (λ low. mapped element_function.ClampMin low zero_number) (λ x. mapped_sets element_function.ClampMin x zero_number) (step_at gs 1) (step_at gs 0) (at_sets gs 1 a) (at_sets gs 0 a)
  applied_sets element_function.ClampMax gs a = scalar_sets (λ high. mapped element_function.ClampMax high zero_number) (λ x. mapped_sets element_function.ClampMax x zero_number) (step_at gs 1) (step_at gs 0) (at_sets gs 1 a) (at_sets gs 0 a)
  applied_sets element_function.Clamp gs a =
      scalars_keep AreSets more noted (mapped element_function.Clamp) (mapped_sets element_function.Clamp) (step_at gs 1) (step_at gs 2) (step_at gs 0)
      (sets (united (step_at gs 0).marks (step_at gs 1).marks) (step_at gs 2).marks (sets (step_at gs 0).marks (step_at gs 1).marks (at_sets gs 0 a) (at_sets gs 1 a)) (at_sets gs 2 a))

  minus_sets : (g : Given) → HasSets g → HasSets (negation g)
  minus_sets (given.Scalar step) h = mapped_sets element_function.Neg zero_number zero_number step h
  minus_sets (given.Vector step) h = mapped_sets element_function.Neg zero_number zero_number step h
  minus_sets (given.Selected selection) h = mapped_sets element_function.Neg zero_number zero_number (step_of (given.Selected selection)) none_sets
  minus_sets (given.Windows windows) h = mapped_sets element_function.Neg zero_number zero_number (step_of (given.Windows windows)) none_sets
  minus_sets (given.Words text) h = mapped_sets element_function.Neg zero_number zero_number (step_of (given.Words text)) none_sets

  element_sets : (f : Element) (gs : List Given) (g : Given) → AllByRecursion HasSets gs → HasSets g → HasSets (element_given f gs g)
  element_sets element_function.Neg gs g a h = minus_sets g h
  element_sets element_function.Abs gs g a h = applied_sets element_function.Abs (g ∷ gs) (h, a)
  element_sets element_function.Ceil gs g a h = applied_sets element_function.Ceil (g ∷ gs) (h, a)
  element_sets element_function.Floor gs g a h = applied_sets element_function.Floor (g ∷ gs) (h, a)
  element_sets element_function.Round gs g a h = applied_sets element_function.Round (g ∷ gs) (h, a)
  element_sets element_function.Sgn gs g a h = applied_sets element_function.Sgn (g ∷ gs) (h, a)
  element_sets element_function.Clamp gs g a h = applied_sets element_function.Clamp (g ∷ gs) (h, a)
  element_sets element_function.ClampMin gs g a h = applied_sets element_function.ClampMin (g ∷ gs) (h, a)
  element_sets element_function.ClampMax gs g a h = applied_sets element_function.ClampMax (g ∷ gs) (h, a)
  element_sets (element_function.Calendar part) gs g a h = applied_sets (element_function.Calendar part) (g ∷ gs) (h, a)

  over_windows : (f : Window) (t : ℤ) (scalar : Step) (w : Windows) → AreSets scalar.marks → AreSets w.marks → AreSets (windowed_by f t scalar w).marks
  over_windows function.Rate t scalar w h k = windowed_keeps AreSets more noted function.Rate t zero_number w k
  over_windows function.Increase t scalar w h k = windowed_keeps AreSets more noted function.Increase t zero_number w k
  over_windows function.Delta t scalar w h k = windowed_keeps AreSets more noted function.Delta t zero_number w k
  over_windows function.Irate t scalar w h k = windowed_keeps AreSets more noted function.Irate t zero_number w k
  over_windows function.Idelta t scalar w h k = windowed_keeps AreSets more noted function.Idelta t zero_number w k
  over_windows function.Deriv t scalar w h k = windowed_keeps AreSets more noted function.Deriv t zero_number w k
  over_windows function.PredictLinear t scalar w h k = windows_keep AreSets more noted function.PredictLinear t scalar w (sets w.marks scalar.marks k h)
  over_windows function.Changes t scalar w h k = windowed_keeps AreSets more noted function.Changes t zero_number w k
  over_windows function.Resets t scalar w h k = windowed_keeps AreSets more noted function.Resets t zero_number w k
  over_windows function.AvgOver t scalar w h k = windowed_keeps AreSets more noted function.AvgOver t zero_number w k
  over_windows function.MinOver t scalar w h k = windowed_keeps AreSets more noted function.MinOver t zero_number w k
  over_windows function.MaxOver t scalar w h k = windowed_keeps AreSets more noted function.MaxOver t zero_number w k
  over_windows function.SumOver t scalar w h k = windowed_keeps AreSets more noted function.SumOver t zero_number w k
  over_windows function.CountOver t scalar w h k = windowed_keeps AreSets more noted function.CountOver t zero_number w k
  over_windows function.StdvarOver t scalar w h k = windowed_keeps AreSets more noted function.StdvarOver t zero_number w k
  over_windows function.QuantileOver t scalar w h k = windows_keep AreSets more noted function.QuantileOver t scalar w (sets w.marks scalar.marks k h)
  over_windows function.LastOver t scalar w h k = windowed_keeps AreSets more noted function.LastOver t zero_number w k
  over_windows function.PresentOver t scalar w h k = windowed_keeps AreSets more noted function.PresentOver t zero_number w k

  window_sets : (f : Window) (t : ℤ) (gs : List Given) (g : Given) → AllByRecursion HasSets gs → HasSets g → AreSets (window_given f t gs g).marks
  window_sets f t gs (given.Scalar step) a h = none_sets
  window_sets f t gs (given.Vector step) a h = none_sets
  window_sets f t gs (given.Selected selection) a h = none_sets
  window_sets f t gs (given.Windows windows) a h = over_windows f t (step_at gs 0) windows (at_sets gs 0 a) h
  window_sets f t gs (given.Words text) a h = none_sets

  absent_sets : (labels : Option Names) (g : Given) → HasSets g → AreSets (absent_under labels g).marks
  absent_sets labels (given.Scalar step) h = absence_keeps AreSets more noted labels step.table.rows step.marks h
  absent_sets labels (given.Vector step) h = absence_keeps AreSets more noted labels step.table.rows step.marks h
  absent_sets labels (given.Selected selection) h = absence_keeps AreSets more noted labels (step_of (given.Selected selection)).table.rows no_marks none_sets
  absent_sets labels (given.Windows windows) h = absence_keeps AreSets more noted labels windows.rows windows.marks h
  absent_sets labels (given.Words text) h = absence_keeps AreSets more noted labels (step_of (given.Words text)).table.rows no_marks none_sets

  filtered_sets : (kept : List (Bool × List ℕ)) (rules : List Rule) (g : Given) → HasSets g → HasSets (filtered kept rules g)
  filtered_sets kept rules (given.Scalar step) h = h
  filtered_sets kept rules (given.Vector step) h = h
  filtered_sets kept rules (given.Selected selection) h = none_sets
  filtered_sets kept rules (given.Windows windows) h = h
  filtered_sets kept rules (given.Words text) h = none_sets

  relabel_sets : (asked : Asked) (rule : Relabel) (g : Given) → HasSets g → HasSets (relabel_given asked rule g)
  relabel_sets asked (relabelling.Replace target template source pattern) g h =
      rows_stay (λ (row : Row). labelled (replaced_labels target template source (pattern_text asked.kept pattern) row.labels) row.value) (step_of g) (step_sets g h)
  relabel_sets asked (relabelling.Join target separator sources) g h = rows_stay (λ (row : Row). labelled (joined_labels target separator sources row.labels) row.value) (step_of g) (step_sets g h)
  relabel_sets asked (relabelling.Filter rules) g h = filtered_sets asked.kept rules g h

  group_sets : (f : Aggregate) (grouping : Grouping) (label : List ℕ) (gs : List Given) → AllByRecursion HasSets gs → AreSets (group_given f grouping label gs).marks
  group_sets aggregate.Sum grouping label gs a = summarised_keeps AreSets more noted aggregate.Sum grouping zero_number (step_at gs 0) (at_sets gs 0 a)
  group_sets aggregate.Avg grouping label gs a = summarised_keeps AreSets more noted aggregate.Avg grouping zero_number (step_at gs 0) (at_sets gs 0 a)
  group_sets aggregate.Min grouping label gs a = summarised_keeps AreSets more noted aggregate.Min grouping zero_number (step_at gs 0) (at_sets gs 0 a)
  group_sets aggregate.Max grouping label gs a = summarised_keeps AreSets more noted aggregate.Max grouping zero_number (step_at gs 0) (at_sets gs 0 a)
  group_sets aggregate.Count grouping label gs a = summarised_keeps AreSets more noted aggregate.Count grouping zero_number (step_at gs 0) (at_sets gs 0 a)
  group_sets aggregate.Group grouping label gs a = summarised_keeps AreSets more noted aggregate.Group grouping zero_number (step_at gs 0) (at_sets gs 0 a)
  group_sets aggregate.Stdvar grouping label gs a = summarised_keeps AreSets more noted aggregate.Stdvar grouping zero_number (step_at gs 0) (at_sets gs 0 a)
  group_sets aggregate.TopK grouping label gs a = scalar_sets (λ k. aggregated aggregate.TopK grouping k []) (ranked_keeps AreSets more noted true grouping) (step_at gs 0) (step_at gs 1) (at_sets gs 0 a) (at_sets gs 1 a)
  group_sets aggregate.BottomK grouping label gs a = scalar_sets (λ k. aggregated aggregate.BottomK grouping k []) (ranked_keeps AreSets more noted false grouping) (step_at gs 0) (step_at gs 1) (at_sets gs 0 a) (at_sets gs 1 a)
  group_sets aggregate.Quantile grouping label gs a =
      scalar_sets (λ q. aggregated aggregate.Quantile grouping q []) (summarised_keeps AreSets more noted aggregate.Quantile grouping) (step_at gs 0) (step_at gs 1) (at_sets gs 0 a) (at_sets gs 1 a)
  group_sets aggregate.CountValues grouping label gs a = counted_keeps AreSets more noted grouping label (step_at gs 0) (at_sets gs 0 a)

  operated_sets : (op : PairOp) (left : Bool) (x : XFrac) (s : Step) → AreSets s.marks → AreSets (operated_rows op left x s).marks
  operated_sets op left x = rows_stay (operator_outcome op left x)

  sides_sets : (op : PairOp) (pairing : Pairing) (left right : Bool) (l r : Step) → AreSets l.marks → AreSets r.marks → HasSets (sides op pairing left right l r)
  sides_sets op pairing true true l r h k = scalar_sets (operated_rows op false) (operated_sets op false) r l k h
  sides_sets op pairing true false l r h k = scalar_sets (operated_rows op true) (operated_sets op true) l r h k
  sides_sets op pairing false true l r h k = scalar_sets (operated_rows op false) (operated_sets op false) r l k h
  sides_sets op pairing false false l r h k = paired_keeps AreSets more noted op pairing l r (sets l.marks r.marks h k)

  operation_sets : (op : PairOp) (pairing : Pairing) (a b : Given) → HasSets a → HasSets b → HasSets (operation op pairing a b)
  operation_sets op pairing a b h k =
      subst HasSets (sym (operation_is op pairing a b)) (sides_sets op pairing (is_scalar a) (is_scalar b) (step_of a) (step_of b) (step_sets a h) (step_sets b k))

  newest_sets : (stamped : Bool) (rows : List Stamped) → AreSets (newest_of stamped rows).marks
  newest_sets false rows = none_sets
  newest_sets true rows = taken_keeps AreSets more noted no_marks (map time_outcome rows) none_sets

  -- ---- what engines are asked for

  marks_sets : (marks : Marks) (steps : List StepCells) → AreSets marks → AllByRecursion (λ (s : StepCells). AreSets s.marks) steps → AreSets (marks_with marks steps)
  marks_sets marks [] h a = h
  marks_sets marks (s ∷ steps) h a = marks_sets (united marks s.marks) steps (sets marks s.marks h a.0) a.1

  cells_sets : (kind : PartKind) (t : ℤ) (g : Given) → HasSets g → AreSets (cells kind (record { 0 = t }) g).marks
  cells_sets part.Rows t g h = step_sets g h
  cells_sets (part.Partial f grouping) t g h = more (step_of g).marks (filter_map (lost_mark f) (groups_of (keyed_values grouping (step_of g).table.rows))) (step_sets g h)
  cells_sets part.Windows t (given.Scalar step) h = none_sets
  cells_sets part.Windows t (given.Vector step) h = none_sets
  cells_sets part.Windows t (given.Selected selection) h = none_sets
  cells_sets part.Windows t (given.Windows windows) h = h
  cells_sets part.Windows t (given.Words text) h = none_sets

  module _ (well : MeaningIsWellFormed) (asked : Asked) where
    over_some : (expr : Expr) (kind : PartKind) (t : ℤ) (samples : AllSeries) → AreSets (owed_over asked expr kind t samples).marks
    over_some expr kind t samples = cells_sets kind t (given_over asked expr t samples) (meaning_sets sets well (over_samples asked samples) expr t)

    owed_sets : (expr : Expr) (kind : PartKind) (t : ℤ) (engines : List ℕ) → AllByRecursion (λ (s : StepCells). AreSets s.marks) (all_owed asked expr kind engines t)
    owed_sets expr kind t [] = tt
    owed_sets expr kind t (engine ∷ engines) = by (slice_get asked.engines engine) (owed_sets expr kind t engines)
      where
        by : (o : Option AllSeries) → AllByRecursion (λ (s : StepCells). AreSets s.marks) (all_owed asked expr kind engines t)
            → AllByRecursion (λ (s : StepCells). AreSets s.marks) (cons_option (option_map (owed_over asked expr kind t) o) (all_owed asked expr kind engines t))
        by None rest = rest
        by (Some samples) rest = (over_some expr kind t samples, rest)

    joined_sets : (kind : PartKind) (t : ℤ) (steps : List StepCells) (marks : Marks) (none : Windows) → AllByRecursion (λ (s : StepCells). AreSets s.marks) steps → AreSets marks → HasSets (joined kind t steps marks none)
    joined_sets part.Rows t steps marks none a h = sets (joined_rows steps).marks marks (settled_keeps AreSets more noted (step_of_rows (rows_in steps) (all_marks steps)) (marks_sets no_marks steps none_sets a)) h
    joined_sets part.Windows t steps marks none a h = sets (joined_windows (record { 0 = t }) steps).marks marks (more (all_marks steps) (shared_marks (λ (w : WindowRow). w.labels) (windows_in steps)) (marks_sets no_marks steps none_sets a)) h
    joined_sets (part.Partial f grouping) t steps marks none a h = sets (joined_partials f steps).marks marks (taken_keeps AreSets more noted (all_marks steps) (map (finished_outcome f) (groups_of (keyed_cells (all_cells steps)))) (marks_sets no_marks steps none_sets a)) h

    gather_sets : (expr : Expr) (kind : PartKind) (engines : List ℕ) (t : ℤ) → HasSets (gathered asked expr kind engines t)
    gather_sets expr kind engines t =
        joined_sets kind t (all_owed asked expr kind engines t) (owed_over asked expr kind t []).marks (windows_of (given_over asked expr t [])) (owed_sets expr kind t engines) (over_some expr kind t [])

    -- ---- nodes

    abbrev AreMeant : Meant → Type 0
    AreMeant m = (t : ℤ) → HasSets (m.gives t)

    -- the first of two nodes has what is asked of its children
    abbrev First : Meant → Meant → Type 0
    First m n = AreMeant m

    all_sets : (ms ns : List Meant) (t : ℤ) → AllZip First ms ns → AllByRecursion HasSets (givens_at ms t)
    all_sets [] [] t z = tt
    all_sets [] (n ∷ ns) t z = absurd z
    all_sets (m ∷ ms) [] t z = absurd z
    all_sets (m ∷ ms) (n ∷ ns) t z = (z.0 t, all_sets ms ns t z.1)

    levels : (y z : PlanNode-F Meant Meant) → SameNode First y z → AreMeant (node_meant asked y)
    levels _ _ (number value) = λ t. none_sets
    levels _ _ time = λ t. taken_keeps AreSets more noted no_marks (record { labels = []; value = seconds_of t } ∷ []) none_sets
    levels _ _ (select rules moment stamped) = λ t. newest_sets stamped (selected asked (selector_of rules moment) t)
    levels _ _ (range rules moment length) = λ t. none_sets
    levels _ _ (subquery a b length step moment h) = λ t.
        over_sets sets (λ u. step_of (a.gives u)) no_marks (as_times (multiples moment.closed (moment_of asked moment t) length.0 step.0)) none_sets (λ u. step_sets (a.gives u) (h u))
    levels _ _ (element f a b xs ys h z) = λ t. element_sets f (givens_at xs t) (a.gives t) (all_sets xs ys t z) (h t)
    levels _ _ (stamp a b h) = λ t. stamp_keeps AreSets more noted a.own t (step_of (a.gives t)) (step_sets (a.gives t) (h t))
    levels _ _ (window f a b xs ys h z) = λ t. window_sets f t (givens_at xs t) (a.gives t) (all_sets xs ys t z) (h t)
    levels _ _ (absent labels a b h) = λ t. absent_sets labels (a.gives t) (h t)
    levels _ _ (buckets a b c d h k) = λ t. scalar_sets bucket_quantiles (buckets_keep AreSets more noted) (step_of (a.gives t)) (step_of (b.gives t)) (step_sets (a.gives t) (h t)) (step_sets (b.gives t) (k t))
    levels _ _ (relabel rule a b h) = λ t. relabel_sets asked rule (a.gives t) (h t)
    levels _ _ (sort down a b h) = λ t. step_sets (a.gives t) (h t)
    levels _ _ (scalar_of a b h) = λ t. step_sets (a.gives t) (h t)
    levels _ _ (vector_of a b h) = λ t. step_sets (a.gives t) (h t)
    levels _ _ (group f grouping xs ys label z) = λ t. group_sets f grouping label (givens_at xs t) (all_sets xs ys t z)
    levels _ _ (pair op a b c d pairing h k) = λ t. operation_sets op pairing (a.gives t) (b.gives t) (h t) (k t)
    levels _ _ (set op a b c d pairing h k) = λ t.
        combined_keeps AreSets more noted op pairing (step_of (a.gives t)) (step_of (b.gives t)) (sets (step_of (a.gives t)).marks (step_of (b.gives t)).marks (step_sets (a.gives t) (h t)) (step_sets (b.gives t) (k t)))
    levels _ _ (filter_of a b rules h) = λ t. filtered_sets asked.kept rules (a.gives t) (h t)
    levels _ _ (ratio a b c d h k) = λ t.
        ratio_keeps AreSets more noted (step_of (a.gives t)) (step_of (b.gives t)) (sets (step_of (a.gives t)).marks (step_of (b.gives t)).marks (step_sets (a.gives t) (h t)) (step_sets (b.gives t) (k t)))
    levels _ _ (once a b h) = h
    levels _ _ (gather expr kind engines) = λ t. gather_sets expr kind engines t

    meant_sets : (p : Plan) → AreMeant (plan_meant asked p)
    meant_sets p =
        let none : Plan → Option Plan = λ q. None in
        let all : AreMeant (plan_meant asked (descended none p)) = every none (node_meant asked) (λ p. p.node) First (λ at y z s. levels y z s) (λ p q e. absurd (cc)) p in
        subst (λ (q : Plan). AreMeant (plan_meant asked q)) (nothing_replaced none (λ q. refl) p) all

pub plans_have_sets : UnionIsSet → MeaningIsWellFormed → PlansHaveSets
plans_have_sets sets well asked p t = step_sets ((plan_meant asked p).gives t) (meant_sets sets well asked p t)
