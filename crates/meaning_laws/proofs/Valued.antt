-- Each value of a meaning is a number, or a whole number of any size: kind of node by kind of node.
use Rattle.std.proofs.Common.{ℕ, zero, suc, Bool, true, false, List, [], ◌∷◌, map, sym, subst, refl, Option, Some, None, arith, inl, inr}
use Rattle.std.specs.Prelude.{ℤ, pos, drop}
use Rattle.std.specs.List.{AllByRecursion}
use Rattle.std.proofs.lemmas.List.Elements.{All-from_recursion}
use Rattle.func_table.specs.declared.table.Func.{Func}
use Rattle.func_table.specs.declared.table.Func.TheVariants as func
use Rattle.func_table.specs.declared.table.Element.{Element}
use Rattle.func_table.specs.declared.table.Element.TheVariants as element
use Rattle.func_table.specs.declared.table.Window.{Window as WindowFunction}
use Rattle.func_table.specs.declared.table.Window.TheVariants as window
use Rattle.func_table.specs.declared.table.Aggregate.{Aggregate}
use Rattle.func_table.specs.declared.table.Aggregate.TheVariants as aggregate
use Rattle.label_set.specs.Entries.{recursion_filter}
use Rattle.label_set.specs.declared.rules.Grouping.{Grouping}
use Rattle.label_set.specs.declared.rules.Pairing.{Pairing}
use Rattle.promql_ast.specs.declared.tree.Expr.{Expr}
use Rattle.promql_ast.specs.declared.tree.Node.{Node}
use Rattle.promql_ast.specs.declared.tree.Node.TheOpen.{Node-F}
use Rattle.promql_ast.specs.declared.tree.Node.TheViews.{roll-Node, roll-Expr}
use Rattle.promql_ast.specs.declared.tree.Node.TheFolds.{map-Node, fold-Node, fold-roll-Node, fold-roll-Expr, ind-Expr}
use Rattle.step_table.specs.Groups.{Names, gathered}
use Rattle.step_table.specs.Matching.{labelled}
use Rattle.step_table.specs.Outcomes.{keyed, taken}
use Rattle.step_table.specs.Unions.{united}
use Rattle.step_table.specs.declared.marks.Marks.{Marks}
use Rattle.step_table.specs.declared.step.Row.{Row}
use Rattle.step_table.specs.declared.step.Step.{Step}
use Rattle.ticks.specs.declared.moment.Ms.{Ms}
use Rattle.window_fn.specs.Aggregates.{average, quantile_of, total, variance}
use Rattle.window_fn.specs.NumberLaws.{AggregateIsAlike, WindowIsAlike}
use Rattle.window_fn.specs.declared.frame.WindowFrame.{WindowFrame}
use Rattle.xfrac.specs.Arithmetic.{whole_number}
use Rattle.xfrac.specs.Laws.{IsNumber}
use Rattle.xfrac.specs.NumberLaws.{FormedIsNumber, FractionIsFormed, NegatedIsNumber, NumberHasDenominator, SumIsNumber, WholeIsNumber}
use Rattle.xfrac.specs.declared.value.PairOp.{PairOp}
use Rattle.xfrac.specs.declared.value.XFrac.{XFrac}
use Rattle.xfrac.specs.declared.value.XFrac.TheVariants.{Fin, PosInf, NegInf, NaN}
use Rattle.promql_meaning.specs.declared.given.Given.{Given}
use Rattle.promql_meaning.specs.declared.given.Given.TheVariants as given
use Rattle.promql_meaning.specs.declared.given.Stamped.{Stamped}
use Rattle.promql_meaning.specs.declared.given.Windows.{Windows}
use Rattle.promql_meaning.specs.Absences.{absence_under, absent_labels}
use Rattle.promql_meaning.specs.Aggregations.{aggregate_of, aggregated, group_outcome, keyed_values, summarised}
use Rattle.promql_meaning.specs.Buckets.{bucket_quantiles}
use Rattle.promql_meaning.specs.Countings.{count_row, counted, counting_outcome}
use Rattle.promql_meaning.specs.Elements.{element_outcome, instant_outcome, mapped, operated_rows, operator_outcome, row_by_row, seconds_of, stamp_outcome, timestamps}
use Rattle.promql_meaning.specs.Givens.{barren, no_marks, step_of, unstamped, value_in, with_scalar, words_of}
use Rattle.promql_meaning.specs.Meaning.{absent, aggregation, applied, applied_to, argument, called, completed, given_at, meaning, negation, node_meaning, operation, over_windows, over_windows_with, ranged, rounding, step_at, value_of_one, windowed_with, words_at, zero_number}
use Rattle.promql_meaning.specs.Ranges.{frame_of, window_outcome, window_value, windowed}
use Rattle.promql_meaning.specs.Ranks.{is_ranked, kept_labels, rank_count, ranked_to}
use Rattle.promql_meaning.specs.Relabels.{joined_labels, replaced_labels}
use Rattle.promql_meaning.specs.Selecting.{Asked, moment_of, passing}
use Rattle.promql_meaning.specs.Subqueries.{as_times, multiples}
use Rattle.meaning_laws.specs.ValueLaws.{GivesValues, HasValues, HaveSamples, MeaningGivesValues, MeaningHasValues, ValueWithinIsNumber, all_of, node_numbers, numbers_of}
use Rattle.meaning_laws.proofs.Histograms.{quantiles_have}
use Rattle.meaning_laws.proofs.Operations.{IsAnswer, V, element_is, operated_is, operated_with_is, or_whole, seconds_is}
use Rattle.meaning_laws.proofs.Rows.{IsOutcome, R, back_all, by_value_has, combined_has, front_all, gathered_all, labelled_is, mapped_all, paired_has, rows_has, scalar_has, scalars_has, settled_outcomes, taken_has, taken_rows, value_in_is}
use Rattle.meaning_laws.proofs.Selected.{IsWindow, newest_have, passing_have, points_have, windows_have}

-- ---- what is given

step_has : (g : Given) → GivesValues g → HasValues (step_of g)
step_has (given.Scalar step) h = h
step_has (given.Vector step) h = h
step_has (given.Selected selection) h = mapped_all R (λ (row : Stamped). V row.value) unstamped (λ row k. k) selection.rows h
step_has (given.Windows windows) h = tt
step_has (given.Words text) h = tt

argument_has : (gs : List Given) (i : ℕ) → AllByRecursion GivesValues gs → GivesValues (argument gs i)
argument_has [] i a = tt
argument_has (g ∷ gs) zero a = a.0
argument_has (g ∷ gs) (suc i) a = argument_has gs i a.1

at_has : (gs : List Given) (i : ℕ) → AllByRecursion GivesValues gs → HasValues (step_at gs i)
at_has gs i a = step_has (argument gs i) (argument_has gs i a)

zero_is : V zero_number
zero_is = inr refl

counted_rows : (groups : List (Names × List Row)) → AllByRecursion R (map count_row groups)
counted_rows [] = tt
counted_rows (g ∷ groups) = (inr refl, counted_rows groups)

one_is : (rows : List Row) → AllByRecursion R rows → V (value_of_one rows)
one_is [] h = inl tt
one_is (row ∷ []) h = h.0
one_is (row ∷ other ∷ rows) h = inl tt

absence_has : {A : Type 0} (labels : Option Names) (rows : List A) (marks : Marks) → HasValues (absence_under labels rows marks)
absence_has labels [] marks = taken_has marks (labelled labels (whole_number 1) ∷ []) (labelled_is labels (whole_number 1) (inr refl), tt)
absence_has labels (row ∷ rows) marks = tt

absent_has : (g : Given) → HasValues (absent g)
absent_has (given.Scalar step) = absence_has (absent_labels []) step.table.rows step.marks
absent_has (given.Vector step) = absence_has (absent_labels []) step.table.rows step.marks
absent_has (given.Selected selection) = absence_has (absent_labels selection.rules) selection.rows no_marks
absent_has (given.Windows windows) = absence_has (absent_labels windows.rules) windows.rows windows.marks
absent_has (given.Words text) = absence_has {A = Row} (absent_labels []) [] no_marks

ranked_to_has : (down : Bool) (by : Grouping) (step : Step) (o : Option ℕ) → HasValues step → HasValues (ranked_to down by step o)
ranked_to_has down by step None h = tt
ranked_to_has down by step (Some k) h = recursion_filter R (is_ranked down by k step.table.rows) step.table.rows h

relabelled_has : (f : Names → Option Names) (step : Step) → HasValues step → HasValues (row_by_row (λ (row : Row). labelled (f row.labels) row.value) step)
relabelled_has f step h = rows_has (λ (row : Row). labelled (f row.labels) row.value) (λ row k. labelled_is (f row.labels) row.value k) step h

module _ (formed : FormedIsNumber) (has : NumberHasDenominator) (fraction : FractionIsFormed) (negated_is : NegatedIsNumber) (sum_is : SumIsNumber) (whole_is : WholeIsNumber) (aggregates_is : AggregateIsAlike) (window_is : WindowIsAlike) where
  mapped_has : (f : Element) (a b : XFrac) (step : Step) → V a → V b → HasValues step → HasValues (mapped f a b step)
  mapped_has f a b step h k l = rows_has (element_outcome f a b) (λ row r. element_is formed has fraction negated_is f row.value a b r h k) step l

  second_is : (t : ℤ) → IsAnswer (seconds_of t)
  second_is t = seconds_is formed has fraction negated_is t

  applied_has : (f : Element) (first second step : Step) → HasValues first → HasValues second → HasValues step → HasValues (applied_to f first second step)
  applied_has element.Abs first second step u v w = mapped_has element.Abs zero_number zero_number step zero_is zero_is w
  applied_has element.Ceil first second step u v w = mapped_has element.Ceil zero_number zero_number step zero_is zero_is w
  applied_has element.Floor first second step u v w = mapped_has element.Floor zero_number zero_number step zero_is zero_is w
  applied_has element.Sgn first second step u v w = mapped_has element.Sgn zero_number zero_number step zero_is zero_is w
  applied_has element.Neg first second step u v w = mapped_has element.Neg zero_number zero_number step zero_is zero_is w
  applied_has (element.Calendar part) first second step u v w = mapped_has (element.Calendar part) zero_number zero_number step zero_is zero_is w
  applied_has element.Round first second step u v w = scalar_has (λ to. mapped element.Round to zero_number) (λ a s k h. mapped_has element.Round a zero_number s k zero_is h) first step u w
  applied_has element.ClampMin first second step u v w = scalar_has (λ low. mapped element.ClampMin low zero_number) (λ a s k h. mapped_has element.ClampMin a zero_number s k zero_is h) first step u w
  applied_has element.ClampMax first second step u v w = scalar_has (λ high. mapped element.ClampMax high zero_number) (λ a s k h. mapped_has element.ClampMax a zero_number s k zero_is h) first step u w
  applied_has element.Clamp first second step u v w = scalars_has (mapped element.Clamp) (λ a b s k l h. mapped_has element.Clamp a b s k l h) first second step u v w

  rounding_has : (gs : List Given) → AllByRecursion GivesValues gs → HasValues (rounding gs)
  rounding_has [] a = (inr refl, tt)
  rounding_has (g ∷ []) a = (inr refl, tt)
  rounding_has (g ∷ h ∷ gs) a = step_has h a.1.0

  call_applied : (f : Element) (gs : List Given) → AllByRecursion GivesValues gs → HasValues (applied f gs)
  call_applied element.Round gs a = applied_has element.Round (rounding gs) (rounding gs) (step_at gs 0) (rounding_has gs a) (rounding_has gs a) (at_has gs 0 a)
  call_applied element.Abs gs a = applied_has element.Abs (step_at gs 1) (step_at gs 2) (step_at gs 0) (at_has gs 1 a) (at_has gs 2 a) (at_has gs 0 a)
  call_applied element.Ceil gs a = applied_has element.Ceil (step_at gs 1) (step_at gs 2) (step_at gs 0) (at_has gs 1 a) (at_has gs 2 a) (at_has gs 0 a)
  call_applied element.Floor gs a = applied_has element.Floor (step_at gs 1) (step_at gs 2) (step_at gs 0) (at_has gs 1 a) (at_has gs 2 a) (at_has gs 0 a)
  call_applied element.Sgn gs a = applied_has element.Sgn (step_at gs 1) (step_at gs 2) (step_at gs 0) (at_has gs 1 a) (at_has gs 2 a) (at_has gs 0 a)
  call_applied element.Neg gs a = applied_has element.Neg (step_at gs 1) (step_at gs 2) (step_at gs 0) (at_has gs 1 a) (at_has gs 2 a) (at_has gs 0 a)
  call_applied (element.Calendar part) gs a = applied_has (element.Calendar part) (step_at gs 1) (step_at gs 2) (step_at gs 0) (at_has gs 1 a) (at_has gs 2 a) (at_has gs 0 a)
  call_applied element.Clamp gs a = applied_has element.Clamp (step_at gs 1) (step_at gs 2) (step_at gs 0) (at_has gs 1 a) (at_has gs 2 a) (at_has gs 0 a)
  call_applied element.ClampMin gs a = applied_has element.ClampMin (step_at gs 1) (step_at gs 2) (step_at gs 0) (at_has gs 1 a) (at_has gs 2 a) (at_has gs 0 a)
  call_applied element.ClampMax gs a = applied_has element.ClampMax (step_at gs 1) (step_at gs 2) (step_at gs 0) (at_has gs 1 a) (at_has gs 2 a) (at_has gs 0 a)

  -- ---- windows

  one_window : (f : WindowFunction) (frame : WindowFrame) (arg : XFrac) (times : List Ms) (values : List XFrac) → V arg → AllByRecursion V values → IsAnswer (window_value f frame arg times values)
  one_window f frame arg times [] h k = tt
  one_window f frame arg times (value ∷ values) h k = window_is f times (value ∷ values) frame arg (All-from_recursion V (value ∷ values) k) h

  windowed_has : (f : WindowFunction) (t : ℤ) (arg : XFrac) (windows : Windows) → V arg → AllByRecursion IsWindow windows.rows → HasValues (windowed f t arg windows)
  windowed_has f t arg windows h k =
      settled_outcomes (map (window_outcome f t arg windows) windows.rows)
      (mapped_all IsOutcome IsWindow (window_outcome f t arg windows) (λ row r. one_window f (frame_of t windows) arg row.times row.values h r) windows.rows k)

  over_with : (f : WindowFunction) (t : ℤ) (scalar : Step) (windows : Windows) → HasValues scalar → AllByRecursion IsWindow windows.rows → HasValues (windowed_with f t scalar windows)
  over_with f t scalar windows h k =
      by_value_has V (value_in scalar) (united windows.marks scalar.marks) (λ arg. windowed f t arg (record windows { marks = united windows.marks scalar.marks })) (value_in_is scalar h)
      (λ arg a. windowed_has f t arg (record windows { marks = united windows.marks scalar.marks }) a k)

  over_given : (f : WindowFunction) (t : ℤ) (g : Given) → GivesValues g → HasValues (over_windows f t g)
  over_given f t (given.Scalar step) h = tt
  over_given f t (given.Vector step) h = tt
  over_given f t (given.Selected selection) h = tt
  over_given f t (given.Windows windows) h = windowed_has f t zero_number windows zero_is h
  over_given f t (given.Words text) h = tt

  over_given_with : (f : WindowFunction) (t : ℤ) (scalar : Step) (g : Given) → HasValues scalar → GivesValues g → HasValues (over_windows_with f t scalar g)
  over_given_with f t scalar (given.Scalar step) v h = tt
  over_given_with f t scalar (given.Vector step) v h = tt
  over_given_with f t scalar (given.Selected selection) v h = tt
  over_given_with f t scalar (given.Windows windows) v h = over_with f t scalar windows v h
  over_given_with f t scalar (given.Words text) v h = tt

  ranged_has : (f : WindowFunction) (t : ℤ) (gs : List Given) → AllByRecursion GivesValues gs → HasValues (ranged f t gs)
  ranged_has window.Rate t gs a = over_given window.Rate t (argument gs 0) (argument_has gs 0 a)
  ranged_has window.Increase t gs a = over_given window.Increase t (argument gs 0) (argument_has gs 0 a)
  ranged_has window.Delta t gs a = over_given window.Delta t (argument gs 0) (argument_has gs 0 a)
  ranged_has window.Irate t gs a = over_given window.Irate t (argument gs 0) (argument_has gs 0 a)
  ranged_has window.Idelta t gs a = over_given window.Idelta t (argument gs 0) (argument_has gs 0 a)
  ranged_has window.Deriv t gs a = over_given window.Deriv t (argument gs 0) (argument_has gs 0 a)
  ranged_has window.PredictLinear t gs a = over_given_with window.PredictLinear t (step_at gs 1) (argument gs 0) (at_has gs 1 a) (argument_has gs 0 a)
  ranged_has window.Changes t gs a = over_given window.Changes t (argument gs 0) (argument_has gs 0 a)
  ranged_has window.Resets t gs a = over_given window.Resets t (argument gs 0) (argument_has gs 0 a)
  ranged_has window.AvgOver t gs a = over_given window.AvgOver t (argument gs 0) (argument_has gs 0 a)
  ranged_has window.MinOver t gs a = over_given window.MinOver t (argument gs 0) (argument_has gs 0 a)
  ranged_has window.MaxOver t gs a = over_given window.MaxOver t (argument gs 0) (argument_has gs 0 a)
  ranged_has window.SumOver t gs a = over_given window.SumOver t (argument gs 0) (argument_has gs 0 a)
  ranged_has window.CountOver t gs a = over_given window.CountOver t (argument gs 0) (argument_has gs 0 a)
  ranged_has window.StdvarOver t gs a = over_given window.StdvarOver t (argument gs 0) (argument_has gs 0 a)
  ranged_has window.QuantileOver t gs a = over_given_with window.QuantileOver t (step_at gs 0) (argument gs 1) (at_has gs 0 a) (argument_has gs 1 a)
  ranged_has window.LastOver t gs a = over_given window.LastOver t (argument gs 0) (argument_has gs 0 a)
  ranged_has window.PresentOver t gs a = over_given window.PresentOver t (argument gs 0) (argument_has gs 0 a)

  -- ---- calls

  at_instant_has : (t : ℤ) (step : Step) → HasValues step → HasValues (row_by_row (instant_outcome t) step)
  at_instant_has t step h = rows_has (instant_outcome t) (λ row k. second_is t) step h

  stamps_has : (g : Given) (t : ℤ) → GivesValues g → HasValues (timestamps g t)
  stamps_has (given.Scalar step) t h = at_instant_has t step h
  stamps_has (given.Vector step) t h = at_instant_has t step h
  stamps_has (given.Selected selection) t h =
      settled_outcomes (map stamp_outcome selection.rows) (mapped_all IsOutcome (λ (row : Stamped). V row.value) stamp_outcome (λ row k. second_is row.at.0) selection.rows h)
  stamps_has (given.Windows windows) t h = at_instant_has t (barren no_marks) tt
  stamps_has (given.Words text) t h = at_instant_has t (barren no_marks) tt

  time_has : (t : ℤ) → HasValues (taken no_marks (record { labels = []; value = seconds_of t } ∷ []))
  time_has t = taken_has no_marks (record { labels = []; value = seconds_of t } ∷ []) (second_is t, tt)

  completed_has : (f : Element) (gs : List Given) (t : ℤ) → AllByRecursion GivesValues gs → AllByRecursion GivesValues (completed f gs t)
  completed_has (element.Calendar part) [] t a = (time_has t, tt)
  completed_has (element.Calendar part) (g ∷ gs) t a = a
  completed_has element.Abs gs t a = a
  completed_has element.Ceil gs t a = a
  completed_has element.Floor gs t a = a
  completed_has element.Sgn gs t a = a
  completed_has element.Neg gs t a = a
  completed_has element.Round gs t a = a
  completed_has element.Clamp gs t a = a
  completed_has element.ClampMin gs t a = a
  completed_has element.ClampMax gs t a = a

  buckets_have : (q : XFrac) (step : Step) → V q → HasValues step → HasValues (bucket_quantiles q step)
  buckets_have = quantiles_have formed has fraction negated_is sum_is (whole_is (pos 0) (omega arith))

  call_has : (f : Func) (gs : List Given) (t : ℤ) → AllByRecursion GivesValues gs → GivesValues (called f gs t)
  call_has (func.Element f) gs t a = call_applied f (completed f gs t) (completed_has f gs t a)
  call_has (func.Window f) gs t a = ranged_has f t gs a
  call_has func.Absent gs t a = absent_has (argument gs 0)
  call_has func.AbsentOver gs t a = absent_has (argument gs 0)
  call_has func.HistogramQuantile gs t a = scalar_has bucket_quantiles buckets_have (step_at gs 0) (step_at gs 1) (at_has gs 0 a) (at_has gs 1 a)
  call_has func.LabelJoin gs t a = relabelled_has (joined_labels (words_at gs 1) (words_at gs 2) (map words_of (drop 3 gs))) (step_at gs 0) (at_has gs 0 a)
  call_has func.LabelReplace gs t a = relabelled_has (replaced_labels (words_at gs 1) (words_at gs 2) (words_at gs 3) (words_at gs 4)) (step_at gs 0) (at_has gs 0 a)
  call_has func.Scalar gs t a = (one_is (step_at gs 0).table.rows (at_has gs 0 a), tt)
  call_has func.Sort gs t a = at_has gs 0 a
  call_has func.SortDesc gs t a = at_has gs 0 a
  call_has func.Time gs t a = time_has t
  call_has func.Timestamp gs t a = stamps_has (argument gs 0) t (argument_has gs 0 a)
  call_has func.Vector gs t a = at_has gs 0 a

  -- ---- aggregations

  group_is : (f : Aggregate) (q : XFrac) (values : List XFrac) → V q → AllByRecursion V values → IsAnswer (aggregate_of f q values)
  group_is aggregate.Sum q values h k = or_whole (total values) (aggregates_is values (All-from_recursion V values k)).total
  group_is aggregate.Avg q values h k = or_whole (average values) (aggregates_is values (All-from_recursion V values k)).average
  group_is aggregate.Min q values h k = (aggregates_is values (All-from_recursion V values k)).least
  group_is aggregate.Max q values h k = (aggregates_is values (All-from_recursion V values k)).greatest
  group_is aggregate.Count q values h k = inr refl
  group_is aggregate.Group q values h k = inr refl
  group_is aggregate.Stdvar q values h k = or_whole (variance values) (aggregates_is values (All-from_recursion V values k)).variance
  group_is aggregate.Quantile q values h k = or_whole (quantile_of q values) ((aggregates_is values (All-from_recursion V values k)).quantile q h)
  group_is aggregate.TopK q values h k = tt
  group_is aggregate.BottomK q values h k = tt
  group_is aggregate.CountValues q values h k = tt

  summarised_has : (f : Aggregate) (by : Grouping) (q : XFrac) (step : Step) → V q → HasValues step → HasValues (summarised f by q step)
  summarised_has f by q step h k =
      taken_rows (map (group_outcome f q) (gathered (keyed_values by step.table.rows)))
      (mapped_all IsOutcome (λ (g : Names × List XFrac). AllByRecursion V g.1) (group_outcome f q) (λ g l. group_is f q g.1 h l) (gathered (keyed_values by step.table.rows))
      (gathered_all V (keyed_values by step.table.rows) (mapped_all (λ (item : Names × XFrac). V item.1) R (λ (row : Row). (kept_labels by row.labels, row.value)) (λ row l. l) step.table.rows k)))

  counted_has : (by : Grouping) (label : List ℕ) (step : Step) → HasValues (counted by label step)
  counted_has by label step = counted_rows (gathered (keyed (taken step.marks (map (counting_outcome by label) step.table.rows)).table.rows))

  aggregated_has : (f : Aggregate) (by : Grouping) (arg : XFrac) (label : List ℕ) (step : Step) → V arg → HasValues step → HasValues (aggregated f by arg label step)
  aggregated_has aggregate.Sum by arg label step h k = summarised_has aggregate.Sum by arg step h k
  aggregated_has aggregate.Avg by arg label step h k = summarised_has aggregate.Avg by arg step h k
  aggregated_has aggregate.Min by arg label step h k = summarised_has aggregate.Min by arg step h k
  aggregated_has aggregate.Max by arg label step h k = summarised_has aggregate.Max by arg step h k
  aggregated_has aggregate.Count by arg label step h k = summarised_has aggregate.Count by arg step h k
  aggregated_has aggregate.Group by arg label step h k = summarised_has aggregate.Group by arg step h k
  aggregated_has aggregate.Stdvar by arg label step h k = summarised_has aggregate.Stdvar by arg step h k
  aggregated_has aggregate.Quantile by arg label step h k = summarised_has aggregate.Quantile by arg step h k
  aggregated_has aggregate.TopK by arg label step h k = ranked_to_has true by step (rank_count arg) k
  aggregated_has aggregate.BottomK by arg label step h k = ranked_to_has false by step (rank_count arg) k
  aggregated_has aggregate.CountValues by arg label step h k = counted_has by label step

  aggregation_has : (f : Aggregate) (by : Grouping) (gs : List Given) → AllByRecursion GivesValues gs → HasValues (aggregation f by gs)
  aggregation_has aggregate.Sum by gs a = aggregated_has aggregate.Sum by zero_number [] (step_at gs 0) zero_is (at_has gs 0 a)
  aggregation_has aggregate.Avg by gs a = aggregated_has aggregate.Avg by zero_number [] (step_at gs 0) zero_is (at_has gs 0 a)
  aggregation_has aggregate.Min by gs a = aggregated_has aggregate.Min by zero_number [] (step_at gs 0) zero_is (at_has gs 0 a)
  aggregation_has aggregate.Max by gs a = aggregated_has aggregate.Max by zero_number [] (step_at gs 0) zero_is (at_has gs 0 a)
  aggregation_has aggregate.Count by gs a = aggregated_has aggregate.Count by zero_number [] (step_at gs 0) zero_is (at_has gs 0 a)
  aggregation_has aggregate.Group by gs a = aggregated_has aggregate.Group by zero_number [] (step_at gs 0) zero_is (at_has gs 0 a)
  aggregation_has aggregate.Stdvar by gs a = aggregated_has aggregate.Stdvar by zero_number [] (step_at gs 0) zero_is (at_has gs 0 a)
  aggregation_has aggregate.TopK by gs a = scalar_has (λ k. aggregated aggregate.TopK by k []) (λ k s v h. aggregated_has aggregate.TopK by k [] s v h) (step_at gs 0) (step_at gs 1) (at_has gs 0 a) (at_has gs 1 a)
  aggregation_has aggregate.BottomK by gs a = scalar_has (λ k. aggregated aggregate.BottomK by k []) (λ k s v h. aggregated_has aggregate.BottomK by k [] s v h) (step_at gs 0) (step_at gs 1) (at_has gs 0 a) (at_has gs 1 a)
  aggregation_has aggregate.Quantile by gs a = scalar_has (λ k. aggregated aggregate.Quantile by k []) (λ k s v h. aggregated_has aggregate.Quantile by k [] s v h) (step_at gs 0) (step_at gs 1) (at_has gs 0 a) (at_has gs 1 a)
  aggregation_has aggregate.CountValues by gs a = aggregated_has aggregate.CountValues by zero_number (words_at gs 0) (step_at gs 1) zero_is (at_has gs 1 a)

  -- ---- operators

  minus_has : (g : Given) → GivesValues g → GivesValues (negation g)
  minus_has (given.Scalar step) h = mapped_has element.Neg zero_number zero_number step zero_is zero_is h
  minus_has (given.Vector step) h = mapped_has element.Neg zero_number zero_number (step_of (given.Vector step)) zero_is zero_is (step_has (given.Vector step) h)
  minus_has (given.Selected selection) h = mapped_has element.Neg zero_number zero_number (step_of (given.Selected selection)) zero_is zero_is (step_has (given.Selected selection) h)
  minus_has (given.Windows windows) h = mapped_has element.Neg zero_number zero_number (step_of (given.Windows windows)) zero_is zero_is (step_has (given.Windows windows) h)
  minus_has (given.Words text) h = mapped_has element.Neg zero_number zero_number (step_of (given.Words text)) zero_is zero_is (step_has (given.Words text) h)

  with_operand : (op : PairOp) (left : Bool) (scalar step : Step) → HasValues scalar → HasValues step → HasValues (with_scalar (operated_rows op left) scalar step)
  with_operand op left scalar step h k =
      scalar_has (operated_rows op left) (λ a s v w. rows_has (operator_outcome op left a) (λ row r. operated_with_is formed has fraction negated_is op left a row.value v r) s w) scalar step h k

  operation_has : (op : PairOp) (p : Pairing) (l r : Given) → GivesValues l → GivesValues r → GivesValues (operation op p l r)
  operation_has op p (given.Scalar l) (given.Scalar r) h k = with_operand op false r l k h
  operation_has op p (given.Scalar l) (given.Vector r) h k = with_operand op true l (step_of (given.Vector r)) h (step_has (given.Vector r) k)
  operation_has op p (given.Scalar l) (given.Selected r) h k = with_operand op true l (step_of (given.Selected r)) h (step_has (given.Selected r) k)
  operation_has op p (given.Scalar l) (given.Windows r) h k = with_operand op true l (step_of (given.Windows r)) h (step_has (given.Windows r) k)
  operation_has op p (given.Scalar l) (given.Words r) h k = with_operand op true l (step_of (given.Words r)) h (step_has (given.Words r) k)
  operation_has op p (given.Vector l) (given.Scalar r) h k = with_operand op false r (step_of (given.Vector l)) k (step_has (given.Vector l) h)
  operation_has op p (given.Selected l) (given.Scalar r) h k = with_operand op false r (step_of (given.Selected l)) k (step_has (given.Selected l) h)
  operation_has op p (given.Windows l) (given.Scalar r) h k = with_operand op false r (step_of (given.Windows l)) k (step_has (given.Windows l) h)
  operation_has op p (given.Words l) (given.Scalar r) h k = with_operand op false r (step_of (given.Words l)) k (step_has (given.Words l) h)
  operation_has op p (given.Vector l) (given.Vector r) h k = paired_has (operated_is formed has fraction negated_is) op p (step_of (given.Vector l)) (step_of (given.Vector r)) (step_has (given.Vector l) h) (step_has (given.Vector r) k)
  operation_has op p (given.Vector l) (given.Selected r) h k = paired_has (operated_is formed has fraction negated_is) op p (step_of (given.Vector l)) (step_of (given.Selected r)) (step_has (given.Vector l) h) (step_has (given.Selected r) k)
  operation_has op p (given.Vector l) (given.Windows r) h k = paired_has (operated_is formed has fraction negated_is) op p (step_of (given.Vector l)) (step_of (given.Windows r)) (step_has (given.Vector l) h) (step_has (given.Windows r) k)
  operation_has op p (given.Vector l) (given.Words r) h k = paired_has (operated_is formed has fraction negated_is) op p (step_of (given.Vector l)) (step_of (given.Words r)) (step_has (given.Vector l) h) (step_has (given.Words r) k)
  operation_has op p (given.Selected l) (given.Vector r) h k = paired_has (operated_is formed has fraction negated_is) op p (step_of (given.Selected l)) (step_of (given.Vector r)) (step_has (given.Selected l) h) (step_has (given.Vector r) k)
  operation_has op p (given.Selected l) (given.Selected r) h k = paired_has (operated_is formed has fraction negated_is) op p (step_of (given.Selected l)) (step_of (given.Selected r)) (step_has (given.Selected l) h) (step_has (given.Selected r) k)
  operation_has op p (given.Selected l) (given.Windows r) h k = paired_has (operated_is formed has fraction negated_is) op p (step_of (given.Selected l)) (step_of (given.Windows r)) (step_has (given.Selected l) h) (step_has (given.Windows r) k)
  operation_has op p (given.Selected l) (given.Words r) h k = paired_has (operated_is formed has fraction negated_is) op p (step_of (given.Selected l)) (step_of (given.Words r)) (step_has (given.Selected l) h) (step_has (given.Words r) k)
  operation_has op p (given.Windows l) (given.Vector r) h k = paired_has (operated_is formed has fraction negated_is) op p (step_of (given.Windows l)) (step_of (given.Vector r)) (step_has (given.Windows l) h) (step_has (given.Vector r) k)
  operation_has op p (given.Windows l) (given.Selected r) h k = paired_has (operated_is formed has fraction negated_is) op p (step_of (given.Windows l)) (step_of (given.Selected r)) (step_has (given.Windows l) h) (step_has (given.Selected r) k)
  operation_has op p (given.Windows l) (given.Windows r) h k = paired_has (operated_is formed has fraction negated_is) op p (step_of (given.Windows l)) (step_of (given.Windows r)) (step_has (given.Windows l) h) (step_has (given.Windows r) k)
  operation_has op p (given.Windows l) (given.Words r) h k = paired_has (operated_is formed has fraction negated_is) op p (step_of (given.Windows l)) (step_of (given.Words r)) (step_has (given.Windows l) h) (step_has (given.Words r) k)
  operation_has op p (given.Words l) (given.Vector r) h k = paired_has (operated_is formed has fraction negated_is) op p (step_of (given.Words l)) (step_of (given.Vector r)) (step_has (given.Words l) h) (step_has (given.Vector r) k)
  operation_has op p (given.Words l) (given.Selected r) h k = paired_has (operated_is formed has fraction negated_is) op p (step_of (given.Words l)) (step_of (given.Selected r)) (step_has (given.Words l) h) (step_has (given.Selected r) k)
  operation_has op p (given.Words l) (given.Windows r) h k = paired_has (operated_is formed has fraction negated_is) op p (step_of (given.Words l)) (step_of (given.Windows r)) (step_has (given.Words l) h) (step_has (given.Windows r) k)
  operation_has op p (given.Words l) (given.Words r) h k = paired_has (operated_is formed has fraction negated_is) op p (step_of (given.Words l)) (step_of (given.Words r)) (step_has (given.Words l) h) (step_has (given.Words r) k)

  -- ---- the tree

  module _ (asked : Asked) (samples : HaveSamples asked.samples) where
    abbrev Are : List XFrac → Type 0
    Are = AllByRecursion IsNumber

    abbrev Fits : Expr → Type 0
    Fits e = Are (numbers_of e) → (t : ℤ) → GivesValues (meaning asked e t)

    abbrev meaning_in : Node → ℤ → Given
    meaning_in = fold-Node (ℤ → Given) (ℤ → Given) (node_meaning asked) (λ e. e.node)

    abbrev numbers_in : Node → List XFrac
    numbers_in = fold-Node (List XFrac) (List XFrac) node_numbers (λ e. e.node)

    abbrev NodeFits : Node → Type 0
    NodeFits node = Are (numbers_in node) → (t : ℤ) → GivesValues (meaning_in node t)

    abbrev Fitting : Type 0
    Fitting = Node-F ((n : Node) × NodeFits n) ((e : Expr) × Fits e)

    abbrev plain : Fitting → Node-F Node Expr
    plain = map-Node ((n : Node) × NodeFits n) ((e : Expr) × Fits e) Node Expr (λ n. n.0) (λ e. e.0)

    abbrev Fitted : Type 0
    Fitted = (e : Expr) × Fits e

    arguments_have : (items : List Fitted) (t : ℤ) → Are (all_of (map numbers_of (map (λ e. e.0) items))) → AllByRecursion GivesValues (given_at (map (meaning asked) (map (λ e. e.0) items)) t)
    arguments_have [] t a = tt
    arguments_have (item ∷ items) t a =
        let rest : List XFrac = all_of (map numbers_of (map (λ e. e.0) items)) in
        (item.1 (front_all IsNumber (numbers_of item.0) rest a) t, arguments_have items t (back_all IsNumber (numbers_of item.0) rest a))

    level : (y : Fitting) → Are (node_numbers (map-Node Node Expr (List XFrac) (List XFrac) numbers_in numbers_of (plain y))) → (t : ℤ)
        → GivesValues (node_meaning asked (map-Node Node Expr (ℤ → Given) (ℤ → Given) meaning_in (meaning asked) (plain y)) t)
    level (Node-F.Number value) a t = (inl a.0, tt)
    level (Node-F.Words text) a t = tt
    level (Node-F.Paren e) a t = e.1 a t
    level (Node-F.Negate e) a t = minus_has (meaning asked e.0 t) (e.1 a t)
    level (Node-F.Select selector) a t =
        newest_have selector.moment.closed (moment_of asked selector.moment t) (passing asked.samples asked.kept selector.rules) (passing_have asked.samples asked.kept selector.rules samples)
    level (Node-F.Range selector range) a t =
        windows_have selector.moment.closed (moment_of asked selector.moment t) range.0 (passing asked.samples asked.kept selector.rules) (passing_have asked.samples asked.kept selector.rules samples)
    level (Node-F.Subquery e range step moment) a t =
        points_have (λ u. step_of (meaning asked e.0 u)) (λ u. step_has (meaning asked e.0 u) (e.1 a u)) (as_times (multiples moment.closed (moment_of asked moment t) range.0 step.0))
    level (Node-F.Call f items) a t = call_has f (given_at (map (meaning asked) (map (λ e. e.0) items)) t) t (arguments_have items t a)
    level (Node-F.Aggregate f by items) a t = aggregation_has f by (given_at (map (meaning asked) (map (λ e. e.0) items)) t) (arguments_have items t a)
    level (Node-F.Pair op l r pairing) a t =
        operation_has op pairing (meaning asked l.0 t) (meaning asked r.0 t) (l.1 (front_all IsNumber (numbers_of l.0) (numbers_of r.0) a) t) (r.1 (back_all IsNumber (numbers_of l.0) (numbers_of r.0) a) t)
    level (Node-F.Set op l r pairing) a t =
        combined_has (step_of (meaning asked l.0 t)) (step_of (meaning asked r.0 t)) op pairing (step_has (meaning asked l.0 t) (l.1 (front_all IsNumber (numbers_of l.0) (numbers_of r.0) a) t))
        (step_has (meaning asked r.0 t) (r.1 (back_all IsNumber (numbers_of l.0) (numbers_of r.0) a) t))

    node_fits : (y : Fitting) → NodeFits (roll-Node (plain y))
    node_fits y a t =
        subst (λ f. GivesValues (f t)) (sym (fold-roll-Node (ℤ → Given) (ℤ → Given) (node_meaning asked) (λ e. e.node) (plain y)))
        (level y (subst Are (fold-roll-Node (List XFrac) (List XFrac) node_numbers (λ e. e.node) (plain y)) a) t)

    expr_fits : (at : ℕ) (node : Node) → NodeFits node → Fits (roll-Expr (record { at = at; node = node }))
    expr_fits at node is a t =
        subst (λ f. GivesValues (f t)) (sym (fold-roll-Expr (ℤ → Given) (ℤ → Given) (node_meaning asked) (λ e. e.node) (record { at = at; node = node })))
        (is (subst Are (fold-roll-Expr (List XFrac) (List XFrac) node_numbers (λ e. e.node) (record { at = at; node = node })) a) t)

    all_fit : (e : Expr) → Fits e
    all_fit = ind-Expr NodeFits Fits (λ x y is. subst (λ z. NodeFits (roll-Node z)) is (node_fits y)) (λ x y is. subst (λ z. Fits (roll-Expr z)) is (expr_fits y.at y.node.0 y.node.1))

  pub meaning_gives : MeaningGivesValues
  meaning_gives asked e t samples numbers = all_fit asked samples e numbers t

  pub meaning_has : MeaningHasValues
  meaning_has asked e t samples numbers = step_has (meaning asked e t) (all_fit asked samples e numbers t)

pub within_is : WholeIsNumber → ValueWithinIsNumber
within_is whole v (inl h) few = h
within_is whole (Fin f) (inr h) few = subst (λ d. IsNumber (Fin (f.0, d))) (sym h) (whole f.0 few)
within_is whole PosInf (inr h) few = tt
within_is whole NegInf (inr h) few = tt
within_is whole NaN (inr h) few = tt
