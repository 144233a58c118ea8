-- What an expression means at an instant: a fold over its tree, with the meaning of each child in the child's place. (Prometheus
-- querying; that the notes and marks of all parts are united is this project's own.)
use Rattle.std.specs.Prelude.{ℕ, true, false, List, [], ◌∷◌, map, drop, ℤ, slice_index_or}
use Rattle.func_table.specs.declared.table.Func.{Func}
use Rattle.func_table.specs.declared.table.Func.TheVariants as func
use Rattle.func_table.specs.declared.table.Element.{Element}
use Rattle.func_table.specs.declared.table.Element.TheVariants.{Neg, Round, Clamp, ClampMin, ClampMax, Calendar}
use Rattle.func_table.specs.declared.table.Window.{Window as WindowFunction}
use Rattle.func_table.specs.declared.table.Window.TheVariants.{PredictLinear, QuantileOver}
use Rattle.func_table.specs.declared.table.Aggregate.{Aggregate}
use Rattle.func_table.specs.declared.table.Aggregate.TheVariants.{TopK, BottomK, Quantile, CountValues}
use Rattle.label_set.specs.declared.rules.Grouping.{Grouping}
use Rattle.label_set.specs.declared.rules.Pairing.{Pairing}
use Rattle.promql_ast.specs.declared.tree.Expr.{Expr}
use Rattle.promql_ast.specs.declared.tree.Node.TheOpen.{Node-F}
use Rattle.promql_ast.specs.declared.tree.Node.TheFolds.{fold-Expr}
use Rattle.xfrac.specs.Arithmetic.{whole_number}
use Rattle.xfrac.specs.declared.value.PairOp.{PairOp}
use Rattle.xfrac.specs.declared.value.XFrac.{XFrac}
use Rattle.xfrac.specs.declared.value.XFrac.TheVariants.{NaN}
use Rattle.step_table.specs.Matching.{paired}
use Rattle.step_table.specs.Sets.{combined}
use Rattle.step_table.specs.Unions.{united}
use Rattle.step_table.specs.declared.step.Row.{Row}
use Rattle.step_table.specs.declared.step.Step.{Step}
use Rattle.promql_meaning.specs.declared.given.Given.{Given}
use Rattle.promql_meaning.specs.declared.given.Given.TheVariants as given
use Rattle.promql_meaning.specs.declared.given.Windows.{Windows}
use Rattle.promql_meaning.specs.Absences.{absence}
use Rattle.promql_meaning.specs.Aggregations.{aggregated}
use Rattle.promql_meaning.specs.Buckets.{bucket_quantiles}
use Rattle.promql_meaning.specs.Elements.{mapped, operated_rows, time_step, timestamps}
use Rattle.promql_meaning.specs.Givens.{barren, by_value, no_marks, scalar_step, step_of, value_in, with_scalar, with_scalars, words_of}
use Rattle.step_table.specs.Sets.{step_of_rows}
use Rattle.promql_meaning.specs.Ranges.{windowed}
use Rattle.promql_meaning.specs.Relabels.{label_joined, label_replaced}
use Rattle.promql_meaning.specs.Selecting.{Asked, moment_of, selected, selected_windows}
use Rattle.promql_meaning.specs.Subqueries.{points_of}

-- ---- arguments

-- what each argument gives at an instant
abbrev pub given_at : List (ℤ → Given) → ℤ → List Given
given_at [] t = []
given_at (meaning ∷ meanings) t = meaning t ∷ given_at meanings t

-- what the argument at a place gives, counted from 0
abbrev pub argument : List Given → ℕ → Given
argument arguments i = slice_index_or arguments i (given.Vector (barren no_marks))

abbrev pub step_at : List Given → ℕ → Step
step_at arguments i = step_of (argument arguments i)

abbrev pub words_at : List Given → ℕ → List ℕ
words_at arguments i = words_of (argument arguments i)

abbrev pub zero_number : XFrac
zero_number = whole_number 0

-- ---- functions

-- what is rounded to is 1 where it isn't given
abbrev pub rounding : List Given → Step
rounding arguments = step_of (slice_index_or arguments 1 (given.Scalar (scalar_step (whole_number 1))))

-- an element function of a vector, and of the scalars that it takes
abbrev pub applied_to : Element → Step → Step → Step → Step
applied_to Round first second step = with_scalar (λ to. mapped Round to zero_number) first step
applied_to Clamp first second step = with_scalars (mapped Clamp) first second step
applied_to ClampMin first second step = with_scalar (λ low. mapped ClampMin low zero_number) first step
applied_to ClampMax first second step = with_scalar (λ high. mapped ClampMax high zero_number) first step
applied_to f first second step = mapped f zero_number zero_number step

-- the same of the arguments of a call
abbrev pub applied : Element → List Given → Step
applied Round arguments = applied_to Round (rounding arguments) (rounding arguments) (step_at arguments 0)
applied f arguments = applied_to f (step_at arguments 1) (step_at arguments 2) (step_at arguments 0)

-- vector(time()) where no argument is given
abbrev pub or_instant : List Given → ℤ → List Given
or_instant [] t = given.Vector (time_step t) ∷ []
or_instant (g ∷ gs) t = g ∷ gs

-- what an element function is called with: a calendar function that is given nothing takes the instant
abbrev pub completed : Element → List Given → ℤ → List Given
completed (Calendar part) arguments t = or_instant arguments t
completed f arguments t = arguments

-- a function of windows and of a scalar, with the marks of both
abbrev pub windowed_with : WindowFunction → ℤ → Step → Windows → Step
windowed_with f t scalar windows =
    let marks = united windows.marks scalar.marks in
    by_value (value_in scalar) marks (λ arg. windowed f t arg (record windows { marks = marks }))

-- a function of windows, and of the scalar that it takes
abbrev pub windowed_by : WindowFunction → ℤ → Step → Windows → Step
windowed_by PredictLinear t scalar windows = windowed_with PredictLinear t scalar windows
windowed_by QuantileOver t scalar windows = windowed_with QuantileOver t scalar windows
windowed_by f t scalar windows = windowed f t zero_number windows

-- a function of windows
abbrev pub over_windows : WindowFunction → ℤ → Given → Step
over_windows f t (given.Windows windows) = windowed f t zero_number windows
over_windows f t g = barren no_marks

-- a function of windows and of a scalar, with the marks of both
abbrev pub over_windows_with : WindowFunction → ℤ → Step → Given → Step
over_windows_with f t scalar (given.Windows windows) = windowed_with f t scalar windows
over_windows_with f t scalar g = barren no_marks

abbrev pub ranged : WindowFunction → ℤ → List Given → Step
ranged PredictLinear t arguments = over_windows_with PredictLinear t (step_at arguments 1) (argument arguments 0)
ranged QuantileOver t arguments = over_windows_with QuantileOver t (step_at arguments 0) (argument arguments 1)
ranged f t arguments = over_windows f t (argument arguments 0)

-- one row 1 where a vector has no rows, or windows have none; a selector's labels are told by its rules
abbrev pub absent : Given → Step
absent (given.Selected selection) = absence selection.rules selection.rows no_marks
absent (given.Windows windows) = absence windows.rules windows.rows windows.marks
absent g = absence [] (step_of g).table.rows (step_of g).marks

-- the value of the one row, else NaN
abbrev pub value_of_one : List Row → XFrac
value_of_one (row ∷ []) = row.value
value_of_one _ = NaN

abbrev pub as_scalar : Step → Step
as_scalar step = step_of_rows (record { labels = []; value = value_of_one step.table.rows } ∷ []) step.marks

-- what a call gives at an instant, of what its arguments give
abbrev pub called : Func → List Given → ℤ → Given
called (func.Element f) arguments t = given.Vector (applied f (completed f arguments t))
called (func.Window f) arguments t = given.Vector (ranged f t arguments)
called func.Absent arguments t = given.Vector (absent (argument arguments 0))
called func.AbsentOver arguments t = given.Vector (absent (argument arguments 0))
called func.HistogramQuantile arguments t = given.Vector (with_scalar bucket_quantiles (step_at arguments 0) (step_at arguments 1))
called func.LabelJoin arguments t =
    given.Vector (label_joined (words_at arguments 1) (words_at arguments 2) (map words_of (drop 3 arguments)) (step_at arguments 0))
called func.LabelReplace arguments t =
    given.Vector (label_replaced (words_at arguments 1) (words_at arguments 2) (words_at arguments 3) (words_at arguments 4) (step_at arguments 0))
called func.Scalar arguments t = given.Scalar (as_scalar (step_at arguments 0))
called func.Sort arguments t = given.Vector (step_at arguments 0)
called func.SortDesc arguments t = given.Vector (step_at arguments 0)
called func.Time arguments t = given.Scalar (time_step t)
called func.Timestamp arguments t = given.Vector (timestamps (argument arguments 0) t)
called func.Vector arguments t = given.Vector (step_at arguments 0)

-- an aggregation of a vector, with its parameter or its label
abbrev pub aggregated_with : Aggregate → Grouping → List ℕ → Step → Step → Step
aggregated_with TopK by label parameter step = with_scalar (λ k. aggregated TopK by k []) parameter step
aggregated_with BottomK by label parameter step = with_scalar (λ k. aggregated BottomK by k []) parameter step
aggregated_with Quantile by label parameter step = with_scalar (λ q. aggregated Quantile by q []) parameter step
aggregated_with CountValues by label parameter step = aggregated CountValues by zero_number label step
aggregated_with f by label parameter step = aggregated f by zero_number [] step

-- the same of the arguments of an expression
abbrev pub aggregation : Aggregate → Grouping → List Given → Step
aggregation TopK by arguments = aggregated_with TopK by [] (step_at arguments 0) (step_at arguments 1)
aggregation BottomK by arguments = aggregated_with BottomK by [] (step_at arguments 0) (step_at arguments 1)
aggregation Quantile by arguments = aggregated_with Quantile by [] (step_at arguments 0) (step_at arguments 1)
aggregation CountValues by arguments = aggregated_with CountValues by (words_at arguments 0) (step_at arguments 0) (step_at arguments 1)
aggregation f by arguments = aggregated_with f by [] (step_at arguments 0) (step_at arguments 0)

-- ---- operators

-- minus keeps the type
abbrev pub negation : Given → Given
negation (given.Scalar step) = given.Scalar (mapped Neg zero_number zero_number step)
negation g = given.Vector (mapped Neg zero_number zero_number (step_of g))

-- an operator gives a scalar where both sides are scalars; a scalar is a row without labels
abbrev pub operation : PairOp → Pairing → Given → Given → Given
operation op pairing (given.Scalar l) (given.Scalar r) = given.Scalar (with_scalar (operated_rows op false) r l)
operation op pairing (given.Scalar l) r = given.Vector (with_scalar (operated_rows op true) l (step_of r))
operation op pairing l (given.Scalar r) = given.Vector (with_scalar (operated_rows op false) r (step_of l))
operation op pairing l r = given.Vector (paired (step_of l) (step_of r) op pairing)

-- ---- the meaning

-- what a node gives at an instant, with the meaning of each child in its place
abbrev pub node_meaning : Asked → Node-F (ℤ → Given) (ℤ → Given) → ℤ → Given
node_meaning asked (Node-F.Number value) t = given.Scalar (scalar_step value)
node_meaning asked (Node-F.Words text) t = given.Words text
node_meaning asked (Node-F.Paren inner) t = inner t
node_meaning asked (Node-F.Negate inner) t = negation (inner t)
node_meaning asked (Node-F.Select selector) t = given.Selected (record { rules = selector.rules; rows = selected asked selector t })
node_meaning asked (Node-F.Range selector range) t = given.Windows (record {
  moment = record { 0 = moment_of asked selector.moment t };
  range = range;
  rules = selector.rules;
  rows = selected_windows asked selector range.0 t;
  marks = no_marks;
})
node_meaning asked (Node-F.Subquery inner range step moment) t =
    given.Windows (points_of moment.closed (λ u. step_of (inner u)) range step (moment_of asked moment t))
node_meaning asked (Node-F.Call f arguments) t = called f (given_at arguments t) t
node_meaning asked (Node-F.Aggregate f by arguments) t = given.Vector (aggregation f by (given_at arguments t))
node_meaning asked (Node-F.Pair op left right pairing) t = operation op pairing (left t) (right t)
node_meaning asked (Node-F.Set op left right pairing) t = given.Vector (combined (step_of (left t)) (step_of (right t)) op pairing)

-- what an expression gives at an instant
abbrev pub meaning : Asked → Expr → ℤ → Given
meaning asked = fold-Expr (ℤ → Given) (ℤ → Given) (node_meaning asked) (λ e. e.node)

-- the step of a scalar or a vector at an instant
abbrev pub meaning_step : Asked → Expr → ℤ → Step
meaning_step asked e t = step_of (meaning asked e t)
