-- What a tree of kernels is made of, and the step that it gives at an instant, by the rules of its kernels. (This project's own.)
use Rattle.std.specs.Prelude.{◌≡◌, ◌<ℤ◌, ◌&&◌, ◌||◌, ◌++◌, ℕ, ℤ, pos, Bool, true, false, not, List, [], ◌∷◌, Option, None, Some, ⊤, Contains, IsTrue}
use Rattle.func_table.specs.declared.table.Window.{Window}
use Rattle.label_set.specs.declared.rules.Rule.{Rule}
use Rattle.op_element.specs.Rules.{element_step}
use Rattle.op_element.specs.declared.formula.ElementRule.{ElementRule}
use Rattle.op_labels.specs.Rules.{Kept, filtered_windows}
use Rattle.op_select.specs.Newest.{AreOnce, selected}
use Rattle.op_small.specs.Rules.{small}
use Rattle.op_small.specs.declared.rule.SmallRule.{SmallRule}
use Rattle.op_window.specs.Rules.{takes_scalar as reads_scalar, windows_of_lent, windows_of_series}
use Rattle.promql_meaning.specs.Givens.{barren, no_marks}
use Rattle.promql_meaning.specs.Meaning.{windowed_by}
use Rattle.promql_meaning.specs.Selecting.{lookback}
use Rattle.promql_meaning.specs.Subqueries.{points_of}
use Rattle.sample_store.specs.Samples.{AllSeries}
use Rattle.series_marks.specs.Reaches.{AreThere}
use Rattle.step_batch.specs.LentWindows.{WindowsAt}
use Rattle.step_kernels.specs.Binaries.{binary_step, takes_scalar}
use Rattle.step_kernels.specs.Laws.{binary_keeps_scalars, unary_keeps_scalars, unary_makes_scalars}
use Rattle.step_kernels.specs.Unaries.{reads_rows, unary_step}
use Rattle.step_kernels.specs.declared.binary.BinaryRule.{BinaryRule}
use Rattle.step_kernels.specs.declared.unary.UnaryRule.{UnaryRule}
use Rattle.step_table.specs.declared.step.Step.{Step}
use Rattle.ticks.specs.Walks.{HasTimes, IsInstant, IsTime, moment_at}
use Rattle.ticks.specs.declared.moment.Ms.{Ms}
use Rattle.ticks.specs.declared.walk.Walk.{Walk}
use Rattle.ticks.specs.declared.walk.Walk.TheVariants.{Multiples}
use Rattle.ticks.specs.declared.walk.WalkMoment.{WalkMoment}
use Rattle.plan_tree.specs.Worlds.{World}

-- a tree without what its kernels have come to; a subquery's walk is that of its inner instants, and a gather stands for the one at
-- its place in an exchange; of windows that a gather gives a function takes those that pass some rules, or all where there are none
pub data Shape : Type 0 where
  InstantsOf : SmallRule → Shape
  SelectOf : (series : List ℕ) → WalkMoment → (stamped : Bool) → Shape
  SeriesOf : (series : List ℕ) → Window → WalkMoment → (range : Ms) → (scalar : Shape) → Shape
  UnaryOf : UnaryRule → (rows : Shape) → Shape
  BinaryOf : BinaryRule → (rows beside : Shape) → Shape
  ClampOf : ElementRule → (rows low high : Shape) → Shape
  PointsOf : Window → Walk → WalkMoment → (range step : Ms) → (inner scalar : Shape) → Shape
  OnceOf : (first : Ms) → (child : Shape) → Shape
  GatherOf : (place : ℕ) → Shape
  WindowsOf : (place : ℕ) → Window → WalkMoment → (range : Ms) → Option (List Rule) → (scalar : Shape) → Shape

-- ---- the rule

-- the windows whose labels pass some rules, or all windows where there are none
abbrev pub passing : Kept → Option (List Rule) → WindowsAt → WindowsAt
passing kept None windows = windows
passing kept (Some rules) windows = filtered_windows kept rules windows

-- the step at an instant, in a world and with kept patterns
abbrev pub rule : World → Kept → Shape → ℤ → Step
rule w kept (InstantsOf one) t = small one t (barren no_marks)
rule w kept (SelectOf series moment stamped) t = (selected w.samples series moment stamped (record { 0 = t })).step
rule w kept (SeriesOf series f moment range scalar) t = windowed_by f t (rule w kept scalar t) (windows_of_series w.samples series moment range (record { 0 = t }))
rule w kept (UnaryOf one rows) t = unary_step kept one t (rule w kept rows t)
rule w kept (BinaryOf one rows beside) t = binary_step one (rule w kept rows t) (rule w kept beside t)
rule w kept (ClampOf one rows low high) t = element_step one (rule w kept low t) (rule w kept high t) (rule w kept rows t)
rule w kept (PointsOf f walk moment range step inner scalar) t =
    windowed_by f t (rule w kept scalar t) (points_of moment.closed (rule w kept inner) range step (moment_at moment t))
rule w kept (OnceOf first child) t = rule w kept child first.0
rule w kept (GatherOf place) t = (w.gathers place t).step
rule w kept (WindowsOf place f moment range rules scalar) t =
    windowed_by f t (rule w kept scalar t) (windows_of_lent (passing kept rules (w.gathers place t).windows) moment range (record { 0 = t }))

-- ---- two tests

-- whether each step has one row at most, whatever the store has
abbrev pub is_scalar : Shape → Bool
is_scalar (InstantsOf one) = true
is_scalar (SelectOf series moment stamped) = false
is_scalar (SeriesOf series f moment range scalar) = false
is_scalar (UnaryOf one rows) = unary_makes_scalars one || (unary_keeps_scalars one && is_scalar rows)
is_scalar (BinaryOf one rows beside) = binary_keeps_scalars one && is_scalar rows
is_scalar (ClampOf one rows low high) = false
is_scalar (PointsOf f walk moment range step inner scalar) = false
is_scalar (OnceOf first child) = is_scalar child
is_scalar (GatherOf place) = false
is_scalar (WindowsOf place f moment range rules scalar) = false

-- whether it is fed one instant at a time: a subquery and a gather are, and what reads one at the same instants
abbrev pub is_single : Shape → Bool
is_single (InstantsOf one) = false
is_single (SelectOf series moment stamped) = false
is_single (SeriesOf series f moment range scalar) = is_single scalar
is_single (UnaryOf one rows) = is_single rows
is_single (BinaryOf one rows beside) = is_single rows || is_single beside
is_single (ClampOf one rows low high) = is_single rows || (is_single low || is_single high)
is_single (PointsOf f walk moment range step inner scalar) = true
is_single (OnceOf first child) = false
is_single (GatherOf place) = true
is_single (WindowsOf place f moment range rules scalar) = true

-- ---- conditions

-- a subquery is asked at an instant of the walk that its own one is made of
abbrev pub IsAskedOn : Walk → WalkMoment → Ms → Ms → ℤ → Type 0
IsAskedOn walk moment range step t = (outer : Walk) × (walk ≡ Multiples outer moment range step) × IsInstant outer t

-- the windows of all parts at an instant lie within the times
abbrev pub StaysInTimes : Shape → ℤ → Type 0
StaysInTimes (InstantsOf one) t = ⊤
StaysInTimes (SelectOf series moment stamped) t = HasTimes (moment_at moment t) lookback
StaysInTimes (SeriesOf series f moment range scalar) t = IsTime t × HasTimes (moment_at moment t) range.0 × StaysInTimes scalar t
StaysInTimes (UnaryOf one rows) t = StaysInTimes rows t
StaysInTimes (BinaryOf one rows beside) t = StaysInTimes rows t × StaysInTimes beside t
StaysInTimes (ClampOf one rows low high) t = StaysInTimes rows t × StaysInTimes low t × StaysInTimes high t
StaysInTimes (PointsOf f walk moment range step inner scalar) t = IsTime t × IsAskedOn walk moment range step t × StaysInTimes scalar t
StaysInTimes (OnceOf first child) t = StaysInTimes child first.0
StaysInTimes (GatherOf place) t = ⊤
StaysInTimes (WindowsOf place f moment range rules scalar) t = IsTime t × HasTimes (moment_at moment t) range.0 × StaysInTimes scalar t

-- what a tree is made of fits together: a scalar is one where it is read as such, series are in the store, and a subquery's inner
-- instants lead to times
abbrev pub IsFit : AllSeries → Shape → Type 0
IsFit store (InstantsOf one) = IsTrue (not (reads_rows one))
IsFit store (SelectOf series moment stamped) = AreThere store series × AreOnce series
IsFit store (SeriesOf series f moment range scalar) =
    AreThere store series × (pos 0 <ℤ range.0) × (IsTrue (reads_scalar f) → IsTrue (is_scalar scalar)) × IsFit store scalar
IsFit store (UnaryOf one rows) = IsFit store rows
IsFit store (BinaryOf one rows beside) = (IsTrue (takes_scalar one) → IsTrue (is_scalar beside)) × IsFit store rows × IsFit store beside
IsFit store (ClampOf one rows low high) = IsTrue (is_scalar low) × IsTrue (is_scalar high) × IsFit store rows × IsFit store low × IsFit store high
IsFit store (PointsOf f walk moment range step inner scalar) =
    ((u : ℤ) → IsInstant walk u → StaysInTimes inner u) × (IsTrue (reads_scalar f) → IsTrue (is_scalar scalar)) × IsFit store inner × IsFit store scalar
IsFit store (OnceOf first child) = IsFit store child
IsFit store (GatherOf place) = ⊤
IsFit store (WindowsOf place f moment range rules scalar) = (IsTrue (reads_scalar f) → IsTrue (is_scalar scalar)) × IsFit store scalar

-- ---- gathers

-- the places of a tree's gathers, each as often as a gather stands for it
abbrev pub places_of : Shape → List ℕ
places_of (InstantsOf one) = []
places_of (SelectOf series moment stamped) = []
places_of (SeriesOf series f moment range scalar) = places_of scalar
places_of (UnaryOf one rows) = places_of rows
places_of (BinaryOf one rows beside) = places_of rows ++ places_of beside
places_of (ClampOf one rows low high) = places_of rows ++ (places_of low ++ places_of high)
places_of (PointsOf f walk moment range step inner scalar) = places_of scalar ++ places_of inner
places_of (OnceOf first child) = places_of child
places_of (GatherOf place) = place ∷ []
places_of (WindowsOf place f moment range rules scalar) = place ∷ places_of scalar

-- a gather of the tree stands for the one at a place
abbrev pub HasPlace : Shape → ℕ → Type 0
HasPlace shape place = Contains (places_of shape) place

-- no number is among those behind it
abbrev pub AreDistinct : List ℕ → Type 0
AreDistinct [] = ⊤
AreDistinct (n ∷ numbers) = (Contains numbers n → ⊥) × AreDistinct numbers
