-- What builds trees of kernels relies on. (This project's own.)
use Rattle.std.specs.Prelude.{◌≡◌, ◌≤◌, ℤ, Bool, true, false, List, length, map, IsTrue}
use Rattle.func_table.specs.declared.table.Window.{Window}
use Rattle.op_element.specs.Rules.{IsScalar, element_step}
use Rattle.op_element.specs.declared.formula.ElementRule.{ElementRule}
use Rattle.op_labels.specs.Rules.{Kept}
use Rattle.op_match.specs.Joins.{AreTogether}
use Rattle.op_small.specs.declared.rule.SmallRule.TheVariants as small
use Rattle.promql_meaning.specs.Meaning.{windowed_by}
use Rattle.promql_meaning.specs.Subqueries.{points_of}
use Rattle.promql_meaning.specs.declared.given.Windows.{Windows}
use Rattle.step_batch.specs.Lent.{IsLent, Lent, stages}
use Rattle.step_table.specs.Timed.{steps_over}
use Rattle.step_table.specs.WellFormed.{AreSets}
use Rattle.step_table.specs.declared.step.Step.{Step}
use Rattle.ticks.specs.declared.moment.Ms.{Ms}
use Rattle.step_kernels.specs.Binaries.{binaries, binary_step}
use Rattle.step_kernels.specs.Unaries.{unary_at, unary_step}
use Rattle.step_kernels.specs.declared.binary.BinaryRule.{BinaryRule}
use Rattle.step_kernels.specs.declared.binary.BinaryRule.TheVariants as binary
use Rattle.step_kernels.specs.declared.unary.UnaryRule.{UnaryRule}
use Rattle.step_kernels.specs.declared.unary.UnaryRule.TheVariants as unary

-- ---- steps that are told for each instant

-- a rule of one part goes through what the part gives at each instant
abbrev pub UnariesGoOver : Type 0
UnariesGoOver =
    (kept : Kept) (rule : UnaryRule) (f : ℤ → Step) (at : List Ms) → map (unary_at kept rule) (steps_over f at) ≡ steps_over (λ t. unary_step kept rule t (f t)) at

-- and a rule of two parts through what both give
abbrev pub BinariesGoOver : Type 0
BinariesGoOver =
    (rule : BinaryRule) (f g : ℤ → Step) (at : List Ms) → binaries rule (steps_over f at) (steps_over g at) ≡ steps_over (λ t. binary_step rule (f t) (g t)) at

-- two parts that give their steps at the same instants
abbrev pub SidesAreTogether : Type 0
SidesAreTogether = (rows beside : Lent) (f g : ℤ → Step) (at : List Ms) → stages rows ≡ steps_over f at → stages beside ≡ steps_over g at → AreTogether rows beside

-- ---- scalars

-- a scalar's row, or none
abbrev pub HasOneRow : Step → Type 0
HasOneRow step = length step.table.rows ≤ 1

-- steps of at most one row each are lent as a scalar
abbrev pub FewRowsAreScalars : Type 0
FewRowsAreScalars = (lent : Lent) (f : ℤ → Step) (at : List Ms) → IsLent lent → stages lent ≡ steps_over f at → ((t : ℤ) → HasOneRow (f t)) → IsScalar lent

-- whether a rule makes one row at most of one row at most
abbrev pub unary_keeps_scalars : UnaryRule → Bool
unary_keeps_scalars (unary.Small rule) = true
unary_keeps_scalars (unary.Apply rule) = true
unary_keeps_scalars rule = false

abbrev pub UnariesStayScalars : Type 0
UnariesStayScalars = (kept : Kept) (rule : UnaryRule) (t : ℤ) (step : Step) → IsTrue (unary_keeps_scalars rule) → HasOneRow step → HasOneRow (unary_step kept rule t step)

abbrev pub binary_keeps_scalars : BinaryRule → Bool
binary_keeps_scalars (binary.Apply rule) = true
binary_keeps_scalars rule = false

abbrev pub BinariesStayScalars : Type 0
BinariesStayScalars = (rule : BinaryRule) (rows beside : Step) → IsTrue (binary_keeps_scalars rule) → HasOneRow rows → HasOneRow (binary_step rule rows beside)

-- of any step these make one row at most
abbrev pub unary_makes_scalars : UnaryRule → Bool
unary_makes_scalars (unary.Small small.Scalar) = true
unary_makes_scalars (unary.Small (small.Absent labels)) = true
unary_makes_scalars rule = false

abbrev pub UnariesMakeScalars : Type 0
UnariesMakeScalars = (kept : Kept) (rule : UnaryRule) (t : ℤ) (step : Step) → IsTrue (unary_makes_scalars rule) → HasOneRow (unary_step kept rule t step)

-- ---- marks and notes

-- the marks and notes of what a rule makes are sets where those of what it reads are
abbrev pub UnariesKeepSets : Type 0
UnariesKeepSets = (kept : Kept) (rule : UnaryRule) (t : ℤ) (step : Step) → AreSets step.marks → AreSets (unary_step kept rule t step).marks

abbrev pub BinariesKeepSets : Type 0
BinariesKeepSets = (rule : BinaryRule) (rows beside : Step) → AreSets rows.marks → AreSets beside.marks → AreSets (binary_step rule rows beside).marks

abbrev pub ElementsKeepSets : Type 0
ElementsKeepSets =
    (rule : ElementRule) (first second step : Step) → AreSets first.marks → AreSets second.marks → AreSets step.marks → AreSets (element_step rule first second step).marks

-- likewise those of a function of windows, and of the windows of a subquery
abbrev pub WindowsKeepSets : Type 0
WindowsKeepSets = (f : Window) (t : ℤ) (scalar : Step) (windows : Windows) → AreSets scalar.marks → AreSets windows.marks → AreSets (windowed_by f t scalar windows).marks

abbrev pub PointsKeepSets : Type 0
PointsKeepSets = (closed : Bool) (inner : ℤ → Step) (range step : Ms) (m : ℤ) → ((u : ℤ) → AreSets (inner u).marks) → AreSets (points_of closed inner range step m).marks
