-- What builders of trees rely on: the tree of a node stays within the bound of its plan, if those of its children stay within theirs.
-- (This project's own.)
use Rattle.std.specs.Prelude.{◌≡◌, ◌<ℤ◌, ℕ, pos, Bool, List, Option}
use Rattle.func_table.specs.declared.table.Window.{Window as WindowFunction}
use Rattle.label_set.specs.declared.rules.Rule.{Rule}
use Rattle.logical_plan.specs.declared.nodes.Plan.{Plan}
use Rattle.logical_plan.specs.declared.nodes.PlanNode.TheVariants as node
use Rattle.op_element.specs.declared.formula.ElementRule.{ElementRule}
use Rattle.op_small.specs.declared.rule.SmallRule.{SmallRule}
use Rattle.plan_tree.specs.Shapes.{BinaryOf, ClampOf, GatherOf, InstantsOf, OnceOf, PointsOf, SelectOf, SeriesOf, Shape, UnaryOf, WindowsOf}
use Rattle.plan_tree.specs.Spending.{Cost, IsAtMost, IsBound, IsWithinBound, RisesBy}
use Rattle.promql_ast.specs.declared.tree.Moment.{Moment}
use Rattle.promql_meaning.specs.Selecting.{Asked, passing}
use Rattle.promql_meaning.specs.WalkMoments.{IsMomentOf}
use Rattle.series_marks.specs.Reaches.{AreThere, numbered}
use Rattle.step_kernels.specs.declared.binary.BinaryRule.{BinaryRule}
use Rattle.step_kernels.specs.declared.unary.UnaryRule.{UnaryRule}
use Rattle.ticks.specs.Listed.{IsListed}
use Rattle.ticks.specs.Works.{Counts}
use Rattle.ticks.specs.declared.moment.Ms.{Ms}
use Rattle.ticks.specs.declared.walk.Walk.{Walk}
use Rattle.ticks.specs.declared.walk.Walk.TheVariants.{Fixed, Multiples}
use Rattle.ticks.specs.declared.walk.WalkMoment.{WalkMoment}
use Rattle.plan_work.specs.PlanBounds.{Bounding, arguments_bound, first_of, plan_bound}
use Rattle.plan_work.specs.PlanLaws.{AreBeside, CostsAtMost, IsOver, IsThree}

-- a tree of a shape costs at some instants at most what is said
pub record IsWithin (asked : Asked) (at : List Ms) (most : Bounding) (shape : Shape) : Type 0 where
  pub cost : Cost
  pub of : IsBound asked.samples at shape cost
  pub within : IsAtMost cost (most at)

-- at the instants of a walk a tree costs at most what a plan does, or what all arguments of a function do
abbrev pub StaysWithin : Asked → Walk → Plan → Shape → Type 0
StaysWithin asked walk p shape = (at : List Ms) → IsListed walk at → IsWithin asked at (plan_bound asked p) shape

abbrev pub StaysWithinAll : Asked → Walk → List Plan → Shape → Type 0
StaysWithinAll asked walk arguments shape = (at : List Ms) → IsListed walk at → IsWithin asked at (arguments_bound asked arguments) shape

-- a number and the time cost nothing
abbrev pub NumbersStay : Type 0
NumbersStay = (asked : Asked) (walk : Walk) (p : Plan) (one : SmallRule) → StaysWithin asked walk p (InstantsOf one)

-- a gather costs nothing of the store
abbrev pub GathersStay : Type 0
GathersStay = (asked : Asked) (walk : Walk) (p : Plan) (place : ℕ) → StaysWithin asked walk p (GatherOf place)

-- a selector's tree is over the series that its rules choose, at its own moment
abbrev pub SelectorsStay : Type 0
SelectorsStay =
    (asked : Asked) (walk : Walk) (p : Plan) (rules : List Rule) (moment : Moment) (stamped : Bool) (series : List ℕ) (own : WalkMoment) → p.node ≡ node.Select rules moment stamped →
    AreThere asked.samples series → numbered asked.samples series ≡ passing asked.samples asked.kept rules → IsMomentOf asked moment own → own.closed ≡ moment.closed →
    StaysWithin asked walk p (SelectOf series own stamped)

abbrev pub OversStay : Type 0
OversStay = (asked : Asked) (walk : Walk) (c p : Plan) (one : UnaryRule) (rows : Shape) → IsOver c p → StaysWithin asked walk c rows → StaysWithin asked walk p (UnaryOf one rows)

-- where the tree of the child is that of the node too
abbrev pub SamesStay : Type 0
SamesStay = (asked : Asked) (walk : Walk) (c p : Plan) (rows : Shape) → IsOver c p → StaysWithin asked walk c rows → StaysWithin asked walk p rows

-- where a number stands beside the rows
abbrev pub OversNumbersStay : Type 0
OversNumbersStay =
    (asked : Asked) (walk : Walk) (c p : Plan) (one : BinaryRule) (number : SmallRule) (rows : Shape) → IsOver c p → StaysWithin asked walk c rows → StaysWithin asked walk p (BinaryOf one rows (InstantsOf number))

-- whichever of the two children is fed as the rows
abbrev pub BesidesStay : Type 0
BesidesStay =
    (asked : Asked) (walk : Walk) (left right p : Plan) (one : BinaryRule) (first second : Shape) → AreBeside left right p → StaysWithin asked walk left first → StaysWithin asked walk right second →
    StaysWithin asked walk p (BinaryOf one first second)

abbrev pub ThreesStay : Type 0
ThreesStay =
    (asked : Asked) (walk : Walk) (rows low high p : Plan) (one : ElementRule) (first second third : Shape) → IsThree rows low high p →
    StaysWithin asked walk rows first → StaysWithin asked walk low second → StaysWithin asked walk high third → StaysWithin asked walk p (ClampOf one first second third)

-- the tree of a function of a range's windows is over the series that its rules choose, and those of filters over it
abbrev pub WindowsStay : Type 0
WindowsStay =
    (asked : Asked) (walk : Walk) (p inner : Plan) (f : WindowFunction) (arguments : List Plan) (rules : List Rule) (moment : Moment) (range : Ms) (series : List ℕ) (own : WalkMoment) (scalar : Shape) →
    p.node ≡ node.Window f inner arguments → CostsAtMost asked rules moment range inner → AreThere asked.samples series → numbered asked.samples series ≡ passing asked.samples asked.kept rules →
    IsMomentOf asked moment own → own.closed ≡ moment.closed → StaysWithinAll asked walk arguments scalar → StaysWithin asked walk p (SeriesOf series f own range scalar)

-- that of windows which engines give costs what its scalar does, whatever rules the windows pass
abbrev pub GivenWindowsStay : Type 0
GivenWindowsStay =
    (asked : Asked) (walk : Walk) (p inner : Plan) (f : WindowFunction) (arguments : List Plan) (place : ℕ) (own : WalkMoment) (range : Ms) (rules : Option (List Rule)) (scalar : Shape) →
    p.node ≡ node.Window f inner arguments → StaysWithinAll asked walk arguments scalar → StaysWithin asked walk p (WindowsOf place f own range rules scalar)

-- that of a subquery's windows asks its inner tree at the inner instants
abbrev pub SubqueriesStay : Type 0
SubqueriesStay =
    (asked : Asked) (walk : Walk) (p inner q : Plan) (f : WindowFunction) (arguments : List Plan) (moment : Moment) (range step : Ms) (own : WalkMoment) (rows scalar : Shape) →
    p.node ≡ node.Window f inner arguments → inner.node ≡ node.Subquery q range step moment → IsMomentOf asked moment own → own.closed ≡ moment.closed → pos 0 <ℤ step.0 →
    StaysWithin asked (Multiples walk own range step) q rows → StaysWithinAll asked walk arguments scalar →
    StaysWithin asked walk p (PointsOf f (Multiples walk own range step) own range step rows scalar)

-- a walk begins at an instant; where it has none, that is the time 0
abbrev pub BeginsAt : Walk → Ms → Type 0
BeginsAt walk first = (at : List Ms) → IsListed walk at → first ≡ first_of at

-- what is computed once is asked at the first instant alone
abbrev pub OnceTreesStay : Type 0
OnceTreesStay =
    (asked : Asked) (walk : Walk) (c p : Plan) (first : Ms) (child : Shape) → p.node ≡ node.Once c → BeginsAt walk first → StaysWithin asked (Fixed first) c child → StaysWithin asked walk p (OnceOf first child)

-- ---- what is spent

-- counters that rose by at most the bound of a tree rose by at most that of its plan
abbrev pub SpendingStays : Type 0
SpendingStays =
    (asked : Asked) (walk : Walk) (p : Plan) (shape : Shape) (at : List Ms) (start now : Counts) → StaysWithin asked walk p shape → IsListed walk at →
    IsWithinBound asked.samples walk shape start now → RisesBy start now (plan_bound asked p at)
