-- What builders of trees rely on: the bounds of plans add up over their nodes as those of trees do over their shapes. (This project's
-- own.)
use Rattle.std.specs.Prelude.{◌≡◌, ◌≤◌, ◌<ℤ◌, ◌≤ℤ◌, ◌++◌, ◌⊎◌, ℕ, ℤ, pos, Bool, List, [], ◌∷◌, Option}
use Rattle.func_table.specs.declared.table.Aggregate.{Aggregate}
use Rattle.func_table.specs.declared.table.Element.{Element}
use Rattle.func_table.specs.declared.table.SetOp.{SetOp}
use Rattle.func_table.specs.declared.table.Window.{Window as WindowFunction}
use Rattle.label_set.specs.declared.rules.Grouping.{Grouping}
use Rattle.label_set.specs.declared.rules.Pairing.{Pairing}
use Rattle.label_set.specs.declared.rules.Relabel.{Relabel as Relabelling}
use Rattle.label_set.specs.declared.rules.Rule.{Rule}
use Rattle.logical_plan.specs.declared.nodes.Plan.{Plan}
use Rattle.logical_plan.specs.declared.nodes.PlanNode.TheVariants as node
use Rattle.plan_tree.specs.Spending.{IsAtMost, both, leaf_bound, nothing}
use Rattle.promql_ast.specs.declared.tree.Moment.{Moment}
use Rattle.promql_meaning.specs.Selecting.{Asked, Samples, passing}
use Rattle.promql_meaning.specs.WalkMoments.{IsMomentOf}
use Rattle.series_marks.specs.Reaches.{AreThere, numbered}
use Rattle.series_marks.specs.Reads.{span_bound}
use Rattle.step_table.specs.Groups.{Names}
use Rattle.ticks.specs.Listed.{IsListed}
use Rattle.ticks.specs.declared.moment.Ms.{Ms}
use Rattle.ticks.specs.declared.walk.Walk.{Walk}
use Rattle.ticks.specs.declared.walk.Walk.TheVariants.{Multiples}
use Rattle.ticks.specs.declared.walk.WalkMoment.{WalkMoment}
use Rattle.xfrac.specs.declared.value.PairOp.{PairOp}
use Rattle.xfrac.specs.declared.value.XFrac.{XFrac}
use Rattle.plan_work.specs.PlanBounds.{arguments_bound, first_alone, inner_times, plan_bound, selector_bound}

-- ---- nodes

-- a node that reads no series
pub data IsBare (p : Plan) : Type 0 where
  of_number : (value : XFrac) → p.node ≡ node.Number value → IsBare p
  of_time : p.node ≡ node.Time → IsBare p

-- a node over one child
pub data IsOver (c p : Plan) : Type 0 where
  of_stamp : p.node ≡ node.Stamp c → IsOver c p
  of_absent : (labels : Option Names) → p.node ≡ node.Absent labels c → IsOver c p
  of_relabel : (rule : Relabelling) → p.node ≡ node.Relabel rule c → IsOver c p
  of_sort : (down : Bool) → p.node ≡ node.Sort down c → IsOver c p
  of_scalar : p.node ≡ node.ScalarOf c → IsOver c p
  of_vector : p.node ≡ node.VectorOf c → IsOver c p
  of_filter : (rules : List Rule) → p.node ≡ node.Filter c rules → IsOver c p
  of_element : (f : Element) → p.node ≡ node.Element f c [] → IsOver c p
  of_group : (f : Aggregate) (by : Grouping) (label : List ℕ) → p.node ≡ node.Group f by (c ∷ []) label → IsOver c p

-- a node over two children
pub data IsBeside (left right p : Plan) : Type 0 where
  of_buckets : p.node ≡ node.Buckets left right → IsBeside left right p
  of_pair : (op : PairOp) (pairing : Pairing) → p.node ≡ node.Pair op left right pairing → IsBeside left right p
  of_set : (op : SetOp) (pairing : Pairing) → p.node ≡ node.Set op left right pairing → IsBeside left right p
  of_ratio : p.node ≡ node.Ratio left right → IsBeside left right p
  of_argument : (f : Element) → p.node ≡ node.Element f left (right ∷ []) → IsBeside left right p
  of_parameter : (f : Aggregate) (by : Grouping) (label : List ℕ) → p.node ≡ node.Group f by (left ∷ right ∷ []) label → IsBeside left right p

-- in either order
abbrev pub AreBeside : (left right p : Plan) → Type 0
AreBeside left right p = IsBeside left right p ⊎ IsBeside right left p

-- a function of rows with two arguments
pub data IsThree (rows low high p : Plan) : Type 0 where
  of_arguments : (f : Element) → p.node ≡ node.Element f rows (low ∷ high ∷ []) → IsThree rows low high p

-- what a node costs, from what its children do
abbrev pub NoSelectorCostsNothing : Type 0
NoSelectorCostsNothing = (asked : Asked) (p : Plan) (at : List Ms) → IsBare p → plan_bound asked p at ≡ nothing

abbrev pub OversCostTheSame : Type 0
OversCostTheSame = (asked : Asked) (c p : Plan) (at : List Ms) → IsOver c p → plan_bound asked p at ≡ plan_bound asked c at

abbrev pub BesidesAddUp : Type 0
BesidesAddUp = (asked : Asked) (left right p : Plan) (at : List Ms) → IsBeside left right p → plan_bound asked p at ≡ both (plan_bound asked left at) (plan_bound asked right at)

abbrev pub ThreesAddUp : Type 0
ThreesAddUp =
    (asked : Asked) (rows low high p : Plan) (at : List Ms) → IsThree rows low high p → plan_bound asked p at ≡ both (plan_bound asked rows at) (both (plan_bound asked low at) (plan_bound asked high at))

-- a function of windows costs what these and its arguments do
abbrev pub WindowsAddUp : Type 0
WindowsAddUp =
    (asked : Asked) (p inner : Plan) (f : WindowFunction) (arguments : List Plan) (at : List Ms) → p.node ≡ node.Window f inner arguments →
    plan_bound asked p at ≡ both (plan_bound asked inner at) (arguments_bound asked arguments at)

-- a subquery costs what its inner expression does at the inner instants
abbrev pub SubqueriesCostInside : Type 0
SubqueriesCostInside =
    (asked : Asked) (p q : Plan) (moment : Moment) (range step : Ms) (at : List Ms) → p.node ≡ node.Subquery q range step moment →
    plan_bound asked p at ≡ plan_bound asked q (inner_times asked moment range step at)

-- what is computed once costs what it does at the first instant
abbrev pub OncesCostOnce : Type 0
OncesCostOnce = (asked : Asked) (c p : Plan) (at : List Ms) → p.node ≡ node.Once c → plan_bound asked p at ≡ plan_bound asked c (first_alone at)

-- ---- leaves

-- a leaf over the series that pass a selector's rules costs what the selector does
abbrev pub LeavesCostAsSelectors : Type 0
LeavesCostAsSelectors =
    (back : ℤ) (asked : Asked) (rules : List Rule) (moment : Moment) (own : WalkMoment) (series : List ℕ) (at : List Ms) →
    AreThere asked.samples series → numbered asked.samples series ≡ passing asked.samples asked.kept rules → IsMomentOf asked moment own → own.closed ≡ moment.closed →
    leaf_bound back asked.samples series own at ≡ selector_bound back asked rules moment at

-- ---- range selectors

-- a selector costs at most what a plan does, at any instants
abbrev pub CostsAtMost : Asked → (rules : List Rule) → Moment → (range : Ms) → Plan → Type 0
CostsAtMost asked rules moment range p = (at : List Ms) → IsAtMost (selector_bound range.0 asked rules moment at) (plan_bound asked p at)

-- as that of a range does, and with more rules it costs no more
abbrev pub RangesCostAsSelectors : Type 0
RangesCostAsSelectors = (asked : Asked) (p : Plan) (rules : List Rule) (moment : Moment) (range : Ms) → p.node ≡ node.Range rules moment range → CostsAtMost asked rules moment range p

abbrev pub FiltersCostNoMore : Type 0
FiltersCostNoMore =
    (asked : Asked) (p base : Plan) (rules more : List Rule) (moment : Moment) (range : Ms) → p.node ≡ node.Filter base more → CostsAtMost asked rules moment range base →
    CostsAtMost asked (rules ++ more) moment range p

-- ---- spans

-- a span that begins no later and ends no earlier costs no less
abbrev pub SpansRise : Type 0
SpansRise = (first last from to : ℤ) (samples : Samples) → from ≤ℤ first → last ≤ℤ to → from <ℤ to → span_bound first last samples ≤ span_bound from to samples

-- ---- inner instants

-- the instants of a subquery's walk, where its step is positive and its moment that of the walk
abbrev pub InnerTimesAreListed : Type 0
InnerTimesAreListed =
    (asked : Asked) (walk : Walk) (at : List Ms) (moment : Moment) (own : WalkMoment) (range step : Ms) → IsListed walk at →
    IsMomentOf asked moment own → own.closed ≡ moment.closed → pos 0 <ℤ step.0 → IsListed (Multiples walk own range step) (inner_times asked moment range step at)
