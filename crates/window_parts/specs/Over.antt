-- What functions of windows stand over: range selectors or the inner instants of subqueries, and their scalars. (This project's own.)
use Rattle.std.specs.Prelude.{◌≡◌, ℤ, true, List, [], ◌∷◌, map, Option, None, Some, Result, IfOk, IsTrue, MatchResult, ⊤}
use Rattle.exchange.specs.declared.request.Request.{Request}
use Rattle.func_table.specs.declared.table.Window.{Window as WindowFunction}
use Rattle.frac_text.specs.Times.{time_limit}
use Rattle.logical_plan.specs.Lowering.{planned}
use Rattle.logical_plan.specs.PlanMeaning.{givens_at, plan_meaning, plan_meant}
use Rattle.logical_plan.specs.declared.nodes.Plan.{Plan}
use Rattle.logical_plan.specs.declared.nodes.PlanNode.TheVariants as node
use Rattle.logical_plan.specs.Validity.{measured}
use Rattle.match_rule.specs.Patterns.{HaveTheirPatterns}
use Rattle.op_labels.specs.Rules.{Kept}
use Rattle.op_window.specs.Rules.{takes_scalar}
use Rattle.plan_parts.specs.Courses.{IsLength, IsMomentWithin}
use Rattle.plan_serving.specs.Serving.{serving_over}
use Rattle.plan_parts.specs.Gathered.{IsQueryOver}
use Rattle.plan_parts.specs.Parts.{IsAskedIn, IsPart, IsSound, OncesStay}
use Rattle.plan_parts.specs.Requested.{AreAdded, AreMeant, EachAdded, HaveOwn, MayMake}
use Rattle.plan_parts.specs.declared.parts.Part.{Part}
use Rattle.plan_parts.specs.declared.unbuilt.Unbuilt.{Unbuilt}
use Rattle.plan_parts.specs.declared.unbuilt.Unbuilt.TheVariants.{Memory}
use Rattle.plan_tree.specs.Asking.{HaveRequests}
use Rattle.plan_tree.specs.Nodes.{shape_of}
use Rattle.plan_tree.specs.Shapes.{is_scalar, places_of, rule}
use Rattle.plan_tree.specs.Worlds.{Gathers, world}
use Rattle.plan_work.specs.PlanLaws.{CostsAtMost}
use Rattle.plan_work.specs.TreeBounds.{StaysWithinAll}
use Rattle.promql_ast.specs.Parts.{AreWithin}
use Rattle.promql_ast.specs.declared.tree.Moment.{Moment}
use Rattle.promql_meaning.specs.Meaning.{step_at, windowed_by}
use Rattle.promql_meaning.specs.Selecting.{Asked}
use Rattle.promql_meaning.specs.WalkMoments.{IsMomentOf}
use Rattle.promql_meaning.specs.declared.given.Windows.{Windows}
use Rattle.promql_type.specs.Kinds.{is_scalar as is_scalar_kind}
use Rattle.promql_type.specs.declared.kind.Kind.{Kind}
use Rattle.ticks.specs.Durations.{hundred_years}
use Rattle.ticks.specs.Listed.{IsListed}
use Rattle.ticks.specs.Walks.{IsInstant}
use Rattle.ticks.specs.declared.grid.Grid.{Grid}
use Rattle.ticks.specs.declared.moment.Ms.{Ms}
use Rattle.ticks.specs.declared.walk.Walk.{Walk}
use Rattle.window_parts.specs.declared.over.Subquery.{Subquery}
use Rattle.window_parts.specs.declared.selectors.RangeSelector.{RangeSelector}

-- ---- scalars

-- the part of the only argument beside the windows, or none where there is no argument
abbrev pub IsArgument : Asked → Walk → (before now : List Request) → List Plan → Option Part → Type 0
IsArgument asked walk before now [] None = before ≡ now
IsArgument asked walk before now (a ∷ []) (Some part) = IsPart asked walk before now a part
IsArgument asked walk before now arguments part = ⊥

-- where it is built
abbrev pub IsArgumentOf : Asked → Walk → (before now : List Request) → List Plan → Result (Option Part) Unbuilt → Type 0
IsArgumentOf asked walk before now arguments built = IfOk built (λ part. IsArgument asked walk before now arguments part)

-- the only argument is of a scalar or of a vector, as its kind says, or there is no argument
abbrev pub IsOfKinds : List Kind → Option Part → Type 0
IsOfKinds [] None = ⊤
IsOfKinds (kind ∷ []) (Some part) = part.scalar ≡ is_scalar_kind kind
IsOfKinds kinds part = ⊥

-- it is built so; the only error is want of memory
abbrev pub IsArgumentBuilt : List Kind → Result (Option Part) Unbuilt → Type 0
IsArgumentBuilt kinds built = MatchResult built (IsOfKinds kinds) (λ e. e ≡ Memory)

-- a request is for a part that engines are asked for in the only argument
abbrev pub IsOfArgument : List Plan → Request → Type 0
IsOfArgument arguments r = (a : Plan) × (arguments ≡ a ∷ []) × IsAskedIn r a

-- a part may stand for the scalar of a function: it may be fed, requests were added for its gathers, it is a scalar where the function
-- reads it, it costs at most what the argument does, and with it the function gives of any windows what it gives with the argument, if the
-- gathers give what those of the argument do and what stands below its Once nodes stays
pub record IsScalarOf (asked : Asked) (walk : Walk) (before now : List Request) (f : WindowFunction) (arguments : List Plan) (part : Part) : Type 0 where
  pub sound : IsSound asked.samples asked.kept walk part.tree
  pub added : AreAdded before now
  pub owns : HaveOwn before now (places_of (shape_of part.tree))
  pub asks : (times : List Ms) → IsListed walk times → HaveRequests now times part.tree
  pub named : EachAdded (IsOfArgument arguments) before now
  pub make : (span : Grid) → IsQueryOver span asked.kept asked → MayMake span asked.kept before now
  pub scalar : IsTrue (takes_scalar f) → IsTrue (is_scalar (shape_of part.tree))
  pub gives : (gathers : Gathers) → AreMeant asked now gathers → ((a : Plan) → arguments ≡ a ∷ [] → OncesStay asked a) → (t : ℤ) → IsInstant walk t → (windows : Windows)
      → windowed_by f t (rule (world asked.samples gathers) asked.kept (shape_of part.tree) t) windows ≡ windowed_by f t (step_at (givens_at (map (plan_meant asked) arguments) t) 0) windows
  pub within : StaysWithinAll asked walk arguments (shape_of part.tree)

-- ---- range selectors

-- a plan gives the windows of a range selector: what a range in its place gives
abbrev pub GivesRange : Asked → Plan → RangeSelector → Type 0
GivesRange asked p selector = (t : ℤ) → plan_meaning asked p t ≡ plan_meaning asked (planned p.at (node.Range selector.rules selector.moment selector.range)) t

-- and it costs at most what the plan does
pub record IsRangeOf (asked : Asked) (p : Plan) (selector : RangeSelector) : Type 0 where
  pub gives : GivesRange asked p selector
  pub within : CostsAtMost asked selector.rules selector.moment selector.range p

-- a plan gives the windows of a range selector, here or at engines, or of one under filters, whose times and length lie within the limits of
-- the language and whose patterns are kept, and kernels serve it
pub record IsRangePlan (kept : Kept) (p : Plan) : Type 0 where
  pub served : (serving_over p).served ≡ true
  pub ranges : (serving_over p).ranges ≡ true
  pub rules : HaveTheirPatterns kept (serving_over p).rules
  pub within : AreWithin (λ rules. ⊤) hundred_years time_limit (measured p).parts

-- those of a range selector do so, and its patterns are
pub record IsSelectorWithin (kept : Kept) (selector : RangeSelector) : Type 0 where
  pub rules : HaveTheirPatterns kept selector.rules
  pub timed : IsMomentWithin selector.moment
  pub long : IsLength selector.range

-- ---- subqueries

-- a subquery with this moment, range and step
pub record IsInside (asked : Asked) (moment : Moment) (range step : Ms) (inside : Subquery) : Type 0 where
  pub timed : IsMomentOf asked moment inside.moment
  pub closed : inside.moment.closed ≡ moment.closed
  pub range_is : inside.range ≡ range
  pub step_is : inside.step ≡ step
