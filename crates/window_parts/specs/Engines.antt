-- Plans that are parts which engines are asked for as windows, or stand under filters. (This project's own.)
use Rattle.std.specs.Prelude.{◌≡◌, ◌++◌, ◌<ℤ◌, ℕ, ℤ, pos, List, [], Option, None, Some, IfSome, IsTrue}
use Rattle.exchange.specs.Requests.{AreRising}
use Rattle.label_set.specs.declared.rules.Rule.{Rule}
use Rattle.logical_plan.specs.declared.nodes.Plan.{Plan}
use Rattle.logical_plan.specs.declared.nodes.PlanNode.TheVariants as node
use Rattle.match_rule.specs.Patterns.{HaveTheirPatterns}
use Rattle.op_labels.specs.Rules.{Kept}
use Rattle.plan_parts.specs.Courses.{IsLength, IsMomentWithin}
use Rattle.plan_serving.specs.Asking.{RangeAsked, asked_range, is_rising}
use Rattle.promql_ast.specs.declared.tree.Expr.{Expr}
use Rattle.promql_meaning.specs.Selecting.{asked_over}
use Rattle.promql_meaning.specs.WalkMoments.{IsMomentOf}
use Rattle.remote_api.specs.declared.asks.Part.{Part}
use Rattle.step_table.specs.declared.cells.PartKind.{PartKind}
use Rattle.ticks.specs.Walks.{HasTimes, IsInstant, moment_at}
use Rattle.ticks.specs.declared.grid.Grid.{Grid}
use Rattle.ticks.specs.declared.moment.Ms.{Ms}
use Rattle.ticks.specs.declared.walk.Walk.{Walk}
use Rattle.ticks.specs.declared.walk.WalkMoment.{WalkMoment}
use Rattle.window_parts.specs.declared.asked.Gathering.{Gathering}

-- ---- parts under filters

-- a plan is a part that engines are asked for, or a filter over such a plan
pub data IsGathered : Plan → Type 0 where
  itself : (p : Plan) (expr : Expr) (kind : PartKind) (engines : List ℕ) → p.node ≡ node.Gather expr kind engines → IsGathered p
  under : (p base : Plan) (rules : List Rule) → p.node ≡ node.Filter base rules → IsGathered base → IsGathered p

-- some rules, if there are any, and those of a filter behind them
abbrev pub with_rules : Option (List Rule) → List Rule → List Rule
with_rules None more = more
with_rules (Some rules) more = rules ++ more

-- a plan is the part that some engines are asked for, or filters over it that have these rules together
pub data IsGatherUnder (part : Part) (engines : List ℕ) : Option (List Rule) → Plan → Type 0 where
  itself : (rules : Option (List Rule)) (p : Plan) → p.node ≡ node.Gather part.expr part.kind engines → rules ≡ None → IsGatherUnder part engines rules p
  under : (rules own : Option (List Rule)) (p base : Plan) (more : List Rule) → p.node ≡ node.Filter base more → rules ≡ Some (with_rules own more) → IsGatherUnder part engines own base → IsGatherUnder part engines rules p

-- ---- what is asked for

-- windows of a range selector are asked for, of engines whose numbers rise; its times and its length lie within the limits of the
-- language, and its patterns and those of the filters are kept
pub record IsGatheringWithin (kept : Kept) (g : Gathering) : Type 0 where
  pub asked : RangeAsked
  pub asks : asked_range g.part.kind g.part.expr ≡ Some asked
  pub rising : IsTrue (is_rising g.asked)
  pub rules : HaveTheirPatterns kept asked.selector.rules
  pub passing : IfSome g.rules (HaveTheirPatterns kept)
  pub timed : IsMomentWithin asked.selector.moment
  pub long : IsLength asked.range

-- they are of this range and end at this moment, within the times at each instant of a walk, and the selector's patterns are kept
pub record AreAskable (kept : Kept) (span : Grid) (walk : Walk) (g : Gathering) (moment : WalkMoment) (range : Ms) : Type 0 where
  pub asked : RangeAsked
  pub asks : asked_range g.part.kind g.part.expr ≡ Some asked
  pub reaches : asked.range ≡ range
  pub rising : AreRising g.asked
  pub rules : HaveTheirPatterns kept asked.selector.rules
  pub timed : IsMomentOf (asked_over [] kept span) asked.selector.moment moment
  pub closed : moment.closed ≡ asked.selector.moment.closed
  pub forward : pos 0 <ℤ range.0
  pub times : (t : ℤ) → IsInstant walk t → HasTimes (moment_at moment t) range.0
