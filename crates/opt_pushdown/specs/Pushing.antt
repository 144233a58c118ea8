-- A filter over a selector as one selector. (Filters are pushed down as in any query planner; where, is this project's own.)
use Rattle.std.specs.Prelude.{List, ◌++◌, Option, None, Some, false, unwrap_or}
use Rattle.label_set.specs.declared.rules.Rule.{Rule}
use Rattle.logical_plan.specs.declared.nodes.Plan.{Plan}
use Rattle.logical_plan.specs.declared.nodes.PlanNode.{PlanNode}
use Rattle.logical_plan.specs.declared.nodes.PlanNode.TheVariants.{Filter, Range, Select}
use Rattle.logical_plan.specs.declared.nodes.PlanNode.TheOpen.{PlanNode-F}
use Rattle.logical_plan.specs.declared.nodes.PlanNode.TheViews.{out-PlanNode, roll-PlanNode}
use Rattle.plan_rewrite.specs.Rebuilding.{Change}

-- a selector that has more rules too, behind its own; one whose own times are read takes no more, and other nodes are none
abbrev pub selector_with : List Rule → PlanNode-F PlanNode Plan → Option PlanNode
selector_with more (PlanNode-F.Select rules moment false) = Some (Select (rules ++ more) moment false)
selector_with more (PlanNode-F.Range rules moment range) = Some (Range (rules ++ more) moment range)
selector_with more y = None

-- a filter over a selector becomes the selector that has the filter's rules too; no other node changes
abbrev pub push_filter : Change
push_filter at (PlanNode-F.Filter base rules) = unwrap_or (selector_with rules (out-PlanNode base.node)) (Filter base rules)
push_filter at y = roll-PlanNode y
