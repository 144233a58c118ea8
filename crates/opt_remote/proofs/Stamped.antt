-- Selectors whose own times are read.
use Rattle.std.proofs.Common.{◌≡◌, ◌∙◌, List, ap, sym, Bool, true, false}
use Rattle.label_set.specs.declared.rules.Rule.{Rule}
use Rattle.promql_ast.specs.declared.tree.Moment.{Moment}
use Rattle.logical_plan.specs.declared.nodes.Plan.{Plan}
use Rattle.logical_plan.specs.declared.nodes.PlanNode.{PlanNode}
use Rattle.logical_plan.specs.declared.nodes.PlanNode.TheVariants as node
use Rattle.logical_plan.specs.declared.nodes.PlanNode.TheOpen.{PlanNode-F}
use Rattle.logical_plan.specs.declared.nodes.PlanNode.TheViews.{out-PlanNode, roll-PlanNode, roll-out-PlanNode}
use Rattle.opt_remote.specs.Gathering.{is_stamped_selector}

-- the node of a plan whose kind is known
node_is : (p : Plan) (y : PlanNode-F PlanNode Plan) → out-PlanNode p.node ≡ y → p.node ≡ roll-PlanNode y
node_is p y is = sym (roll-out-PlanNode p.node) ∙ ap roll-PlanNode is

pub select_is : (p : Plan) (rules : List Rule) (moment : Moment) (stamped : Bool) → out-PlanNode p.node ≡ PlanNode-F.Select rules moment stamped → p.node ≡ node.Select rules moment stamped
unfolding roll-PlanNode denote.Hole.Carrier.roll
select_is p rules moment stamped is = node_is p (PlanNode-F.Select rules moment stamped) is

-- what holds of a selector whose own times are read, and of each other node
pub by_stamp : (P : PlanNode-F PlanNode Plan → Bool → Type 0) (y : PlanNode-F PlanNode Plan)
    → ((rules : List Rule) (moment : Moment) → P (PlanNode-F.Select rules moment true) true) → ((x : PlanNode-F PlanNode Plan) → P x false) → P y (is_stamped_selector y)
by_stamp P (PlanNode-F.Select rules moment true) stamped others = stamped rules moment
by_stamp P (PlanNode-F.Select rules moment false) stamped others = others _
by_stamp P (PlanNode-F.Number value) stamped others = others _
by_stamp P PlanNode-F.Time stamped others = others _
by_stamp P (PlanNode-F.Range rules moment range) stamped others = others _
by_stamp P (PlanNode-F.Subquery below range step moment) stamped others = others _
by_stamp P (PlanNode-F.Element f below arguments) stamped others = others _
by_stamp P (PlanNode-F.Stamp below) stamped others = others _
by_stamp P (PlanNode-F.Window f below arguments) stamped others = others _
by_stamp P (PlanNode-F.Absent labels below) stamped others = others _
by_stamp P (PlanNode-F.Buckets quantile below) stamped others = others _
by_stamp P (PlanNode-F.Relabel rule below) stamped others = others _
by_stamp P (PlanNode-F.Sort down below) stamped others = others _
by_stamp P (PlanNode-F.ScalarOf below) stamped others = others _
by_stamp P (PlanNode-F.VectorOf below) stamped others = others _
by_stamp P (PlanNode-F.Group f by arguments label) stamped others = others _
by_stamp P (PlanNode-F.Pair op left right pairing) stamped others = others _
by_stamp P (PlanNode-F.Set op left right pairing) stamped others = others _
by_stamp P (PlanNode-F.Filter base rules) stamped others = others _
by_stamp P (PlanNode-F.Ratio sum count) stamped others = others _
by_stamp P (PlanNode-F.Once below) stamped others = others _
by_stamp P (PlanNode-F.Gather expr kind numbers) stamped others = others _
