-- What single nodes mean. (This project's own.)
use Rattle.std.proofs.Common.{◌≡◌, ◌∙◌, Bool, List, refl}
use Rattle.label_set.specs.declared.rules.Pairing.{Pairing}
use Rattle.label_set.specs.declared.rules.Rule.{Rule}
use Rattle.xfrac.specs.declared.value.PairOp.{PairOp}
use Rattle.promql_ast.specs.declared.tree.Moment.{Moment}
use Rattle.ticks.specs.declared.moment.Ms.{Ms}
use Rattle.promql_meaning.specs.Selecting.{Asked}
use Rattle.logical_plan.specs.declared.nodes.Plan.{Plan}
use Rattle.logical_plan.specs.declared.nodes.PlanNode.{PlanNode}
use Rattle.logical_plan.specs.declared.nodes.PlanNode.TheVariants as node
use Rattle.logical_plan.specs.declared.nodes.PlanNode.TheOpen.{PlanNode-F}
use Rattle.logical_plan.specs.declared.nodes.PlanNode.TheViews.{roll-PlanNode, outs-Select, outs-Range, outs-Filter, outs-Pair, outs-Ratio}
use Rattle.logical_plan.specs.declared.nodes.PlanNode.TheFolds.{fold_out-PlanNode, fold-roll-PlanNode, map-PlanNode}
use Rattle.logical_plan.specs.PlanMeaning.{Meant, node_meant, plan_meant}
use Rattle.plan_rewrite.specs.Rebuilding.{node_of}

module _ (asked : Asked) where
  pub at_select : (rules : List Rule) (moment : Moment) (stamped : Bool) → node_of asked (node.Select rules moment stamped) ≡ node_meant asked (PlanNode-F.Select rules moment stamped)
  at_select rules moment stamped = fold_out-PlanNode Meant Meant (node_meant asked) (λ p. p.node) (node.Select rules moment stamped) ∙ rw outs-Select refl

  pub at_range : (rules : List Rule) (moment : Moment) (range : Ms) → node_of asked (node.Range rules moment range) ≡ node_meant asked (PlanNode-F.Range rules moment range)
  at_range rules moment range = fold_out-PlanNode Meant Meant (node_meant asked) (λ p. p.node) (node.Range rules moment range) ∙ rw outs-Range refl

  pub at_filter : (base : Plan) (rules : List Rule) → node_of asked (node.Filter base rules) ≡ node_meant asked (PlanNode-F.Filter (plan_meant asked base) rules)
  at_filter base rules = fold_out-PlanNode Meant Meant (node_meant asked) (λ p. p.node) (node.Filter base rules) ∙ rw outs-Filter refl

  pub at_pair : (op : PairOp) (left right : Plan) (pairing : Pairing) → node_of asked (node.Pair op left right pairing) ≡ node_meant asked (PlanNode-F.Pair op (plan_meant asked left) (plan_meant asked right) pairing)
  at_pair op left right pairing = fold_out-PlanNode Meant Meant (node_meant asked) (λ p. p.node) (node.Pair op left right pairing) ∙ rw outs-Pair refl

  pub at_ratio : (sum count : Plan) → node_of asked (node.Ratio sum count) ≡ node_meant asked (PlanNode-F.Ratio (plan_meant asked sum) (plan_meant asked count))
  at_ratio sum count = fold_out-PlanNode Meant Meant (node_meant asked) (λ p. p.node) (node.Ratio sum count) ∙ rw outs-Ratio refl

  -- a node means what its kind makes of the meanings of its children
  pub rolled_means : (y : PlanNode-F PlanNode Plan) → node_of asked (roll-PlanNode y) ≡ node_meant asked (map-PlanNode PlanNode Plan Meant Meant (node_of asked) (plan_meant asked) y)
  rolled_means y = fold-roll-PlanNode Meant Meant (node_meant asked) (λ p. p.node) y
