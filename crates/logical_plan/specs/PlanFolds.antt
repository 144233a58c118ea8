-- What a fold over a plan makes of each kind of node, for every fold. Proofs about a fold rest on these equations.
use Rattle.std.proofs.Common.{◌≡◌, ◌∙◌, ℕ, List, map, ap, refl, Bool}
use Rattle.std.specs.Prelude.{Option}
use Rattle.func_table.specs.declared.table.Element.{Element as ElementFunction}
use Rattle.func_table.specs.declared.table.Window.{Window as WindowFunction}
use Rattle.func_table.specs.declared.table.Aggregate.{Aggregate as AggregateFunction}
use Rattle.func_table.specs.declared.table.SetOp.{SetOp}
use Rattle.label_set.specs.declared.rules.Grouping.{Grouping}
use Rattle.label_set.specs.declared.rules.Pairing.{Pairing}
use Rattle.label_set.specs.declared.rules.Rule.{Rule}
use Rattle.promql_ast.specs.declared.tree.Expr.{Expr}
use Rattle.promql_ast.specs.declared.tree.Moment.{Moment}
use Rattle.step_table.specs.Groups.{Names}
use Rattle.step_table.specs.declared.cells.PartKind.{PartKind}
use Rattle.ticks.specs.declared.moment.Ms.{Ms}
use Rattle.xfrac.specs.declared.value.PairOp.{PairOp}
use Rattle.xfrac.specs.declared.value.XFrac.{XFrac}
use Rattle.logical_plan.specs.declared.nodes.Plan.{Plan}
use Rattle.label_set.specs.declared.rules.Relabel.{Relabel as Relabelling}
use Rattle.logical_plan.specs.declared.nodes.PlanNode.{PlanNode}
use Rattle.logical_plan.specs.declared.nodes.PlanNode.TheVariants as node
use Rattle.logical_plan.specs.declared.nodes.PlanNode.TheOpen.{PlanNode-F, Plan-F}
use Rattle.logical_plan.specs.declared.nodes.PlanNode.TheViews.{out-PlanNode, roll-Plan, outs-Number, outs-Time, outs-Select, outs-Range, outs-Subquery, outs-Element, outs-Stamp, outs-Window, outs-Absent, outs-Buckets, outs-Relabel, outs-Sort, outs-ScalarOf, outs-VectorOf, outs-Group, outs-Pair, outs-Set, outs-Filter, outs-Ratio, outs-Once, outs-Gather}
use Rattle.logical_plan.specs.declared.nodes.PlanNode.TheFolds.{fold-Plan, fold-PlanNode, fold_out-Plan, fold_out-PlanNode, map-PlanNode, fold-roll-Plan}

module _ {A B : Type 0} (node_step : PlanNode-F A B → A) (plan_step : Plan-F A B → B) where
  abbrev pub of : Plan → B
  of = fold-Plan A B node_step plan_step

  abbrev pub at_node : PlanNode → A
  at_node = fold-PlanNode A B node_step plan_step

  -- the result of a plan at a place, from what its node gives
  abbrev pub made : ℕ → A → B
  made place result = plan_step (record { at = place; node = result })

  pub rolled : (at : ℕ) (n : PlanNode) → of (roll-Plan (record { at = at; node = n })) ≡ made at (at_node n)
  rolled at n = fold-roll-Plan A B node_step plan_step (record { at = at; node = n })

  -- a node with what a fold makes of each child in the child's place
  abbrev pub layer_of : Plan → PlanNode-F A B
  layer_of p = map-PlanNode PlanNode Plan A B at_node of (out-PlanNode p.node)

  -- the result of any plan
  pub by_node : (p : Plan) → of p ≡ made p.at (node_step (layer_of p))
  by_node p = fold_out-Plan A B node_step plan_step p ∙ ap (made p.at) (fold_out-PlanNode A B node_step plan_step p.node)

  pub of-Number : (at : ℕ) (value : XFrac) → of (roll-Plan (record { at = at; node = node.Number value })) ≡ made at (node_step (PlanNode-F.Number value))
  of-Number at value = rolled at (node.Number value) ∙ ap (made at) (fold_out-PlanNode A B node_step plan_step (node.Number value) ∙ rw outs-Number refl)

  pub of-Time : (at : ℕ) → of (roll-Plan (record { at = at; node = node.Time })) ≡ made at (node_step (PlanNode-F.Time))
  of-Time at = rolled at (node.Time) ∙ ap (made at) (fold_out-PlanNode A B node_step plan_step (node.Time) ∙ rw outs-Time refl)

  pub of-Select : (at : ℕ) (rules : List Rule) (moment : Moment) (stamped : Bool) → of (roll-Plan (record { at = at; node = node.Select rules moment stamped })) ≡ made at (node_step (PlanNode-F.Select rules moment stamped))
  of-Select at rules moment stamped = rolled at (node.Select rules moment stamped) ∙ ap (made at) (fold_out-PlanNode A B node_step plan_step (node.Select rules moment stamped) ∙ rw outs-Select refl)

  pub of-Range : (at : ℕ) (rules : List Rule) (moment : Moment) (range : Ms) → of (roll-Plan (record { at = at; node = node.Range rules moment range })) ≡ made at (node_step (PlanNode-F.Range rules moment range))
  of-Range at rules moment range = rolled at (node.Range rules moment range) ∙ ap (made at) (fold_out-PlanNode A B node_step plan_step (node.Range rules moment range) ∙ rw outs-Range refl)

  pub of-Subquery : (at : ℕ) (inner : Plan) (range : Ms) (step : Ms) (moment : Moment) → of (roll-Plan (record { at = at; node = node.Subquery inner range step moment })) ≡ made at (node_step (PlanNode-F.Subquery (of inner) range step moment))
  of-Subquery at inner range step moment = rolled at (node.Subquery inner range step moment) ∙ ap (made at) (fold_out-PlanNode A B node_step plan_step (node.Subquery inner range step moment) ∙ rw outs-Subquery refl)

  pub of-Element : (at : ℕ) (f : ElementFunction) (inner : Plan) (arguments : List Plan) → of (roll-Plan (record { at = at; node = node.Element f inner arguments })) ≡ made at (node_step (PlanNode-F.Element f (of inner) (map of arguments)))
  of-Element at f inner arguments = rolled at (node.Element f inner arguments) ∙ ap (made at) (fold_out-PlanNode A B node_step plan_step (node.Element f inner arguments) ∙ rw outs-Element refl)

  pub of-Stamp : (at : ℕ) (inner : Plan) → of (roll-Plan (record { at = at; node = node.Stamp inner })) ≡ made at (node_step (PlanNode-F.Stamp (of inner)))
  of-Stamp at inner = rolled at (node.Stamp inner) ∙ ap (made at) (fold_out-PlanNode A B node_step plan_step (node.Stamp inner) ∙ rw outs-Stamp refl)

  pub of-Window : (at : ℕ) (f : WindowFunction) (inner : Plan) (arguments : List Plan) → of (roll-Plan (record { at = at; node = node.Window f inner arguments })) ≡ made at (node_step (PlanNode-F.Window f (of inner) (map of arguments)))
  of-Window at f inner arguments = rolled at (node.Window f inner arguments) ∙ ap (made at) (fold_out-PlanNode A B node_step plan_step (node.Window f inner arguments) ∙ rw outs-Window refl)

  pub of-Absent : (at : ℕ) (labels : Option Names) (inner : Plan) → of (roll-Plan (record { at = at; node = node.Absent labels inner })) ≡ made at (node_step (PlanNode-F.Absent labels (of inner)))
  of-Absent at labels inner = rolled at (node.Absent labels inner) ∙ ap (made at) (fold_out-PlanNode A B node_step plan_step (node.Absent labels inner) ∙ rw outs-Absent refl)

  pub of-Buckets : (at : ℕ) (quantile : Plan) (inner : Plan) → of (roll-Plan (record { at = at; node = node.Buckets quantile inner })) ≡ made at (node_step (PlanNode-F.Buckets (of quantile) (of inner)))
  of-Buckets at quantile inner = rolled at (node.Buckets quantile inner) ∙ ap (made at) (fold_out-PlanNode A B node_step plan_step (node.Buckets quantile inner) ∙ rw outs-Buckets refl)

  pub of-Relabel : (at : ℕ) (rule : Relabelling) (inner : Plan) → of (roll-Plan (record { at = at; node = node.Relabel rule inner })) ≡ made at (node_step (PlanNode-F.Relabel rule (of inner)))
  of-Relabel at rule inner = rolled at (node.Relabel rule inner) ∙ ap (made at) (fold_out-PlanNode A B node_step plan_step (node.Relabel rule inner) ∙ rw outs-Relabel refl)

  pub of-Sort : (at : ℕ) (down : Bool) (inner : Plan) → of (roll-Plan (record { at = at; node = node.Sort down inner })) ≡ made at (node_step (PlanNode-F.Sort down (of inner)))
  of-Sort at down inner = rolled at (node.Sort down inner) ∙ ap (made at) (fold_out-PlanNode A B node_step plan_step (node.Sort down inner) ∙ rw outs-Sort refl)

  pub of-ScalarOf : (at : ℕ) (inner : Plan) → of (roll-Plan (record { at = at; node = node.ScalarOf inner })) ≡ made at (node_step (PlanNode-F.ScalarOf (of inner)))
  of-ScalarOf at inner = rolled at (node.ScalarOf inner) ∙ ap (made at) (fold_out-PlanNode A B node_step plan_step (node.ScalarOf inner) ∙ rw outs-ScalarOf refl)

  pub of-VectorOf : (at : ℕ) (inner : Plan) → of (roll-Plan (record { at = at; node = node.VectorOf inner })) ≡ made at (node_step (PlanNode-F.VectorOf (of inner)))
  of-VectorOf at inner = rolled at (node.VectorOf inner) ∙ ap (made at) (fold_out-PlanNode A B node_step plan_step (node.VectorOf inner) ∙ rw outs-VectorOf refl)

  pub of-Group : (at : ℕ) (f : AggregateFunction) (by : Grouping) (arguments : List Plan) (label : List ℕ) → of (roll-Plan (record { at = at; node = node.Group f by arguments label })) ≡ made at (node_step (PlanNode-F.Group f by (map of arguments) label))
  of-Group at f by arguments label = rolled at (node.Group f by arguments label) ∙ ap (made at) (fold_out-PlanNode A B node_step plan_step (node.Group f by arguments label) ∙ rw outs-Group refl)

  pub of-Pair : (at : ℕ) (op : PairOp) (left : Plan) (right : Plan) (pairing : Pairing) → of (roll-Plan (record { at = at; node = node.Pair op left right pairing })) ≡ made at (node_step (PlanNode-F.Pair op (of left) (of right) pairing))
  of-Pair at op left right pairing = rolled at (node.Pair op left right pairing) ∙ ap (made at) (fold_out-PlanNode A B node_step plan_step (node.Pair op left right pairing) ∙ rw outs-Pair refl)

  pub of-Set : (at : ℕ) (op : SetOp) (left : Plan) (right : Plan) (pairing : Pairing) → of (roll-Plan (record { at = at; node = node.Set op left right pairing })) ≡ made at (node_step (PlanNode-F.Set op (of left) (of right) pairing))
  of-Set at op left right pairing = rolled at (node.Set op left right pairing) ∙ ap (made at) (fold_out-PlanNode A B node_step plan_step (node.Set op left right pairing) ∙ rw outs-Set refl)

  pub of-Filter : (at : ℕ) (base : Plan) (rules : List Rule) → of (roll-Plan (record { at = at; node = node.Filter base rules })) ≡ made at (node_step (PlanNode-F.Filter (of base) rules))
  of-Filter at base rules = rolled at (node.Filter base rules) ∙ ap (made at) (fold_out-PlanNode A B node_step plan_step (node.Filter base rules) ∙ rw outs-Filter refl)

  pub of-Ratio : (at : ℕ) (sum : Plan) (count : Plan) → of (roll-Plan (record { at = at; node = node.Ratio sum count })) ≡ made at (node_step (PlanNode-F.Ratio (of sum) (of count)))
  of-Ratio at sum count = rolled at (node.Ratio sum count) ∙ ap (made at) (fold_out-PlanNode A B node_step plan_step (node.Ratio sum count) ∙ rw outs-Ratio refl)

  pub of-Once : (at : ℕ) (inner : Plan) → of (roll-Plan (record { at = at; node = node.Once inner })) ≡ made at (node_step (PlanNode-F.Once (of inner)))
  of-Once at inner = rolled at (node.Once inner) ∙ ap (made at) (fold_out-PlanNode A B node_step plan_step (node.Once inner) ∙ rw outs-Once refl)

  pub of-Gather : (at : ℕ) (expr : Expr) (kind : PartKind) (engines : List ℕ) → of (roll-Plan (record { at = at; node = node.Gather expr kind engines })) ≡ made at (node_step (PlanNode-F.Gather expr kind engines))
  of-Gather at expr kind engines = rolled at (node.Gather expr kind engines) ∙ ap (made at) (fold_out-PlanNode A B node_step plan_step (node.Gather expr kind engines) ∙ rw outs-Gather refl)
