-- Measures of plans add up over their nodes.
use Rattle.std.proofs.Common.{◌≡◌, ◌∙◌, Bool, List, [], ◌∷◌, ap}
use Rattle.func_table.specs.declared.table.Window.{Window as WindowFunction}
use Rattle.label_set.specs.declared.rules.Rule.{Rule}
use Rattle.logical_plan.specs.Lowering.{planned}
use Rattle.logical_plan.specs.PlanFolds.{of-Number, of-Time, of-Select, of-Range, of-Subquery, of-Element, of-Group, of-Stamp, of-Window, of-Absent, of-Buckets, of-Relabel, of-Sort, of-ScalarOf, of-VectorOf, of-Pair, of-Set, of-Filter, of-Ratio, of-Once}
use Rattle.logical_plan.specs.declared.nodes.Plan.{Plan}
use Rattle.logical_plan.specs.declared.nodes.PlanNode.{PlanNode}
use Rattle.logical_plan.specs.declared.nodes.PlanNode.TheVariants as node
use Rattle.promql_ast.specs.declared.tree.Moment.{Moment}
use Rattle.promql_meaning.specs.Selecting.{lookback}
use Rattle.ticks.specs.declared.moment.Ms.{Ms}
use Rattle.plan_work.specs.Measures.{Measure, arguments_measure, node_measure, plan_measure}
use Rattle.plan_work.specs.PlanLaws.{IsBare, IsBeside, IsOver, IsThree, of_absent, of_argument, of_arguments, of_buckets, of_element, of_filter, of_group, of_number, of_pair, of_parameter, of_ratio, of_relabel, of_scalar, of_set, of_sort, of_stamp, of_time, of_vector}

module _ {X : Type 0} (m : Measure X) where
  there : (p : Plan) (n : PlanNode) → p.node ≡ n → plan_measure m p ≡ plan_measure m (planned p.at n)
  there p n e = ap (λ (k : PlanNode). plan_measure m (planned p.at k)) e

  pub bare : (p : Plan) → IsBare p → plan_measure m p ≡ m.none
  bare p (of_number value e) = there p (node.Number value) e ∙ of-Number (node_measure m) (λ q. q.node) p.at value
  bare p (of_time e) = there p node.Time e ∙ of-Time (node_measure m) (λ q. q.node) p.at

  pub selector : (p : Plan) (rules : List Rule) (moment : Moment) (stamped : Bool) → p.node ≡ node.Select rules moment stamped → plan_measure m p ≡ m.selector lookback rules moment
  selector p rules moment stamped e = there p (node.Select rules moment stamped) e ∙ of-Select (node_measure m) (λ q. q.node) p.at rules moment stamped

  pub range_selector : (p : Plan) (rules : List Rule) (moment : Moment) (range : Ms) → p.node ≡ node.Range rules moment range → plan_measure m p ≡ m.selector range.0 rules moment
  range_selector p rules moment range e = there p (node.Range rules moment range) e ∙ of-Range (node_measure m) (λ q. q.node) p.at rules moment range

  pub subquery : (p q : Plan) (moment : Moment) (range step : Ms) → p.node ≡ node.Subquery q range step moment → plan_measure m p ≡ m.inside moment range step (plan_measure m q)
  subquery p q moment range step e = there p (node.Subquery q range step moment) e ∙ of-Subquery (node_measure m) (λ r. r.node) p.at q range step moment

  pub once : (c p : Plan) → p.node ≡ node.Once c → plan_measure m p ≡ m.once (plan_measure m c)
  once c p e = there p (node.Once c) e ∙ of-Once (node_measure m) (λ q. q.node) p.at c

  pub window : (p inner : Plan) (f : WindowFunction) (arguments : List Plan) → p.node ≡ node.Window f inner arguments → plan_measure m p ≡ m.beside (plan_measure m inner) (arguments_measure m arguments)
  window p inner f arguments e = there p (node.Window f inner arguments) e ∙ of-Window (node_measure m) (λ q. q.node) p.at f inner arguments

  -- where a part beside one without selectors has what it has alone
  module _ (alone : (x : X) → m.beside x m.none ≡ x) where
    pub over : (c p : Plan) → IsOver c p → plan_measure m p ≡ plan_measure m c
    over c p (of_stamp e) = there p (node.Stamp c) e ∙ of-Stamp (node_measure m) (λ q. q.node) p.at c
    over c p (of_absent labels e) = there p (node.Absent labels c) e ∙ of-Absent (node_measure m) (λ q. q.node) p.at labels c
    over c p (of_relabel rule e) = there p (node.Relabel rule c) e ∙ of-Relabel (node_measure m) (λ q. q.node) p.at rule c
    over c p (of_sort down e) = there p (node.Sort down c) e ∙ of-Sort (node_measure m) (λ q. q.node) p.at down c
    over c p (of_scalar e) = there p (node.ScalarOf c) e ∙ of-ScalarOf (node_measure m) (λ q. q.node) p.at c
    over c p (of_vector e) = there p (node.VectorOf c) e ∙ of-VectorOf (node_measure m) (λ q. q.node) p.at c
    over c p (of_filter rules e) = there p (node.Filter c rules) e ∙ of-Filter (node_measure m) (λ q. q.node) p.at c rules
    over c p (of_element f e) = there p (node.Element f c []) e ∙ of-Element (node_measure m) (λ q. q.node) p.at f c [] ∙ alone (plan_measure m c)
    over c p (of_group f by label e) = there p (node.Group f by (c ∷ []) label) e ∙ of-Group (node_measure m) (λ q. q.node) p.at f by (c ∷ []) label ∙ alone (plan_measure m c)

    pub beside : (left right p : Plan) → IsBeside left right p → plan_measure m p ≡ m.beside (plan_measure m left) (plan_measure m right)
    beside left right p (of_buckets e) = there p (node.Buckets left right) e ∙ of-Buckets (node_measure m) (λ q. q.node) p.at left right
    beside left right p (of_pair op pairing e) = there p (node.Pair op left right pairing) e ∙ of-Pair (node_measure m) (λ q. q.node) p.at op left right pairing
    beside left right p (of_set op pairing e) = there p (node.Set op left right pairing) e ∙ of-Set (node_measure m) (λ q. q.node) p.at op left right pairing
    beside left right p (of_ratio e) = there p (node.Ratio left right) e ∙ of-Ratio (node_measure m) (λ q. q.node) p.at left right
    beside left right p (of_argument f e) =
        there p (node.Element f left (right ∷ [])) e ∙ of-Element (node_measure m) (λ q. q.node) p.at f left (right ∷ []) ∙ ap (m.beside (plan_measure m left)) (alone (plan_measure m right))
    beside left right p (of_parameter f by label e) =
        there p (node.Group f by (left ∷ right ∷ []) label) e ∙ of-Group (node_measure m) (λ q. q.node) p.at f by (left ∷ right ∷ []) label ∙ ap (m.beside (plan_measure m left)) (alone (plan_measure m right))

    pub three : (rows low high p : Plan) → IsThree rows low high p → plan_measure m p ≡ m.beside (plan_measure m rows) (m.beside (plan_measure m low) (plan_measure m high))
    three rows low high p (of_arguments f e) =
        there p (node.Element f rows (low ∷ high ∷ [])) e ∙ of-Element (node_measure m) (λ q. q.node) p.at f rows (low ∷ high ∷ [])
        ∙ ap (λ (x : X). m.beside (plan_measure m rows) (m.beside (plan_measure m low) x)) (alone (plan_measure m high))
