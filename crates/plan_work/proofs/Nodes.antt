-- The bounds of plans add up over their nodes.
use Rattle.std.proofs.Common.{◌≡◌, ◌∙◌, ◌+◌, Bool, ℕ, List, ap, arith, inl, inr}
use Rattle.func_table.specs.declared.table.Window.{Window as WindowFunction}
use Rattle.label_set.specs.declared.rules.Rule.{Rule}
use Rattle.logical_plan.specs.declared.nodes.Plan.{Plan}
use Rattle.logical_plan.specs.declared.nodes.PlanNode.TheVariants as node
use Rattle.promql_ast.specs.declared.tree.Moment.{Moment}
use Rattle.promql_meaning.specs.Selecting.{Asked, lookback}
use Rattle.ticks.specs.declared.moment.Ms.{Ms}
use Rattle.plan_tree.specs.Spending.{Cost, both, nothing}
use Rattle.plan_work.specs.PlanBounds.{Bounding, arguments_bound, costs, first_alone, inner_times, plan_bound, selector_bound}
use Rattle.plan_work.specs.PlanLaws.{AreBeside, IsBare, IsBeside, IsOver, IsThree}
use Rattle.plan_work.proofs.Measured as measured

-- what an equation of bounds says at some instants
at_times : (f g : Bounding) (at : List Ms) → f ≡ g → f at ≡ g at
at_times f g at e = ap (λ (b : Bounding). b at) e

-- nothing more
no_more : (a : Cost) → both a nothing ≡ a
no_more a = let f = plus_none a.fetched in let p = plus_none a.probed in λ j. record { fetched = f j; probed = p j }
  where
    plus_none : (n : ℕ) → n + 0 ≡ n
    plus_none n = omega arith

-- in the other order
swapped : (a b : Cost) → both a b ≡ both b a
swapped a b = let f = plus_turned a.fetched b.fetched in let p = plus_turned a.probed b.probed in λ j. record { fetched = f j; probed = p j }
  where
    plus_turned : (m n : ℕ) → m + n ≡ n + m
    plus_turned m n = omega arith

module _ (asked : Asked) where
  alone : (b : Bounding) → (costs asked).beside b (costs asked).none ≡ b
  alone b = λ j at. no_more (b at) j

  pub bare : (p : Plan) (at : List Ms) → IsBare p → plan_bound asked p at ≡ nothing
  bare p at b = at_times _ _ at (measured.bare (costs asked) p b)

  pub over : (c p : Plan) (at : List Ms) → IsOver c p → plan_bound asked p at ≡ plan_bound asked c at
  over c p at o = at_times _ _ at (measured.over (costs asked) alone c p o)

  pub beside : (left right p : Plan) (at : List Ms) → IsBeside left right p → plan_bound asked p at ≡ both (plan_bound asked left at) (plan_bound asked right at)
  beside left right p at b = at_times _ _ at (measured.beside (costs asked) alone left right p b)

  pub beside_either : (left right p : Plan) (at : List Ms) → AreBeside left right p → plan_bound asked p at ≡ both (plan_bound asked left at) (plan_bound asked right at)
  beside_either left right p at (inl b) = beside left right p at b
  beside_either left right p at (inr b) = beside right left p at b ∙ swapped (plan_bound asked right at) (plan_bound asked left at)

  pub three : (rows low high p : Plan) (at : List Ms) → IsThree rows low high p → plan_bound asked p at ≡ both (plan_bound asked rows at) (both (plan_bound asked low at) (plan_bound asked high at))
  three rows low high p at t = at_times _ _ at (measured.three (costs asked) alone rows low high p t)

  pub selector : (p : Plan) (at : List Ms) (rules : List Rule) (moment : Moment) (stamped : Bool) → p.node ≡ node.Select rules moment stamped → plan_bound asked p at ≡ selector_bound lookback asked rules moment at
  selector p at rules moment stamped e = at_times _ _ at (measured.selector (costs asked) p rules moment stamped e)

  pub once : (c p : Plan) (at : List Ms) → p.node ≡ node.Once c → plan_bound asked p at ≡ plan_bound asked c (first_alone at)
  once c p at e = at_times _ _ at (measured.once (costs asked) c p e)

  pub ranges : (p : Plan) (rules : List Rule) (moment : Moment) (range : Ms) (at : List Ms) → p.node ≡ node.Range rules moment range → plan_bound asked p at ≡ selector_bound range.0 asked rules moment at
  ranges p rules moment range at e = at_times _ _ at (measured.range_selector (costs asked) p rules moment range e)

  pub subqueries : (p q : Plan) (moment : Moment) (range step : Ms) (at : List Ms) → p.node ≡ node.Subquery q range step moment → plan_bound asked p at ≡ plan_bound asked q (inner_times asked moment range step at)
  subqueries p q moment range step at e = at_times _ _ at (measured.subquery (costs asked) p q moment range step e)

  pub windows : (p inner : Plan) (f : WindowFunction) (arguments : List Plan) (at : List Ms) → p.node ≡ node.Window f inner arguments → plan_bound asked p at ≡ both (plan_bound asked inner at) (arguments_bound asked arguments at)
  windows p inner f arguments at e = at_times _ _ at (measured.window (costs asked) p inner f arguments e)
