-- What is known of each rule of a plan is known of the rules of what a fold finds in it, where it is so at each node.
use Rattle.std.proofs.Common.{ℕ, List, sym, subst}
use Rattle.label_set.specs.declared.rules.Rule.{Rule}
use Rattle.logical_plan.specs.declared.nodes.Plan.{Plan}
use Rattle.logical_plan.specs.declared.nodes.PlanNode.{PlanNode}
use Rattle.logical_plan.specs.declared.nodes.PlanNode.TheOpen.{PlanNode-F}
use Rattle.logical_plan.specs.declared.nodes.PlanNode.TheViews.{roll-PlanNode, roll-Plan}
use Rattle.logical_plan.specs.declared.nodes.PlanNode.TheFolds.{fold-Plan, fold-PlanNode, fold-roll-PlanNode, fold-roll-Plan, ind-Plan, map-PlanNode}
use Rattle.plan_serving.specs.Serving.{Serving, node_serving, serving}
use Rattle.rewrite_laws.proofs.Follows.{AreGood}
use Rattle.rewrite_laws.proofs.Rules.{Each}

module _ (Good : Rule → Type 0) {X : Type 0} (step : PlanNode-F (ℕ → List X) (List X) → ℕ → List X) (rules_of : X → List Rule) where
  abbrev found : Plan → List X
  found = fold-Plan (ℕ → List X) (List X) step (λ p. p.node p.at)

  abbrev found_in : PlanNode → ℕ → List X
  found_in = fold-PlanNode (ℕ → List X) (List X) step (λ p. p.node p.at)

  abbrev serving_in : PlanNode → Serving
  serving_in = fold-PlanNode Serving Serving node_serving (λ p. p.node)

  abbrev AllGood : List X → Type 0
  AllGood xs = Each xs (λ x. AreGood Good (rules_of x))

  abbrev IsTold : Plan → Type 0
  IsTold p = AreGood Good (serving p).rules → AllGood (found p)

  abbrev IsToldNode : PlanNode → Type 0
  IsToldNode n = (at : ℕ) → AreGood Good (serving_in n).rules → AllGood (found_in n at)

  abbrev pub Told : Type 0
  Told = (p : Plan) × IsTold p

  abbrev pub Layer : Type 0
  Layer = PlanNode-F ((n : PlanNode) × IsToldNode n) Told

  abbrev plans : Layer → PlanNode-F PlanNode Plan
  plans = map-PlanNode ((n : PlanNode) × IsToldNode n) Told PlanNode Plan (λ n. n.0) (λ p. p.0)

  abbrev pub layer_served : Layer → PlanNode-F Serving Serving
  layer_served y = map-PlanNode PlanNode Plan Serving Serving serving_in serving (plans y)

  abbrev pub layer_found : Layer → PlanNode-F (ℕ → List X) (List X)
  layer_found y = map-PlanNode PlanNode Plan (ℕ → List X) (List X) found_in found (plans y)

  module _ (level : (y : Layer) (at : ℕ) → AreGood Good (node_serving (layer_served y)).rules → AllGood (step (layer_found y) at)) where
    node_told : (y : Layer) → IsToldNode (roll-PlanNode (plans y))
    node_told y at =
        subst (λ (s : Serving). AreGood Good s.rules → AllGood (found_in (roll-PlanNode (plans y)) at)) (sym (fold-roll-PlanNode Serving Serving node_serving (λ p. p.node) (plans y)))
        (subst (λ (f : ℕ → List X). AreGood Good (node_serving (layer_served y)).rules → AllGood (f at))
        (sym (fold-roll-PlanNode (ℕ → List X) (List X) step (λ p. p.node p.at) (plans y))) (level y at))

    plan_told : (at : ℕ) (n : PlanNode) → IsToldNode n → IsTold (roll-Plan (record { at = at; node = n }))
    plan_told at n told =
        subst (λ (s : Serving). AreGood Good s.rules → AllGood (found (roll-Plan (record { at = at; node = n })))) (sym (fold-roll-Plan Serving Serving node_serving (λ p. p.node) (record { at = at; node = n })))
        (subst (λ (xs : List X). AreGood Good (serving_in n).rules → AllGood xs) (sym (fold-roll-Plan (ℕ → List X) (List X) step (λ p. p.node p.at) (record { at = at; node = n }))) (told at))

    pub every : (p : Plan) → IsTold p
    every = ind-Plan IsToldNode IsTold
        (λ x y is. subst (λ z. IsToldNode (roll-PlanNode z)) is (node_told y))
        (λ x y is. subst (λ z. IsTold (roll-Plan z)) is (plan_told y.at y.node.0 y.node.1))
