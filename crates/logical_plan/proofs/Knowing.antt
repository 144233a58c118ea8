-- What is known of a plan whose node is a function of a part and of its arguments.
use Rattle.std.proofs.Common.{◌≡◌, ◌∙◌, ℕ, List, map, ap, refl}
use Rattle.func_table.specs.declared.table.Element.{Element as ElementFunction}
use Rattle.func_table.specs.declared.table.Window.{Window as WindowFunction}
use Rattle.promql_meaning.specs.Steadiness.{steady_window}
use Rattle.logical_plan.specs.declared.steadiness.Facts.{Facts}
use Rattle.logical_plan.specs.declared.nodes.Plan.{Plan}
use Rattle.logical_plan.specs.declared.nodes.PlanNode.{PlanNode}
use Rattle.logical_plan.specs.declared.nodes.PlanNode.TheVariants as node
use Rattle.logical_plan.specs.declared.nodes.PlanNode.TheOpen.{PlanNode-F}
use Rattle.logical_plan.specs.declared.nodes.PlanNode.TheViews.{outs-Element, outs-Window}
use Rattle.logical_plan.specs.declared.nodes.PlanNode.TheFolds.{fold-PlanNode, fold_out-Plan, fold_out-PlanNode}
use Rattle.logical_plan.specs.Onces.{Onced, once_node, once_of}
use Rattle.logical_plan.specs.Steadiness.{all_of, both, constant, node_facts, still_if}

abbrev onces_in : PlanNode → ℕ → Onced
onces_in = fold-PlanNode (ℕ → Onced) Onced once_node (λ p. p.node p.at)

-- what is known of plans, over what was known before them
abbrev pub known_all : Facts → List Plan → Facts
known_all first plans = all_of first (map (λ (o : Onced). o.facts) (map once_of plans))

known_of : (p : Plan) (n : PlanNode) (y : PlanNode-F (ℕ → Onced) Onced) → p.node ≡ n → onces_in n ≡ once_node y
    → (once_of p).facts ≡ node_facts (λ (o : Onced). o.facts) y
known_of p n y is gives =
    ap (λ (o : Onced). o.facts) (fold_out-Plan (ℕ → Onced) Onced once_node (λ p. p.node p.at) p)
    ∙ ap (λ (m : PlanNode). (onces_in m p.at).facts) is
    ∙ ap (λ (o : ℕ → Onced). (o p.at).facts) gives

pub known_Element : (p : Plan) (f : ElementFunction) (inner : Plan) (arguments : List Plan) → p.node ≡ node.Element f inner arguments
    → (once_of p).facts ≡ known_all (both constant (once_of inner).facts) arguments
known_Element p f inner arguments is =
    known_of p (node.Element f inner arguments) (PlanNode-F.Element f (once_of inner) (map once_of arguments)) is
    (fold_out-PlanNode (ℕ → Onced) Onced once_node (λ p. p.node p.at) (node.Element f inner arguments) ∙ rw outs-Element refl)

pub known_Window : (p : Plan) (f : WindowFunction) (inner : Plan) (arguments : List Plan) → p.node ≡ node.Window f inner arguments
    → (once_of p).facts ≡ still_if (steady_window f) (known_all (both constant (once_of inner).facts) arguments)
known_Window p f inner arguments is =
    known_of p (node.Window f inner arguments) (PlanNode-F.Window f (once_of inner) (map once_of arguments)) is
    (fold_out-PlanNode (ℕ → Onced) Onced once_node (λ p. p.node p.at) (node.Window f inner arguments) ∙ rw outs-Window refl)
