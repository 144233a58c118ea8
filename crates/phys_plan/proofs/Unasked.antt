-- A plan that kernels serve without engines has no part that these are asked for.
use Rattle.std.proofs.Common.{◌≡◌, ◌∙◌, ℕ, List, true, false, ap, sym, subst}
use Rattle.exchange.specs.declared.request.Request.{Request}
use Rattle.logical_plan.specs.Lowering.{planned}
use Rattle.logical_plan.specs.PlanFolds.{of-Gather}
use Rattle.logical_plan.specs.declared.nodes.Plan.{Plan}
use Rattle.logical_plan.specs.declared.nodes.PlanNode.{PlanNode}
use Rattle.logical_plan.specs.declared.nodes.PlanNode.TheVariants as node
use Rattle.op_labels.specs.Rules.{Kept}
use Rattle.plan_parts.specs.Parts.{IsAskedIn}
use Rattle.plan_serving.specs.Serving.{IsServed, Serving, asks_none, node_serving, serving}
use Rattle.promql_ast.specs.declared.tree.Expr.{Expr}
use Rattle.step_table.specs.declared.cells.PartKind.{PartKind}
use Rattle.phys_plan.proofs.InPlace.{served_below}

not_served : (p : Plan) (expr : Expr) (kind : PartKind) (engines : List ℕ) → p.node ≡ node.Gather expr kind engines → (serving p).served ≡ true → ⊥
not_served p expr kind engines e h =
    let is = ap (λ (m : PlanNode). serving (planned p.at m)) e ∙ of-Gather node_serving (λ q. q.node) p.at expr kind engines in
    let none : false ≡ true = sym (ap (λ (s : Serving). s.served) is) ∙ h in absurd (cc)

pub none_asked : (kept : Kept) {r : Request} {p : Plan} → IsAskedIn r p → IsServed kept p → ⊥
none_asked kept {r = r} (IsAskedIn.itself p e) = λ served. not_served p r.part.expr r.part.kind r.engines e served.windows
none_asked kept (IsAskedIn.under c p child asked) = λ served. none_asked kept asked (served_below kept asks_none child served)
