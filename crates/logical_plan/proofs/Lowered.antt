-- The plan of a typed tree, with its Once nodes.
use Rattle.std.proofs.Common.{◌≡◌, ◌∙◌, List, [], ap, sym, refl, subst, false}
use Rattle.std.specs.Prelude.{ℤ}
use Rattle.promql_ast.specs.declared.tree.Expr.{Expr}
use Rattle.promql_type.specs.Fits.{TypedTreesFit}
use Rattle.promql_type.specs.Judging.{judged}
use Rattle.promql_type.specs.declared.replace.Placed.{Placed}
use Rattle.promql_meaning.specs.Meaning.{meaning}
use Rattle.promql_meaning.specs.Selecting.{Asked}
use Rattle.logical_plan.specs.declared.nodes.Plan.{Plan}
use Rattle.logical_plan.specs.Lowering.{PatternsArePlaced, lowered}
use Rattle.logical_plan.specs.Onces.{with_onces}
use Rattle.logical_plan.specs.PlanMeaning.{plan_meaning}
use Rattle.logical_plan.specs.PlanTypes.{IsTyped, is_sound, node_typing}
use Rattle.logical_plan.specs.Shown.{shown}
use Rattle.logical_plan.specs.Steadiness.{OncesAreSteady}
use Rattle.logical_plan.proofs.Lowers.{lowered_means}
use Rattle.logical_plan.proofs.Placing.{onces_are_nothing, onces_are_steady, onces_keep}
use Rattle.logical_plan.proofs.Typings.{lowered_typed}

pub plan_means : (placed : List Placed) (e : Expr) (p : Plan) → p ≡ with_onces (lowered placed e)
    → (asked : Asked) (t : ℤ) → PatternsArePlaced asked.kept placed e → plan_meaning asked p t ≡ shown (meaning asked e t)
plan_means placed e p is asked t patterns =
    ap (λ (q : Plan). plan_meaning asked q t) is ∙ onces_keep asked (lowered placed e) t ∙ lowered_means asked placed e patterns t

pub plan_is_steady : (placed : List Placed) (e : Expr) (p : Plan) → p ≡ with_onces (lowered placed e) → OncesAreSteady p
plan_is_steady placed e p is = subst OncesAreSteady (sym is) (onces_are_steady (lowered placed e))

pub plan_is_typed : TypedTreesFit → (placed : List Placed) (e : Expr) (p : Plan) → (judged e).refusals ≡ [] → p ≡ with_onces (lowered placed e) → IsTyped p
plan_is_typed fit placed e p none is =
    subst IsTyped (sym is)
    (ap is_sound (onces_are_nothing node_typing (λ p. p.node) (λ at t. refl) (lowered placed e) false) ∙ lowered_typed fit placed e none)
