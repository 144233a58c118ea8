-- The plan of a typed tree within the limits is valid.
use Rattle.std.proofs.Common.{◌≡◌, ◌≤◌, ℕ, List, [], true, false, refl, subst, sym}
use Rattle.std.specs.Prelude.{⊤}
use Rattle.promql_ast.specs.Parts.{AreWithin}
use Rattle.promql_ast.specs.declared.tree.Expr.{Expr}
use Rattle.promql_type.specs.Fits.{TypedTreesFit}
use Rattle.promql_type.specs.Judging.{judged}
use Rattle.promql_type.specs.declared.replace.Placed.{Placed}
use Rattle.logical_plan.specs.declared.nodes.Plan.{Plan}
use Rattle.logical_plan.specs.Lowering.{lowered}
use Rattle.logical_plan.specs.Onces.{with_onces}
use Rattle.logical_plan.specs.PlanTypes.{Typing, is_sound, node_typing, typing}
use Rattle.logical_plan.specs.Validity.{HasOnePattern, IsValid, IsWithinLimits, Measure, OncesKeepValidity, deepest, measured, node_measure}
use Rattle.logical_plan.proofs.Depths.{lowered_shallow}
use Rattle.logical_plan.proofs.Limits.{limits_stay, one_pattern}
use Rattle.logical_plan.proofs.Placing.{onces_are_nothing}
use Rattle.logical_plan.proofs.Typings.{lowered_typed}

lowered_valid : TypedTreesFit → (placed : List Placed) (e : Expr) (longest latest : ℕ) → (judged e).refusals ≡ [] → IsWithinLimits longest latest e
    → IsValid longest latest (lowered placed e)
lowered_valid fit placed e longest latest none limits =
    let fine = limits_stay longest latest placed e 1 limits.within limits.few in
    record {
      typed = lowered_typed fit placed e none;
      within = fine.parts;
      patterns = one_pattern placed (measured (lowered placed e)).replaced fine.replaced;
      few = fine.few;
      shallow = lowered_shallow fit placed e none limits.shallow;
    }

same_typing : (p : Plan) → typing p ≡ typing (with_onces p)
same_typing p = sym (onces_are_nothing node_typing (λ p. p.node) (λ at t. refl) p false)

same_measure : (p : Plan) → measured p ≡ measured (with_onces p)
same_measure p = sym (onces_are_nothing node_measure (λ p. p.node p.at) (λ at m. refl) p false)

pub validity_stays : OncesKeepValidity
validity_stays longest latest p valid = record {
  typed = subst (λ (t : Typing). is_sound t ≡ true) (same_typing p) valid.typed;
  within = subst (λ (m : Measure). AreWithin (λ rules. ⊤) longest latest m.parts) (same_measure p) valid.within;
  patterns = subst (λ (m : Measure). HasOnePattern m.replaced) (same_measure p) valid.patterns;
  few = subst (λ (m : Measure). m.few 1 ≡ true) (same_measure p) valid.few;
  shallow = subst (λ (m : Measure). m.depth ≤ deepest) (same_measure p) valid.shallow;
}

pub plan_is_valid : TypedTreesFit → (placed : List Placed) (e : Expr) (p : Plan) → (judged e).refusals ≡ [] → p ≡ with_onces (lowered placed e)
    → (longest latest : ℕ) → IsWithinLimits longest latest e → IsValid longest latest p
plan_is_valid fit placed e p none is longest latest limits =
    subst (IsValid longest latest) (sym is) (validity_stays longest latest (lowered placed e) (lowered_valid fit placed e longest latest none limits))
