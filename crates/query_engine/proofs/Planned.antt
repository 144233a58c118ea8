-- A plan that is rewritten is that of its tree behind the rewrites; it means what its tree means, is typed and valid, gives a scalar or a
-- vector, and is served by kernels.
use Rattle.std.proofs.Common.{◌≡◌, ◌∙◌, ℕ, zero, suc, List, [], length, ap, arith, refl, subst, sym, true}
use Rattle.std.specs.Prelude.{ℤ, Result, Ok, Err, IfOk}
use Rattle.logical_plan.specs.Lowering.{PatternsArePlaced, lowered}
use Rattle.logical_plan.specs.Onces.{with_onces}
use Rattle.logical_plan.specs.PlanMeaning.{plan_meaning}
use Rattle.logical_plan.specs.PlanTypes.{IsTyped, typing}
use Rattle.logical_plan.specs.Shown.{shown}
use Rattle.logical_plan.specs.Validity.{IsValid, IsWithinLimits}
use Rattle.logical_plan.specs.declared.nodes.Plan.{Plan}
use Rattle.opt_matchers.specs.Handing.{HaveLabelSets}
use Rattle.plan_rewrites.specs.Rewriting.{evaluating, rewrites}
use Rattle.plan_rewrites.specs.declared.choosing.Choices.{Choices}
use Rattle.plan_serving.specs.Serving.{IsServed}
use Rattle.plan_serving.specs.ServingLaws.{LoweredPlansAreServed, LoweredPlansGiveNumbers, OncesKeepServing}
use Rattle.promql_ast.specs.declared.tree.Expr.{Expr}
use Rattle.promql_meaning.specs.Meaning.{meaning}
use Rattle.promql_meaning.specs.Selecting.{Asked}
use Rattle.promql_type.specs.Judging.{judged}
use Rattle.promql_type.specs.Kinds.{is_number}
use Rattle.promql_type.specs.Replacements.{Kept}
use Rattle.promql_type.specs.Rules.{result_refusals}
use Rattle.promql_type.specs.Settled.{kind_of}
use Rattle.promql_type.specs.declared.kind.Kind.{Kind}
use Rattle.promql_type.specs.declared.kind.Kind.TheVariants.{Scalar, Vector, Windows, Words}
use Rattle.promql_type.specs.declared.replace.Placed.{Placed}
use Rattle.query_engine.specs.Bounds.{evaluated_plan}
use Rattle.query_engine.specs.Planning.{GivesNumbers, IsServedWhereKept, gathered_plan, plan_of, plan_over}
use Rattle.rewrite_laws.specs.Keeping.{StaysTyped}

pub means_its_tree : {E : Type 0} (p : Plan) (e : Expr) (placed : List Placed) (result : Result Plan E) → IsTyped p
    → ((asked : Asked) (t : ℤ) → PatternsArePlaced asked.kept placed e → plan_meaning asked p t ≡ shown (meaning asked e t))
    → IfOk result (λ q. (asked : Asked) (t : ℤ) → IsTyped p → HaveLabelSets asked → plan_meaning asked q t ≡ plan_meaning asked p t)
    → IfOk result (λ q. (asked : Asked) (t : ℤ) → HaveLabelSets asked → PatternsArePlaced asked.kept placed e → plan_meaning asked q t ≡ shown (meaning asked e t))
means_its_tree p e placed (Ok q) typed means same = λ asked t sets there. same asked t typed sets ∙ means asked t there
means_its_tree p e placed (Err fault) typed means same = tt

pub typed_still : {E : Type 0} (p : Plan) (result : Result Plan E) → IsTyped p → IfOk result (λ q. IsTyped p → StaysTyped p q) → IfOk result IsTyped
typed_still p (Ok q) typed stays = (stays typed).typed
typed_still p (Err fault) typed stays = tt

pub valid_still : {E : Type 0} (p : Plan) (e : Expr) (result : Result Plan E) → ((longest latest : ℕ) → IsWithinLimits longest latest e → IsValid longest latest p)
    → IfOk result (λ q. (longest latest : ℕ) → IsValid longest latest p → IsValid longest latest q)
    → IfOk result (λ q. (longest latest : ℕ) → IsWithinLimits longest latest e → IsValid longest latest q)
valid_still p e (Ok q) valid stays = λ longest latest limits. stays longest latest (valid longest latest limits)
valid_still p e (Err fault) valid stays = tt

number_result : (k : Kind) → result_refusals k ≡ [] → is_number k ≡ true
number_result Scalar is = refl
number_result Vector is = refl
number_result Windows is = absurd (omega (arith, ap length is))
number_result Words is = absurd (omega (arith, ap length is))

module _ (p : Plan) (e : Expr) (placed : List Placed) (is : p ≡ with_onces (lowered placed e)) where
  pub plan_still : {E : Type 0} (choices given : Choices) (kept : Kept) (result : Result Plan E) → given ≡ choices → IfOk result (λ q. q ≡ rewrites (evaluating given) kept p)
      → IfOk result (λ q. q ≡ evaluated_plan choices kept placed e)
  plan_still choices given kept (Ok q) same rewritten =
      rewritten ∙ ap (rewrites (evaluating given) kept) is ∙ ap (λ (c : Choices). rewrites (evaluating c) kept (with_onces (lowered placed e))) same
  plan_still choices given kept (Err fault) same rewritten = tt

  pub plan_is : {E : Type 0} (choices given : Choices) (kept : Kept) (result : Result Plan E) → given ≡ choices → IfOk result (λ q. q ≡ rewrites given kept p) → IfOk result (λ q. q ≡ plan_of choices kept placed e)
  plan_is choices given kept (Ok q) same rewritten =
      rewritten ∙ ap (rewrites given kept) is ∙ ap (λ (c : Choices). rewrites c kept (with_onces (lowered placed e))) same
  plan_is choices given kept (Err fault) same rewritten = tt

  pub numbers_still : {E : Type 0} (result : Result Plan E) → LoweredPlansGiveNumbers → result_refusals (kind_of e) ≡ [] → IsTyped p → IfOk result (λ q. IsTyped p → StaysTyped p q)
      → IfOk result GivesNumbers
  numbers_still (Ok q) gives none typed stays =
      ap is_number ((stays typed).kind ∙ ap (λ (r : Plan). (typing r).kind) is) ∙ gives placed e (number_result (kind_of e) none)
  numbers_still (Err fault) gives none typed stays = tt

  pub served_still : {E : Type 0} (result : Result Plan E) → LoweredPlansAreServed → OncesKeepServing → (judged e).refusals ≡ []
      → IfOk result (λ q. (kept : Kept) → IsServed kept p → IsServed kept q) → IfOk result (IsServedWhereKept placed e)
  served_still (Ok q) law onces none stays =
      λ kept longest latest within there.
      stays kept (subst (IsServed kept) (sym is) (onces kept (lowered placed e) (law kept placed longest latest e none within there)).served)
  served_still (Err fault) law onces none stays = tt

-- ---- over engines

pub over_none : {E : Type 0} (engines : ℕ) (choices : Choices) (kept : Kept) (placed : List Placed) (e : Expr) (result : Result Plan E) → engines ≡ 0
    → IfOk result (λ p. p ≡ plan_of choices kept placed e) → IfOk result (λ p. p ≡ plan_over engines choices kept placed e)
over_none engines choices kept placed e result none h = subst (λ (n : ℕ). IfOk result (λ p. p ≡ plan_over n choices kept placed e)) (sym none) h

pub over_some : {E : Type 0} (engines : ℕ) (choices : Choices) (kept : Kept) (placed : List Placed) (e : Expr) (result : Result Plan E) → (engines ≡ 0 → ⊥)
    → IfOk result (λ p. p ≡ gathered_plan engines choices kept placed e) → IfOk result (λ p. p ≡ plan_over engines choices kept placed e)
over_some zero choices kept placed e result some h = absurd (some refl)
over_some (suc others) choices kept placed e result some h = h
