-- A plan whose selectors engines are asked for means what its tree means, is valid, gives a scalar or a vector, is served by kernels, and
-- asks all engines for selectors alone.
use Rattle.std.proofs.Common.{◌≡◌, ◌∙◌, ℕ, List, ap, subst, sym, true}
use Rattle.std.specs.Prelude.{ℤ, Result, Ok, Err, IfOk}
use Rattle.logical_plan.specs.Lowering.{PatternsArePlaced}
use Rattle.logical_plan.specs.PlanMeaning.{plan_meaning}
use Rattle.logical_plan.specs.PlanTypes.{IsTyped}
use Rattle.logical_plan.specs.Shown.{shown}
use Rattle.logical_plan.specs.Steadiness.{OncesAreSteady}
use Rattle.logical_plan.specs.Validity.{IsValid, IsWithinLimits}
use Rattle.logical_plan.specs.declared.nodes.Plan.{Plan}
use Rattle.opt_matchers.specs.Handing.{HaveLabelSets}
use Rattle.opt_remote.specs.Engines.{ArePartedOver, MeanTheSameOver}
use Rattle.opt_remote.specs.Gathering.{all_engines, gathered_selectors}
use Rattle.opt_remote.specs.Laws.{AllAreAsked, NoSelectorIsLeft, OncesAreKept, TypesAreKept, ValidityIsKept}
use Rattle.opt_remote.specs.Parts.{is_gathered}
use Rattle.plan_serving.specs.Serving.{IsServed, IsServedOver}
use Rattle.promql_ast.specs.declared.tree.Expr.{Expr}
use Rattle.promql_meaning.specs.Meaning.{meaning}
use Rattle.promql_meaning.specs.Selecting.{Asked}
use Rattle.promql_type.specs.Kinds.{is_number}
use Rattle.promql_type.specs.Replacements.{Kept}
use Rattle.promql_type.specs.declared.replace.Placed.{Placed}
use Rattle.query_engine.specs.Planning.{AsksAllWhereKept, GivesNumbers, IsServedOverWhereKept, IsServedWhereKept}
use Rattle.query_engine.proofs.Unasked.{served_asks_none}

module _ (p : Plan) (e : Expr) (placed : List Placed) (engines : ℕ) (kept : Kept) where
  pub asked_means : {E : Type 0} (result : Result Plan E)
      → ((asked : Asked) (t : ℤ) → HaveLabelSets asked → PatternsArePlaced asked.kept placed e → plan_meaning asked p t ≡ shown (meaning asked e t))
      → IfOk result (λ q. MeanTheSameOver engines q p)
      → IfOk result (λ q. (asked : Asked) (t : ℤ) → ArePartedOver engines asked → HaveLabelSets asked → PatternsArePlaced asked.kept placed e → plan_meaning asked q t ≡ shown (meaning asked e t))
  asked_means (Ok q) means same = λ asked t parted sets there. same asked t parted ∙ means asked t sets there
  asked_means (Err fault) means same = tt

  abbrev Is : {E : Type 0} → Result Plan E → Type 0
  Is result = IfOk result (λ q. q ≡ gathered_selectors engines kept p)

  -- what holds of the plan of which engines are asked holds of the result
  by_plan : {E : Type 0} (P : Plan → Type 0) → P (gathered_selectors engines kept p) → (result : Result Plan E) → Is result → IfOk result P
  by_plan P h (Ok q) is = subst P (sym is) h
  by_plan P h (Err fault) is = tt

  pub asked_plan : {E : Type 0} (whole : Plan) → p ≡ whole → (result : Result Plan E) → Is result → IfOk result (λ q. q ≡ gathered_selectors engines kept whole)
  asked_plan whole same result is = by_plan (λ q. q ≡ gathered_selectors engines kept whole) (ap (gathered_selectors engines kept) same) result is

  pub asked_onces : {E : Type 0} → OncesAreKept → OncesAreSteady p → (result : Result Plan E) → Is result → IfOk result OncesAreSteady
  asked_onces keeps onces result is = by_plan OncesAreSteady (keeps (all_engines engines) kept p onces) result is

  pub asked_valid : {E : Type 0} → ValidityIsKept → ((longest latest : ℕ) → IsWithinLimits longest latest e → IsValid longest latest p) → (result : Result Plan E) → Is result
      → IfOk result (λ q. (longest latest : ℕ) → IsWithinLimits longest latest e → IsValid longest latest q)
  asked_valid keeps valid result is =
      by_plan (λ q. (longest latest : ℕ) → IsWithinLimits longest latest e → IsValid longest latest q)
      (λ longest latest limits. keeps (all_engines engines) kept longest latest p (valid longest latest limits)) result is

  pub asked_numbers : {E : Type 0} → TypesAreKept → IsTyped p → GivesNumbers p → (result : Result Plan E) → Is result → IfOk result GivesNumbers
  asked_numbers keeps typed gives result is = by_plan GivesNumbers (ap is_number (keeps (all_engines engines) kept p typed).kind ∙ gives) result is

  pub asked_gathered : {E : Type 0} → NoSelectorIsLeft → IsTyped p → (result : Result Plan E) → Is result → IfOk result (λ q. is_gathered q ≡ true)
  asked_gathered none typed result is = by_plan (λ q. is_gathered q ≡ true) (none (all_engines engines) kept p typed) result is

  pub asked_all : {E : Type 0} → AllAreAsked → IsServedWhereKept placed e p → (result : Result Plan E) → Is result → IfOk result (AsksAllWhereKept (all_engines engines) placed e)
  asked_all all served result is =
      by_plan (AsksAllWhereKept (all_engines engines) placed e)
      (λ now longest latest within there. all (all_engines engines) kept p (served_asks_none (all_engines engines) now p (served now longest latest within there))) result is

  pub asked_served : {E : Type 0} → ((now : Kept) → IsServed now p → IsServedOver now (gathered_selectors engines kept p)) → IsServedWhereKept placed e p → (result : Result Plan E) → Is result
      → IfOk result (IsServedOverWhereKept placed e)
  asked_served keeps served result is =
      by_plan (IsServedOverWhereKept placed e) (λ now longest latest within there. keeps now (served now longest latest within there)) result is
