-- What the expression of a plan means and gives, and that engines can be asked for it.
use Rattle.std.proofs.Common.{◌≡◌, ◌∙◌, ℕ, zero, suc, List, [], ◌∷◌, ◌++◌, ap, sym, refl, subst, Bool, true, false, arith}
use Rattle.std.proofs.lemmas.Bool.{eqb-true}
use Rattle.std.proofs.lemmas.Slice.Eq.{bytes_eq-Decides}
use Rattle.std.specs.Prelude.{◌==◌, ◌&&◌, ◌||◌, not, bytes_eq, Contains}
use Rattle.std.specs.List.{AllByRecursion, list_all}
use Rattle.label_set.specs.declared.rules.PatternId.{PatternId}
use Rattle.promql_meaning.specs.Meaning.{meaning}
use Rattle.promql_type.specs.Answers.{refusals_of}
use Rattle.promql_type.specs.Judging.{judged}
use Rattle.promql_type.specs.Kinds.{is_kind}
use Rattle.promql_type.specs.Points.{crowded}
use Rattle.promql_type.specs.Replacements.{Kept}
use Rattle.promql_type.specs.Rules.{result_refusals}
use Rattle.promql_type.specs.Settled.{kind_of}
use Rattle.promql_type.specs.declared.kind.Kind.TheVariants.{Vector}
use Rattle.promql_type.specs.declared.replace.Replacement.{Replacement}
use Rattle.logical_plan.specs.Laws.{PlanMeansItsTree}
use Rattle.logical_plan.specs.PartExprs.{expression_of}
use Rattle.logical_plan.specs.PlanRules.{pattern_text}
use Rattle.logical_plan.specs.PlanTypes.{agree, all_agree, has_none, is_unstamped, typing}
use Rattle.logical_plan.specs.Shown.{shown}
use Rattle.logical_plan.specs.Validity.{HasOnePattern, measured}
use Rattle.logical_plan.specs.declared.nodes.Plan.{Plan}
use Rattle.expressed_laws.specs.Expressions.{ExpressionsAreUnrefused, ExpressionsMean, IsPatternOf, VectorsAreParts}
use Rattle.expressed_laws.proofs.Ands.{both_true, left_true}
use Rattle.expressed_laws.proofs.Means.{expression_means}
use Rattle.expressed_laws.proofs.Patterns.{each, patterns_found, placed_from}
use Rattle.expressed_laws.proofs.Types.{all_sure, none_of}

pub expressions_mean : PlanMeansItsTree → ExpressionsMean
expressions_mean law kept asked p t same has one =
    ap (λ (k : Kept). shown (meaning asked (expression_of k p) t)) (sym same)
    ∙ expression_means law asked (placed_from (measured p).replaced) p has.expressible has.typed (patterns_found (measured p).replaced one) t

-- what holds of each item holds of an item
member : {A : Type 0} (P : A → Type 0) (xs : List A) (x : A) → AllByRecursion P xs → Contains xs x → P x
member P [] x all c = absurd (omega (arith, c.1))
member P (y ∷ ys) x all (zero, less, same) = subst P same all.0
member P (y ∷ ys) x all (suc k, less, same) = member P ys x all.1 (k, omega (arith, less), same)

-- ---- nothing is refused

module _ (kept : Kept) (p : Plan) where
  abbrev IsOwn : ℕ × PatternId → Type 0
  IsOwn node = Contains (measured p).replaced node

  told : (node : ℕ × PatternId) (place : ℕ) → IsOwn node → IsPatternOf kept p (record { at = node.0; place = place; text = pattern_text kept node.1 })
  told node place own = record { node = node; among = own; place = refl; text = refl }

pub expressions_are_unrefused : ExpressionsAreUnrefused
expressions_are_unrefused kept p has =
    let sure = all_sure kept (IsOwn kept p) (IsPatternOf kept p) (told kept p) p has.expressible (left_true (typing p).typed (is_unstamped (typing p).select) has.typed) in
    let texts = sure.texts (each (IsOwn kept p) (measured p).replaced (λ node own. own)) in
    record {
      gives = sure.gives;
      none = sure.none;
      points = sure.points;
      patterns = λ call c. member (IsPatternOf kept p) (judged (expression_of kept p)).replacements call texts c;
    }

-- ---- vectors

module _ (kept : Kept) (p : Plan) (one : HasOnePattern (measured p).replaced) where
  -- calls of one place have one text
  same_text : (a b : Replacement) → IsPatternOf kept p a → IsPatternOf kept p b → a.at ≡ b.at → a.text ≡ b.text
  same_text a b x y same = x.text ∙ ap (pattern_text kept) (one x.node y.node x.among y.among (sym x.place ∙ same ∙ y.place)) ∙ sym y.text

  two_agree : (a b : Replacement) → IsPatternOf kept p a → IsPatternOf kept p b → agree a b ≡ true
  two_agree a b x y = by (a.at == b.at) refl
    where
      by : (at_one : Bool) → (a.at == b.at) ≡ at_one → (not at_one || bytes_eq a.text b.text) ≡ true
      by false e = refl
      by true e = (bytes_eq-Decides a.text b.text).1 (same_text a b x y (eqb-true a.at b.at e))

  one_agrees : (a : Replacement) → IsPatternOf kept p a → (calls : List Replacement) → AllByRecursion (IsPatternOf kept p) calls → list_all (agree a) calls ≡ true
  one_agrees a x [] all = refl
  one_agrees a x (b ∷ calls) all = both_true (agree a b) (list_all (agree a) calls) (two_agree a b x all.0) (one_agrees a x calls all.1)

  each_agrees : (calls some : List Replacement) → AllByRecursion (IsPatternOf kept p) calls → AllByRecursion (IsPatternOf kept p) some
      → list_all (λ (call : Replacement). list_all (agree call) calls) some ≡ true
  each_agrees calls [] all these = refl
  each_agrees calls (a ∷ some) all these =
      both_true (list_all (agree a) calls) (list_all (λ (call : Replacement). list_all (agree call) calls) some) (one_agrees a these.0 calls all) (each_agrees calls some all these.1)

pub vectors_are_parts : VectorsAreParts
vectors_are_parts kept p has kind few one =
    let e = expression_of kept p in
    let u = expressions_are_unrefused kept p has in
    let calls = (judged e).replacements in
    let own = each (IsPatternOf kept p) calls u.patterns in
    let none : refusals_of e ≡ [] =
    none_of (judged e).refusals (crowded e 1 ++ result_refusals (kind_of e)) u.none
    (none_of (crowded e 1) (result_refusals (kind_of e)) (u.points 1 few) (ap result_refusals (u.gives ∙ kind))) in
    both_true (has_none (refusals_of e) && is_kind Vector (kind_of e)) (all_agree calls)
    (both_true (has_none (refusals_of e)) (is_kind Vector (kind_of e)) (ap has_none none) (ap (is_kind Vector) (u.gives ∙ kind)))
    (each_agrees kept p one calls calls own own)
