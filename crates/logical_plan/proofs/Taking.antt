-- What the expression of a plan means, and that checking takes it.
use Rattle.std.proofs.Common.{◌≡◌, ◌∙◌, ◌⊎◌, inl, inr, ℕ, [], ◌++◌, ap, sym, refl, subst, Bool, true, false}
use Rattle.std.proofs.lemmas.Bool.{false≢true, true≢false}
use Rattle.std.specs.Prelude.{ℤ}
use Rattle.func_table.specs.declared.table.Element.{Element as ElementFunction}
use Rattle.func_table.specs.declared.table.Element.TheVariants as element
use Rattle.promql_ast.specs.declared.tree.Expr.{Expr}
use Rattle.promql_meaning.specs.Meaning.{meaning}
use Rattle.promql_meaning.specs.Selecting.{Asked}
use Rattle.promql_type.specs.Judging.{judged}
use Rattle.promql_type.specs.Kinds.{both, is_number}
use Rattle.promql_type.specs.Points.{crowded}
use Rattle.promql_type.specs.Replacements.{Kept}
use Rattle.promql_type.specs.Rules.{result_refusals}
use Rattle.promql_type.specs.Settled.{kind_of}
use Rattle.promql_type.specs.declared.kind.Kind.{Kind}
use Rattle.promql_type.specs.declared.kind.Kind.TheVariants.{Scalar, Vector, Windows, Words}
use Rattle.logical_plan.specs.declared.nodes.Plan.{Plan}
use Rattle.logical_plan.specs.declared.nodes.PlanNode.{PlanNode}
use Rattle.logical_plan.specs.declared.nodes.PlanNode.TheOpen.{PlanNode-F}
use Rattle.logical_plan.specs.declared.nodes.PlanNode.TheViews.{out-PlanNode}
use Rattle.logical_plan.specs.declared.nodes.PlanNode.TheFolds.{map-PlanNode, fold-PlanNode}
use Rattle.logical_plan.specs.PartExprs.{IsAskable, IsRangeSelector, IsTaken, expression_of, expression_step, is_expressible, is_subquery, node_expressible}
use Rattle.logical_plan.specs.PlanFolds.{by_node}
use Rattle.logical_plan.specs.PlanMeaning.{plan_meaning}
use Rattle.logical_plan.specs.PlanRules.{selector_of}
use Rattle.logical_plan.specs.PlanTypes.{Typing, element_kind, is_unstamped, node_typing, typing}
use Rattle.logical_plan.specs.Shown.{shown}
use Rattle.logical_plan.specs.Validity.{measured}
use Rattle.logical_plan.proofs.PartKept.{never_refused, patterns_found, placed_from}
use Rattle.logical_plan.proofs.PartLowers.{expression_means, left_true}
use Rattle.logical_plan.proofs.PartTypes.{all_sure, none_of}

pub part_means : (kept : Kept) (p : Plan) (e : Expr) → e ≡ expression_of kept p → (longest latest : ℕ) (asked : Asked) (t : ℤ) → asked.kept ≡ kept → IsAskable longest latest kept p
    → shown (meaning asked e t) ≡ plan_meaning asked p t
part_means kept p e is longest latest asked t same part =
    ap (λ (x : Expr). shown (meaning asked x t)) (is ∙ ap (λ (k : Kept). expression_of k p) (sym same))
    ∙ expression_means asked (placed_from (measured p).replaced) p part.expressible part.valid.typed (patterns_found (measured p).replaced part.valid.patterns) t

-- ---- what gives windows

number_both : (a b : Kind) → is_number (both a b) ≡ true
number_both Scalar Scalar = refl
number_both Scalar Vector = refl
number_both Scalar Windows = refl
number_both Scalar Words = refl
number_both Vector b = refl
number_both Windows b = refl
number_both Words b = refl

number_element : (f : ElementFunction) (k : Kind) → is_number (element_kind f k) ≡ true
number_element element.Abs k = refl
number_element element.Ceil k = refl
number_element element.Floor k = refl
number_element element.Round k = refl
number_element element.Sgn k = refl
number_element element.Neg k = number_both k k
number_element element.Clamp k = refl
number_element element.ClampMin k = refl
number_element element.ClampMax k = refl
number_element (element.Calendar part) k = refl

result_none : (k : Kind) → is_number k ≡ true → result_refusals k ≡ []
result_none Scalar is = refl
result_none Vector is = refl
result_none Windows is = absurd (false≢true is)
result_none Words is = absurd (false≢true is)

module _ (kept : Kept) where
  abbrev expression_at : PlanNode-F PlanNode Plan → ℕ → Expr
  expression_at z at =
      expression_step kept
      (map-PlanNode PlanNode Plan (ℕ → Expr) Expr (fold-PlanNode (ℕ → Expr) Expr (expression_step kept) (λ p. p.node p.at)) (expression_of kept) z) at

  abbrev typing_at : PlanNode-F PlanNode Plan → Typing
  typing_at z = node_typing (map-PlanNode PlanNode Plan Typing Typing (fold-PlanNode Typing Typing node_typing (λ p. p.node)) typing z)

  abbrev expressible_at : PlanNode-F PlanNode Plan → Bool
  expressible_at z = node_expressible (map-PlanNode PlanNode Plan Bool Bool (fold-PlanNode Bool Bool node_expressible (λ p. p.node)) is_expressible z)

  -- a plan that gives windows is a range selector or a subquery
  form : (z : PlanNode-F PlanNode Plan) (at : ℕ) (e : Expr) → e ≡ expression_at z at → expressible_at z ≡ true → is_subquery z ≡ false
      → IsRangeSelector e ⊎ (is_number (typing_at z).kind ≡ true)
  form (PlanNode-F.Number value) at e is whole other = inr refl
  form PlanNode-F.Time at e is whole other = inr refl
  form (PlanNode-F.Select rules moment stamped) at e is whole other = inr refl
  form (PlanNode-F.Range rules moment range) at e is whole other = inl (record { selector = selector_of rules moment; range = range; is = ap (λ (x : Expr). x.node) is })
  form (PlanNode-F.Subquery p range step moment) at e is whole other = absurd (true≢false other)
  form (PlanNode-F.Element f p ps) at e is whole other = inr (number_element f (typing p).kind)
  form (PlanNode-F.Stamp p) at e is whole other = inr refl
  form (PlanNode-F.Window f p ps) at e is whole other = inr refl
  form (PlanNode-F.Absent labels p) at e is whole other = inr refl
  form (PlanNode-F.Buckets q p) at e is whole other = inr refl
  form (PlanNode-F.Relabel rule p) at e is whole other = inr refl
  form (PlanNode-F.Sort down p) at e is whole other = inr refl
  form (PlanNode-F.ScalarOf p) at e is whole other = inr refl
  form (PlanNode-F.VectorOf p) at e is whole other = inr refl
  form (PlanNode-F.Group f by ps label) at e is whole other = inr refl
  form (PlanNode-F.Pair op p q pairing) at e is whole other = inr (number_both (typing p).kind (typing q).kind)
  form (PlanNode-F.Set op p q pairing) at e is whole other = inr refl
  form (PlanNode-F.Filter p rules) at e is whole other = absurd (false≢true whole)
  form (PlanNode-F.Ratio p q) at e is whole other = inr refl
  form (PlanNode-F.Once p) at e is whole other = absurd (false≢true whole)
  form (PlanNode-F.Gather expr kind engines) at e is whole other = absurd (false≢true whole)

  taken : (longest latest : ℕ) (p : Plan) → IsAskable longest latest kept p → is_number (typing p).kind ≡ true → IsTaken kept (expression_of kept p)
  taken longest latest p part number =
      let e = expression_of kept p in
      let sure = all_sure kept p part.expressible (left_true (typing p).typed (is_unstamped (typing p).select) part.valid.typed) in
      let none = none_of (judged e).refusals (crowded e 1 ++ result_refusals (kind_of e)) sure.none
      (none_of (crowded e 1) (result_refusals (kind_of e)) (sure.points 1 part.valid.few) (result_none (kind_of e) (ap is_number sure.gives ∙ number))) in
      let texts = sure.texts part.patterns in
      record { none = none; patterns = texts; never = never_refused kept e none texts }

  by_form : (longest latest : ℕ) (p : Plan) → IsAskable longest latest kept p → IsRangeSelector (expression_of kept p) ⊎ (is_number (typing_at (out-PlanNode p.node)).kind ≡ true)
      → IsRangeSelector (expression_of kept p) ⊎ IsTaken kept (expression_of kept p)
  by_form longest latest p part (inl range) = inl range
  by_form longest latest p part (inr number) = inr (taken longest latest p part (ap (λ (t : Typing). is_number t.kind) (by_node node_typing (λ p. p.node) p) ∙ number))

  pub part_taken : (p : Plan) (e : Expr) → e ≡ expression_of kept p → (longest latest : ℕ) → IsAskable longest latest kept p → IsRangeSelector e ⊎ IsTaken kept e
  part_taken p e is longest latest part =
      subst (λ (x : Expr). IsRangeSelector x ⊎ IsTaken kept x) (sym is)
      (by_form longest latest p part
      (form (out-PlanNode p.node) p.at (expression_of kept p) (by_node (expression_step kept) (λ p. p.node p.at) p)
      (sym (by_node node_expressible (λ p. p.node) p) ∙ part.expressible) part.no_subquery))
