-- A selector over its base means what it meant.
use Rattle.std.proofs.Common.{◌≡◌, ◌∙◌, ℕ, List, [], ◌∷◌, ap, sym, refl, Some, None, Bool, true, false, cond}
use Rattle.std.specs.Prelude.{Option, option_map}
use Rattle.std.specs.List.{find}
use Rattle.label_set.specs.declared.rules.Rule.{Rule}
use Rattle.promql_ast.specs.declared.tree.Moment.{Moment}
use Rattle.ticks.specs.declared.moment.Ms.{Ms}
use Rattle.promql_meaning.specs.Filters.{MoreRulesFilterRows, MoreRulesFilterWindows}
use Rattle.promql_meaning.specs.Selecting.{Asked}
use Rattle.logical_plan.specs.declared.nodes.PlanNode.TheVariants as node
use Rattle.logical_plan.specs.declared.nodes.PlanNode.TheOpen.{PlanNode-F}
use Rattle.plan_rewrite.specs.FilteredSelectors.{range_kept, select_kept}
use Rattle.plan_rewrite.specs.NodeMeanings.{at_range, at_select, rolled_means}
use Rattle.plan_rewrite.specs.Rebuilding.{KeepsMeaning, node_of}
use Rattle.plan_rewrite.specs.RuleLaws.{parts_together}
use Rattle.plan_rewrite.specs.RuleLists.{is_part, lacking}
use Rattle.opt_selects.specs.Bases.{base_among, is_base, merge_selects, over_base}
use Rattle.opt_selects.specs.declared.found.Found.{Found}
use Rattle.opt_selects.proofs.BaseParts.{base_parts}

part_among : (found : List Found) (rules : List Rule) (moment : Moment) (range : Option Ms) (base : List Rule) → base_among found rules moment range ≡ Some base → is_part base rules ≡ true
part_among [] rules moment range base e = absurd (cc)
part_among (a ∷ found) rules moment range base e = by (is_base rules moment range a) refl e (part_among found rules moment range base)
  where
    by : (b : Bool) → is_base rules moment range a ≡ b → option_map (λ (a : Found). a.rules) (cond b (Some a) (find (is_base rules moment range) found)) ≡ Some base
        → (base_among found rules moment range ≡ Some base → is_part base rules ≡ true) → is_part base rules ≡ true
    by true is e rest = let same : a.rules ≡ base = cc in ap (λ r. is_part r rules) (sym same) ∙ (base_parts rules moment range a is).part
    by false is e rest = rest e

module _ (rows_pass : MoreRulesFilterRows) (windows_pass : MoreRulesFilterWindows) (asked : Asked) (found : List Found) where
  select_same : (at : ℕ) (rules : List Rule) (moment : Moment) (o : Option (List Rule)) → base_among found rules moment None ≡ o
      → node_of asked (over_base at (λ r. node.Select r moment false) rules o) ≡ node_of asked (node.Select rules moment false)
  select_same at rules moment None is = refl
  select_same at rules moment (Some base) is = select_kept rows_pass windows_pass asked rules base (lacking base rules) (parts_together asked base rules (part_among found rules moment None base is)) at moment

  range_same : (at : ℕ) (rules : List Rule) (moment : Moment) (range : Ms) (o : Option (List Rule)) → base_among found rules moment (Some range) ≡ o
      → node_of asked (over_base at (λ r. node.Range r moment range) rules o) ≡ node_of asked (node.Range rules moment range)
  range_same at rules moment range None is = refl
  range_same at rules moment range (Some base) is =
      range_kept rows_pass windows_pass asked rules base (lacking base rules) (parts_together asked base rules (part_among found rules moment (Some range) base is)) at moment range

  pub merge_kept : KeepsMeaning asked (merge_selects found)
  merge_kept at (PlanNode-F.Select rules moment false) =
      select_same at rules moment (base_among found rules moment None) refl ∙ at_select asked rules moment false ∙ sym (rolled_means asked (PlanNode-F.Select rules moment false))
  merge_kept at (PlanNode-F.Range rules moment range) =
      range_same at rules moment range (base_among found rules moment (Some range)) refl ∙ at_range asked rules moment range ∙ sym (rolled_means asked (PlanNode-F.Range rules moment range))
  merge_kept at (PlanNode-F.Number value) = refl
  merge_kept at PlanNode-F.Time = refl
  merge_kept at (PlanNode-F.Select rules moment true) = refl
  merge_kept at (PlanNode-F.Subquery inner range step moment) = refl
  merge_kept at (PlanNode-F.Element f inner arguments) = refl
  merge_kept at (PlanNode-F.Stamp inner) = refl
  merge_kept at (PlanNode-F.Window f inner arguments) = refl
  merge_kept at (PlanNode-F.Absent labels inner) = refl
  merge_kept at (PlanNode-F.Buckets quantile inner) = refl
  merge_kept at (PlanNode-F.Relabel rule inner) = refl
  merge_kept at (PlanNode-F.Sort down inner) = refl
  merge_kept at (PlanNode-F.ScalarOf inner) = refl
  merge_kept at (PlanNode-F.VectorOf inner) = refl
  merge_kept at (PlanNode-F.Group f by arguments label) = refl
  merge_kept at (PlanNode-F.Pair op left right pairing) = refl
  merge_kept at (PlanNode-F.Set op left right pairing) = refl
  merge_kept at (PlanNode-F.Filter base rules) = refl
  merge_kept at (PlanNode-F.Ratio sum count) = refl
  merge_kept at (PlanNode-F.Once inner) = refl
  merge_kept at (PlanNode-F.Gather expr kind engines) = refl
