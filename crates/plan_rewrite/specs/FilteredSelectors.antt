-- A filter over a selector of a part of the rules is the selector of all, for proofs. (This project's own.)
use Rattle.std.proofs.Common.{◌≡◌, ◌∙◌, ℕ, List, [], ap, sym, false}
use Rattle.std.specs.Prelude.{ℤ}
use Rattle.label_set.specs.declared.rules.Rule.{Rule}
use Rattle.promql_ast.specs.declared.tree.Moment.{Moment}
use Rattle.ticks.specs.declared.moment.Ms.{Ms}
use Rattle.promql_meaning.specs.Filters.{MoreRulesFilterRows, MoreRulesFilterWindows}
use Rattle.promql_meaning.specs.Givens.{no_marks}
use Rattle.promql_meaning.specs.Selecting.{Asked, moment_of}
use Rattle.promql_meaning.specs.declared.given.Given.TheVariants as given
use Rattle.step_table.specs.Sets.{step_of_rows}
use Rattle.step_table.specs.declared.step.Row.{Row}
use Rattle.step_table.specs.declared.windows.WindowRow.{WindowRow}
use Rattle.logical_plan.specs.declared.nodes.PlanNode.TheVariants as node
use Rattle.logical_plan.specs.declared.nodes.PlanNode.TheOpen.{PlanNode-F}
use Rattle.logical_plan.specs.Lowering.{planned}
use Rattle.logical_plan.specs.PlanFolds.{of-Select, of-Range}
use Rattle.logical_plan.specs.PlanMeaning.{Meant, node_meant}
use Rattle.plan_rewrite.specs.NodeMeanings.{at_filter, at_range, at_select}
use Rattle.plan_rewrite.specs.Rebuilding.{node_of}
use Rattle.plan_rewrite.specs.RuleLists.{AreTogether}
use Rattle.plan_rewrite.specs.RulesSplit.{rows_split, windows_split}

module _ (rows_pass : MoreRulesFilterRows) (windows_pass : MoreRulesFilterWindows) (asked : Asked) (all base more : List Rule) (together : AreTogether asked all base more) where
  pub select_kept : (at : ℕ) (moment : Moment) → node_of asked (node.Filter (planned at (node.Select base moment false)) more) ≡ node_of asked (node.Select all moment false)
  select_kept at moment =
      at_filter asked (planned at (node.Select base moment false)) more
      ∙ ap (λ (m : Meant). node_meant asked (PlanNode-F.Filter m more)) (of-Select (node_meant asked) (λ p. p.node) at base moment false)
      ∙ ap (λ (rows : ℤ → List Row). record { own = false; gives = λ (t : ℤ). given.Vector (step_of_rows (rows t) no_marks) }) (λ i. λ (t : ℤ). rows_split asked all base more together rows_pass moment.closed (moment_of asked moment t) i)
      ∙ sym (at_select asked all moment false)

  pub range_kept : (at : ℕ) (moment : Moment) (range : Ms) → node_of asked (node.Filter (planned at (node.Range base moment range)) more) ≡ node_of asked (node.Range all moment range)
  range_kept at moment range =
      at_filter asked (planned at (node.Range base moment range)) more
      ∙ ap (λ (m : Meant). node_meant asked (PlanNode-F.Filter m more)) (of-Range (node_meant asked) (λ p. p.node) at base moment range)
      ∙ ap (λ (rows : ℤ → List WindowRow). record {
        own = false;
        gives = λ (t : ℤ). given.Windows (record {
          moment = record { 0 = moment_of asked moment t };
          range = range;
          rules = [];
          rows = rows t;
          marks = no_marks;
        });
      }) (λ i. λ (t : ℤ). windows_split asked all base more together windows_pass moment.closed (moment_of asked moment t) range.0 i)
      ∙ sym (at_range asked all moment range)
