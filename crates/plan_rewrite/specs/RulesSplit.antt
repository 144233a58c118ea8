-- Series that pass a list of rules are those that pass a part of it and the rest. (This project's own.)
use Rattle.std.proofs.Common.{◌≡◌, ◌∙◌, List, ◌++◌, map, ap, sym, Bool}
use Rattle.std.specs.Prelude.{ℤ, filter}
use Rattle.label_set.specs.LabelOrder.{by_labels}
use Rattle.label_set.specs.declared.rules.Rule.{Rule}
use Rattle.promql_meaning.specs.Filters.{MoreRulesFilterRows, MoreRulesFilterWindows, passing_rows, passing_windows}
use Rattle.promql_meaning.specs.Givens.{unstamped}
use Rattle.promql_meaning.specs.Selecting.{AllSeries, Asked, Samples, newest_rows, passing, window_rows}
use Rattle.step_table.specs.Groups.{Names}
use Rattle.plan_rewrite.specs.RuleLaws.{added_together}
use Rattle.plan_rewrite.specs.RuleLists.{AreTogether}

module _ (asked : Asked) (all base more : List Rule) (together : AreTogether asked all base more) where
  same_series : passing asked.samples asked.kept (base ++ more) ≡ passing asked.samples asked.kept all
  same_series =
      ap (λ (f : Names × Samples → Bool). filter f (by_labels asked.samples)) (λ i. λ (s : Names × Samples). (added_together asked base more s.0 ∙ sym (together s.0)) i)

  pub rows_split : MoreRulesFilterRows → (closed : Bool) (m : ℤ)
      → passing_rows asked.kept more (map unstamped (newest_rows closed m (passing asked.samples asked.kept base))) ≡ map unstamped (newest_rows closed m (passing asked.samples asked.kept all))
  rows_split rows_pass closed m = sym (rows_pass asked.samples asked.kept base more closed m) ∙ ap (λ (series : AllSeries). map unstamped (newest_rows closed m series)) same_series

  pub windows_split : MoreRulesFilterWindows → (closed : Bool) (m range : ℤ)
      → passing_windows asked.kept more (window_rows closed m range (passing asked.samples asked.kept base)) ≡ window_rows closed m range (passing asked.samples asked.kept all)
  windows_split windows_pass closed m range = sym (windows_pass asked.samples asked.kept base more closed m range) ∙ ap (window_rows closed m range) same_series
