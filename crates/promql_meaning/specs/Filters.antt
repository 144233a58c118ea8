-- A filter of rules over rows and over windows: a selector of more rules is a selector with such a filter behind it. (This
-- project's own.)
use Rattle.std.specs.Prelude.{◌≡◌, ℕ, ℤ, Bool, List, ◌++◌, filter, map}
use Rattle.label_set.specs.declared.rules.Rule.{Rule}
use Rattle.match_rule.specs.Patterns.{labels_pass}
use Rattle.step_table.specs.declared.step.Row.{Row}
use Rattle.step_table.specs.declared.windows.WindowRow.{WindowRow}
use Rattle.promql_meaning.specs.Givens.{unstamped}
use Rattle.promql_meaning.specs.Selecting.{AllSeries, newest_rows, passing, window_rows}

-- the rows, and the windows, whose labels pass all rules
abbrev pub passing_rows : List (Bool × List ℕ) → List Rule → List Row → List Row
passing_rows kept rules rows = filter (λ (row : Row). labels_pass kept rules row.labels) rows

abbrev pub passing_windows : List (Bool × List ℕ) → List Rule → List WindowRow → List WindowRow
passing_windows kept rules windows = filter (λ (row : WindowRow). labels_pass kept rules row.labels) windows

-- the newest rows of the series that pass some rules and more are those of the series that pass the first, filtered
abbrev pub MoreRulesFilterRows : Type 0
MoreRulesFilterRows =
    (samples : AllSeries) (kept : List (Bool × List ℕ)) (rules more : List Rule) (closed : Bool) (m : ℤ)
    → map unstamped (newest_rows closed m (passing samples kept (rules ++ more))) ≡ passing_rows kept more (map unstamped (newest_rows closed m (passing samples kept rules)))

-- and so are their windows
abbrev pub MoreRulesFilterWindows : Type 0
MoreRulesFilterWindows =
    (samples : AllSeries) (kept : List (Bool × List ℕ)) (rules more : List Rule) (closed : Bool) (m range : ℤ)
    → window_rows closed m range (passing samples kept (rules ++ more)) ≡ passing_windows kept more (window_rows closed m range (passing samples kept rules))
