-- What users of topk and bottomk rely on: at most k rows of each group, and whoever is left out has k before it.
use Rattle.std.specs.Prelude.{ℕ, ◌≤◌, Bool, List, count_by}
use Rattle.std.specs.BTreeMap.{is_at}
use Rattle.std.specs.List.{AllByRecursion, Contains}
use Rattle.label_set.specs.Labels.{labels_cmp}
use Rattle.label_set.specs.declared.rules.Grouping.{Grouping}
use Rattle.xfrac.specs.Laws.{IsNumber}
use Rattle.step_table.specs.Groups.{Names}
use Rattle.step_table.specs.WellFormed.{IsTable}
use Rattle.step_table.specs.declared.step.Row.{Row}
use Rattle.promql_meaning.specs.Ranks.{first_rows, is_ahead, kept_labels}

-- whether a row is of the group of some labels
abbrev pub is_of_group : Grouping → Names → Row → Bool
is_of_group by names row = is_at (labels_cmp names) (kept_labels by row.labels)

-- of the rows of each group at most k are kept
abbrev pub RanksAreFew : Type 0
RanksAreFew =
    (down : Bool) (by : Grouping) (k : ℕ) (rows : List Row) (names : Names)
    → IsTable rows → AllByRecursion (λ (row : Row). IsNumber row.value) rows
    → count_by (is_of_group by names) (first_rows down by k rows) ≤ k

-- a row that isn't kept has k rows at least of its group before it
abbrev pub LeftOutAreBehind : Type 0
LeftOutAreBehind =
    (down : Bool) (by : Grouping) (k : ℕ) (rows : List Row) (row : Row)
    → Contains rows row → (Contains (first_rows down by k rows) row → ⊥)
    → k ≤ count_by (is_ahead down by row) rows
