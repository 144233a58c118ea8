-- topk and bottomk, and the order of rows by value. (Prometheus querying, "Aggregation operators". That ties go by labels, and
-- which parameters fail, is this project's own.)
use Rattle.std.specs.Prelude.{ℕ, ◌/◌, pos, negsuc, Bool, ◌&&◌, ◌||◌, not, nat_le, nat_lt, List, [], ◌∷◌, filter, count_by, Option, None, Some, if◌then◌else◌}
use Rattle.std.specs.BTreeMap.{is_at}
use Rattle.std.specs.Ordering.{is_lt, ordering_then}
use Rattle.std.specs.declared.cmp.Ordering.{Ordering}
use Rattle.label_set.specs.Labels.{labels_cmp, signature}
use Rattle.label_set.specs.declared.rules.Grouping.{Grouping}
use Rattle.xfrac.specs.Kinds.{is_not_a_number}
use Rattle.xfrac.specs.Order.{total_order}
use Rattle.xfrac.specs.declared.value.XFrac.{XFrac}
use Rattle.xfrac.specs.declared.value.XFrac.TheVariants.{Fin, PosInf, NegInf, NaN}
use Rattle.step_table.specs.Groups.{Names}
use Rattle.step_table.specs.Unions.{with_fatal}
use Rattle.step_table.specs.declared.marks.Mark.TheVariants.{Overflow}
use Rattle.step_table.specs.declared.step.Row.{Row}
use Rattle.step_table.specs.declared.step.Step.{Step}
use Rattle.promql_meaning.specs.Givens.{barren}
use Rattle.step_table.specs.Sets.{step_of_rows}

-- the labels of a row's group: the listed ones, or all but the listed and the metric's name
abbrev pub kept_labels : Grouping → Names → Names
kept_labels by names = signature (not by.without) by.names names

-- ---- the order by value

-- up or down; NaN comes last in both
abbrev pub value_order : Bool → XFrac → XFrac → Ordering
value_order down a b = if down && not (is_not_a_number a || is_not_a_number b) then total_order b a else total_order a b

-- rows by their values, those of equal values by their labels
abbrev pub row_order : Bool → Row → Row → Ordering
row_order down a b = ordering_then (value_order down a.value b.value) (labels_cmp a.labels b.labels)

abbrev pub comes_before : Bool → Row → Row → Bool
comes_before down a b = is_lt (row_order down a b)

-- ---- the first rows of each group

abbrev pub if_within : ℕ → Option ℕ
if_within n = if nat_le n 9223372036854775807 then Some n else None

-- how many rows a parameter asks for: it is cut to a whole number, and below 1 none are; there is no answer for NaN and for what
-- is then above 2^63 - 1
abbrev pub rank_count : XFrac → Option ℕ
rank_count (Fin (pos n, d)) = if_within (n / d)
rank_count (Fin (negsuc n, d)) = Some 0
rank_count NegInf = Some 0
rank_count PosInf = None
rank_count NaN = None

-- another row of the same group comes before a row
abbrev pub is_ahead : Bool → Grouping → Row → Row → Bool
is_ahead down by row other = is_at (labels_cmp (kept_labels by row.labels)) (kept_labels by other.labels) && comes_before down other row

-- fewer than k rows of its group come before a row
abbrev pub is_ranked : Bool → Grouping → ℕ → List Row → Row → Bool
is_ranked down by k rows row = nat_lt (count_by (is_ahead down by row) rows) k

-- the first k rows of each group, with all their labels
abbrev pub first_rows : Bool → Grouping → ℕ → List Row → List Row
first_rows down by k rows = filter (is_ranked down by k rows) rows

-- the first rows of each group, as many as are asked for; where there is no such number the step has no rows and fails
abbrev pub ranked_to : Bool → Grouping → Step → Option ℕ → Step
ranked_to down by step None = barren (with_fatal step.marks (Overflow ∷ []))
ranked_to down by step (Some k) = step_of_rows (first_rows down by k step.table.rows) step.marks

-- topk goes down, bottomk up; a parameter that asks for no number of rows fails, whatever the groups are
abbrev pub ranked : Bool → Grouping → XFrac → Step → Step
ranked down by arg step = ranked_to down by step (rank_count arg)
