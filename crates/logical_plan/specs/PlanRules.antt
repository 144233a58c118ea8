-- What the nodes of plans give that no expression has: the samples' own times, a row under labels that are told, rows and windows
-- that pass rules, and a sum divided by a count. (This project's own; the last two are those of thanos-io/promql-engine.)
use Rattle.std.specs.Prelude.{ℕ, ℤ, Bool, true, false, List, [], map, Option, None, Some, Result, Ok, slice_get}
use Rattle.std.specs.BTreeMap.{is_at}
use Rattle.std.specs.Map.{lookup}
use Rattle.label_set.specs.Labels.{labels_cmp}
use Rattle.label_set.specs.declared.rules.PatternId.{PatternId}
use Rattle.label_set.specs.declared.rules.Rule.{Rule}
use Rattle.promql_ast.specs.declared.tree.Moment.{Moment}
use Rattle.promql_ast.specs.declared.tree.Selector.{Selector}
use Rattle.xfrac.specs.Arithmetic.{arithmetic}
use Rattle.xfrac.specs.declared.value.ArithOp.TheVariants.{Div}
use Rattle.xfrac.specs.declared.value.NumFault.{NumFault}
use Rattle.xfrac.specs.declared.value.XFrac.{XFrac}
use Rattle.step_table.specs.Groups.{Names}
use Rattle.step_table.specs.Operators.{some_value}
use Rattle.step_table.specs.Outcomes.{taken}
use Rattle.step_table.specs.Sets.{step_of_rows}
use Rattle.step_table.specs.Unions.{united}
use Rattle.step_table.specs.declared.outcomes.Outcome.{Outcome}
use Rattle.step_table.specs.declared.step.Row.{Row}
use Rattle.step_table.specs.declared.step.Step.{Step}
use Rattle.promql_meaning.specs.Absences.{absence_under}
use Rattle.promql_meaning.specs.Elements.{at_instant, nameless, row_by_row, seconds_of}
use Rattle.promql_meaning.specs.Filters.{passing_rows, passing_windows}
use Rattle.promql_meaning.specs.Givens.{no_marks, step_of, unstamped}
use Rattle.promql_meaning.specs.declared.given.Given.{Given}
use Rattle.promql_meaning.specs.declared.given.Given.TheVariants as given
use Rattle.promql_meaning.specs.declared.given.Stamped.{Stamped}

-- ---- the samples' own times

abbrev pub selector_of : List Rule → Moment → Selector
selector_of rules moment = record { rules = rules; moment = moment }

-- a sample's own time in seconds, under its labels
abbrev pub time_outcome : Stamped → Outcome
time_outcome row = record { labels = row.labels; value = seconds_of row.at.0 }

-- the newest samples; where they are stamped their own times in seconds
abbrev pub newest_of : Bool → List Stamped → Step
newest_of false rows = step_of_rows (map unstamped rows) no_marks
newest_of true rows = taken no_marks (map time_outcome rows)

abbrev pub own_outcome : Row → Outcome
own_outcome row = record { labels = nameless row.labels; value = Ok (Some row.value) }

-- rows that are the samples' own times stay, in any others stands the instant; both lose the name
abbrev pub stamp : Bool → ℤ → Step → Step
stamp true t step = row_by_row own_outcome step
stamp false t step = at_instant t step

-- ---- labels that are told

-- one row 1 where a vector has no rows, or windows have none
abbrev pub absent_under : Option Names → Given → Step
absent_under labels (given.Windows windows) = absence_under labels windows.rows windows.marks
absent_under labels g = absence_under labels (step_of g).table.rows (step_of g).marks

-- ---- patterns by their numbers

abbrev pub text_or_empty : Option (Bool × List ℕ) → List ℕ
text_or_empty None = []
text_or_empty (Some pattern) = pattern.1

-- the text that is kept under a number
abbrev pub pattern_text : List (Bool × List ℕ) → PatternId → List ℕ
pattern_text kept id = text_or_empty (slice_get kept id.0)

-- ---- rows and windows that pass rules

abbrev pub filtered : List (Bool × List ℕ) → List Rule → Given → Given
filtered kept rules (given.Windows windows) = given.Windows (record windows { rows = passing_windows kept rules windows.rows })
filtered kept rules g = given.Vector (step_of_rows (passing_rows kept rules (step_of g).table.rows) (step_of g).marks)

-- ---- a sum divided by a count

abbrev pub keyed : Row → Names × XFrac
keyed row = (row.labels, row.value)

-- a sum without a count gives no row
abbrev pub divided_by : Option XFrac → XFrac → Result (Option XFrac) NumFault
divided_by None sum = Ok None
divided_by (Some count) sum = some_value (arithmetic Div sum count)

abbrev pub ratio_outcome : List Row → Row → Outcome
ratio_outcome counts row = record { labels = row.labels; value = divided_by (lookup (is_at (labels_cmp row.labels)) (map keyed counts)) row.value }

-- each row of the sum, divided by the row of the count that has its labels
abbrev pub ratio : Step → Step → Step
ratio sum count = taken (united sum.marks count.marks) (map (ratio_outcome count.table.rows) sum.table.rows)
