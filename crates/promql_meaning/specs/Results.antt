-- The result of an expression over a grid of instants. (Prometheus' instant and range queries. How an evaluation fails, the limit
-- on rows and the union of notes are this project's own.)
use Rattle.std.specs.Prelude.{ℕ, ◌+◌, nat_lt, Bool, true, false, ◌&&◌, List, [], ◌∷◌, ◌++◌, map, length, Option, None, Some, if◌then◌else◌}
use Rattle.std.specs.Option.{option_or, unwrap_or}
use Rattle.func_table.specs.declared.table.Func.{Func}
use Rattle.func_table.specs.declared.table.Func.TheVariants.{Scalar, Time}
use Rattle.promql_ast.specs.declared.tree.Expr.{Expr}
use Rattle.promql_ast.specs.declared.tree.Node.TheOpen.{Node-F}
use Rattle.promql_ast.specs.declared.tree.Node.TheFolds.{fold-Expr}
use Rattle.step_table.specs.Groups.{Names, gathered}
use Rattle.step_table.specs.Unions.{united}
use Rattle.step_table.specs.declared.marks.Mark.{Mark}
use Rattle.step_table.specs.declared.marks.Marks.{Marks}
use Rattle.step_table.specs.declared.step.Row.{Row}
use Rattle.ticks.specs.declared.grid.Grid.{Grid}
use Rattle.ticks.specs.declared.moment.Ms.{Ms}
use Rattle.promql_meaning.specs.declared.answer.Point.{Point}
use Rattle.promql_meaning.specs.declared.answer.ResultSeries.{ResultSeries}
use Rattle.promql_meaning.specs.declared.answer.Answer.{Answer}
use Rattle.promql_meaning.specs.declared.answer.Outcome.{Outcome}
use Rattle.promql_meaning.specs.declared.answer.Outcome.TheVariants as outcome
use Rattle.promql_meaning.specs.Givens.{no_marks}
use Rattle.promql_meaning.specs.Meaning.{meaning_step}
use Rattle.promql_meaning.specs.Orders.{ByValue, in_order, root_order}
use Rattle.promql_meaning.specs.Selecting.{Asked}
use Rattle.promql_meaning.specs.Subqueries.{as_times, instants_up_to}
use Rattle.step_table.specs.Timed.{StepAt, steps_over}

-- ---- the steps of a grid

-- the instants of a grid, rising
abbrev pub grid_times : Grid → List Ms
grid_times grid = as_times (instants_up_to grid.start.0 grid.end.0 grid.step.0)

-- ---- why an evaluation ends early

-- the most rows of a result, over all its instants
abbrev pub most_rows : ℕ
most_rows = 4000000

-- at one instant, where so many rows were counted at earlier ones: the least fatal mark, or else too many rows
abbrev pub stop_at : ℕ → StepAt → Option Outcome
stop_at earlier s = by_marks s.step.marks.fatal
  where
    by_marks : List Mark → Option Outcome
    by_marks [] = if nat_lt most_rows (earlier + length s.step.table.rows) then Some (outcome.TooManyRows s.at) else None
    by_marks (mark ∷ marks) = Some (outcome.Failed s.at mark)

-- the first instant at which an evaluation ends early
abbrev pub first_stop : ℕ → List StepAt → Option Outcome
first_stop earlier [] = None
first_stop earlier (s ∷ steps) = option_or (stop_at earlier s) (first_stop (earlier + length s.step.table.rows) steps)

-- ---- the answer

-- each row of a step as a point beside its labels
abbrev pub points_at : StepAt → List (Names × Point)
points_at s = map (λ (row : Row). (row.labels, record { at = s.at; value = row.value })) s.step.table.rows

abbrev pub all_points : List StepAt → List (Names × Point)
all_points [] = []
all_points (s ∷ steps) = points_at s ++ all_points steps

abbrev pub series_of_group : Names × List Point → ResultSeries
series_of_group group = record { labels = group.0; points = group.1 }

-- for all labels of rows, the times and values of the rows that have them, in the order of labels
abbrev pub series_of : List StepAt → List ResultSeries
series_of steps = map series_of_group (gathered (all_points steps))

-- the notes and marks of all instants together
abbrev pub all_marks : Marks → List StepAt → Marks
all_marks marks [] = marks
all_marks marks (s ∷ steps) = all_marks (united marks s.step.marks) steps

-- whether an expression gives a scalar
abbrev pub call_gives_scalar : Func → Bool
call_gives_scalar Scalar = true
call_gives_scalar Time = true
call_gives_scalar _ = false

abbrev pub node_gives_scalar : Node-F Bool Bool → Bool
node_gives_scalar (Node-F.Number value) = true
node_gives_scalar (Node-F.Paren inner) = inner
node_gives_scalar (Node-F.Negate inner) = inner
node_gives_scalar (Node-F.Call f arguments) = call_gives_scalar f
node_gives_scalar (Node-F.Pair op left right pairing) = left && right
node_gives_scalar _ = false

abbrev pub gives_scalar : Expr → Bool
gives_scalar = fold-Expr Bool Bool node_gives_scalar (λ e. e.node)

-- by value where an instant's expression asks for it at its root, else by labels
abbrev pub order_asked : Bool → Expr → Option ByValue
order_asked instant e = if instant then root_order e else None

abbrev pub answer_of : Bool → Expr → List StepAt → Answer
answer_of instant e steps =
    record { scalar = gives_scalar e; series = in_order (order_asked instant e) (series_of steps); notes = (all_marks no_marks steps).notes }

-- what is answered of the steps of an expression
abbrev pub judged : Bool → Expr → List StepAt → Outcome
judged instant e steps = unwrap_or (first_stop 0 steps) (outcome.Answer (answer_of instant e steps))

-- the result of an expression over a grid: the first instant that fails or has too many rows, or else the answer
abbrev pub result_of : Asked → Expr → Grid → Bool → Outcome
result_of asked e grid instant = judged instant e (steps_over (meaning_step asked e) (grid_times grid))
