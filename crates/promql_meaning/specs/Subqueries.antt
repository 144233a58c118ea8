-- Subqueries: an expression at the multiples of a step in a range. (Prometheus querying, "Subquery"; ranges are open on the left
-- as from Prometheus 3 on, or closed as before.)
use Rattle.std.specs.Prelude.{Bool, ℕ, zero, suc, List, [], ◌∷◌, map, ℤ, ◌+ℤ◌, ◌-ℤ◌, int_lt, Option, if◌then◌else◌}
use Rattle.std.specs.Int.{int_rem_euclid}
use Rattle.std.specs.List.{filter_map}
use Rattle.ticks.specs.Edges.{before}
use Rattle.ticks.specs.Grids.{step_count}
use Rattle.ticks.specs.declared.moment.Ms.{Ms}
use Rattle.step_table.specs.Groups.{Names, gathered}
use Rattle.step_table.specs.Timed.{StepAt, marks_of_steps, rows_of_steps, steps_over}
use Rattle.step_table.specs.declared.marks.Marks.{Marks}
use Rattle.step_table.specs.declared.step.Step.{Step}
use Rattle.step_table.specs.declared.windows.WindowRow.{WindowRow}
use Rattle.xfrac.specs.declared.value.XFrac.{XFrac}
use Rattle.promql_meaning.specs.declared.given.Windows.{Windows}
use Rattle.promql_meaning.specs.Givens.{no_marks}
use Rattle.promql_meaning.specs.Selecting.{window_row}

-- ---- instants

-- so many instants from a first one on, a step apart
abbrev pub instants : ℤ → ℤ → ℕ → List ℤ
instants first step zero = []
instants first step (suc n) = first ∷ instants (first +ℤ step) step n

-- a first instant and those after it, a step apart, up to a last time
abbrev pub instants_up_to : ℤ → ℤ → ℤ → List ℤ
instants_up_to first last step = if int_lt last first then [] else instants first step (step_count first last step)

-- the least multiple of a step that is later than a time
abbrev pub multiple_after : ℤ → ℤ → ℤ
multiple_after step edge = edge +ℤ (step -ℤ int_rem_euclid edge step)

-- the least multiple of a step behind a left edge; where it is closed the edge itself may be that one
abbrev pub first_multiple : Bool → ℤ → ℤ → ℤ
first_multiple closed step edge = multiple_after step (before closed edge)

-- the multiples of a step in the range up to a moment, whose left edge is taken where it is closed
abbrev pub multiples : Bool → ℤ → ℤ → ℤ → List ℤ
multiples closed m range step = instants_up_to (first_multiple closed step (m -ℤ range)) m step

abbrev pub as_times : List ℤ → List Ms
as_times us = map (λ (u : ℤ). record { 0 = u }) us

-- ---- a meaning at some instants

-- the rows of all instants, each beside its instant
abbrev pub rows_over : (ℤ → Step) → List Ms → List (Names × (Ms × XFrac))
rows_over meaning us = rows_of_steps (steps_over meaning us)

-- the notes and marks of all instants, together with others
abbrev pub marks_over : (ℤ → Step) → Marks → List Ms → Marks
marks_over meaning marks us = marks_of_steps marks (steps_over meaning us)

abbrev pub group_window : Names × List (Ms × XFrac) → Option WindowRow
group_window group = window_row group.0 group.1

-- for all labels of rows, the times and values of the rows that have them
abbrev pub gathered_windows : List (Names × (Ms × XFrac)) → List WindowRow
gathered_windows rows = filter_map group_window (gathered rows)

-- the windows of steps in a range that ends at a moment
abbrev pub points_of_steps : Ms → ℤ → List StepAt → Windows
points_of_steps range m steps =
    record { moment = record { 0 = m }; range = range; rules = []; rows = gathered_windows (rows_of_steps steps); marks = marks_of_steps no_marks steps }

-- the windows of a subquery at a moment: at the multiples of its step in the range up to it, what the inner expression means
abbrev pub points_of : Bool → (ℤ → Step) → Ms → Ms → ℤ → Windows
points_of closed inner range step m = points_of_steps range m (steps_over inner (as_times (multiples closed m range.0 step.0)))
