-- What a part means that engines are asked for, each over the samples that it holds. (This project's own; the engines are those of
-- thanos-io/promql-engine's distributed queries.)
use Rattle.std.specs.Prelude.{ℕ, ℤ, pos, List, [], slice_get, Option}
use Rattle.std.specs.List.{filter_map}
use Rattle.std.specs.Option.{option_map}
use Rattle.promql_ast.specs.declared.tree.Expr.{Expr}
use Rattle.promql_meaning.specs.Givens.{marked, no_marks}
use Rattle.promql_meaning.specs.Meaning.{meaning}
use Rattle.promql_meaning.specs.Selecting.{AllSeries, Asked}
use Rattle.promql_meaning.specs.declared.given.Given.{Given}
use Rattle.promql_meaning.specs.declared.given.Given.TheVariants as given
use Rattle.promql_meaning.specs.declared.given.Windows.{Windows}
use Rattle.step_cells.specs.Joined.{joined_partials, joined_rows, joined_windows}
use Rattle.step_cells.specs.Owed.{cells}
use Rattle.step_table.specs.Unions.{united}
use Rattle.step_table.specs.declared.cells.PartKind.{PartKind}
use Rattle.step_table.specs.declared.cells.PartKind.TheVariants as part
use Rattle.step_table.specs.declared.cells.StepCells.{StepCells}
use Rattle.step_table.specs.declared.marks.Marks.{Marks}

-- ---- what is owed

-- the same query over these samples, which are in one place
abbrev pub over_samples : Asked → AllSeries → Asked
over_samples asked samples = record asked { samples = samples; engines = [] }

-- what a part gives over some samples at an instant
abbrev pub given_over : Asked → Expr → ℤ → AllSeries → Given
given_over asked expr t samples = meaning (over_samples asked samples) expr t

-- what an engine owes that holds these samples
abbrev pub owed_over : Asked → Expr → PartKind → ℤ → AllSeries → StepCells
owed_over asked expr kind t samples = cells kind (record { 0 = t }) (given_over asked expr t samples)

-- what the engine of a number owes; where there is no such engine there is nothing
abbrev pub owed_by : Asked → Expr → PartKind → ℤ → ℕ → Option StepCells
owed_by asked expr kind t engine = option_map (owed_over asked expr kind t) (slice_get asked.engines engine)

-- what the engines of these numbers owe
abbrev pub all_owed : Asked → Expr → PartKind → List ℕ → ℤ → List StepCells
all_owed asked expr kind engines t = filter_map (owed_by asked expr kind t) engines

-- ---- what is joined

-- a range vector; what is none has no windows
abbrev pub windows_of : Given → Windows
windows_of (given.Windows windows) = windows
windows_of g = record { moment = record { 0 = pos 0 }; range = record { 0 = pos 0 }; rules = []; rows = []; marks = no_marks }

-- the windows of all engines, at the moment and of the range of a range vector
abbrev pub windows_among : Windows → ℤ → List StepCells → Marks → Windows
windows_among none t steps marks =
    record none { rules = []; rows = (joined_windows (record { 0 = t }) steps).rows; marks = united (joined_windows (record { 0 = t }) steps).marks marks }

-- what the cells of all engines come to, with these notes and marks
abbrev pub joined : PartKind → ℤ → List StepCells → Marks → Windows → Given
joined part.Rows t steps marks none = given.Vector (marked marks (joined_rows steps))
joined part.Windows t steps marks none = given.Windows (windows_among none t steps marks)
joined (part.Partial f by) t steps marks none = given.Vector (marked marks (joined_partials f steps))

-- what the engines owe that are asked, joined, with the notes and marks of the part over no samples
abbrev pub gathered : Asked → Expr → PartKind → List ℕ → ℤ → Given
gathered asked expr kind engines t =
    joined kind t (all_owed asked expr kind engines t) (owed_over asked expr kind t []).marks (windows_of (given_over asked expr t []))
