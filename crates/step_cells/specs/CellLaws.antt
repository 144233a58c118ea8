-- What users of cells rely on. (This project's own.)
use Rattle.std.specs.Prelude.{◌≡◌, ℕ, ◌+◌, ◌⊎◌, Bool, true, List, [], ◌∷◌, ◌++◌, map, Ok, Some, IsTrue, ⊤}
use Rattle.std.specs.List.{All, AllByRecursion}
use Rattle.std.specs.List.Sorted.{IsStrictlySortedBy}
use Rattle.func_table.specs.declared.table.Aggregate.{Aggregate}
use Rattle.func_table.specs.declared.table.Aggregate.TheVariants.{Count}
use Rattle.label_set.specs.Labels.{labels_cmp}
use Rattle.label_set.specs.declared.rules.Grouping.{Grouping}
use Rattle.ticks.specs.declared.moment.Ms.{Ms}
use Rattle.xfrac.specs.AnySize.{InLowestTerms}
use Rattle.xfrac.specs.Arithmetic.{whole_number}
use Rattle.xfrac.specs.Laws.{IsNumber}
use Rattle.xfrac.specs.Sums.{StandsFor}
use Rattle.xfrac.specs.declared.value.XFrac.{XFrac}
use Rattle.step_table.specs.Alike.{has_some}
use Rattle.step_table.specs.Groups.{Names, has_several, items_of, shared_names}
use Rattle.step_table.specs.Laws.{has_mark}
use Rattle.step_table.specs.Outcomes.{keyed, keyed_by}
use Rattle.step_table.specs.Shuffles.{Shuffled}
use Rattle.step_table.specs.Timed.{StepAt}
use Rattle.step_table.specs.WellFormed.{AreSets, IsTable}
use Rattle.step_table.specs.declared.cells.Cell.{Cell}
use Rattle.step_table.specs.declared.cells.Cell.TheVariants as cell
use Rattle.step_table.specs.declared.cells.CellRow.{CellRow}
use Rattle.step_table.specs.declared.cells.StepCells.{StepCells}
use Rattle.step_table.specs.declared.marks.Mark.TheVariants.{Overflow, SameLabelset}
use Rattle.step_table.specs.declared.step.Row.{Row}
use Rattle.step_table.specs.declared.step.Step.{Step}
use Rattle.step_table.specs.declared.windows.WindowRow.{WindowRow}
use Rattle.step_batch.specs.LentWindows.{WindowsAt, names_of}
use Rattle.promql_meaning.specs.Aggregations.{aggregated}
use Rattle.step_cells.specs.Joined.{counted_in, finished, joined_partials, joined_rows, joined_windows, rows_in, windows_in}
use Rattle.step_cells.specs.Owed.{is_partial, partial_cell, partial_cells, row_cells, window_cells}

-- ---- what is joined agrees with the aggregation

-- whether a step has the mark Overflow
abbrev pub has_overflow : Step → Bool
has_overflow step = has_mark step.marks.fatal Overflow

-- two steps agree where they are equal, or where both have the mark Overflow
abbrev pub Agree : Step → Step → Type 0
Agree a b = (a ≡ b) ⊎ ((has_overflow a ≡ true) × (has_overflow b ≡ true))

-- the rows of all steps
abbrev pub rows_of_all : List StepAt → List Row
rows_of_all [] = []
rows_of_all (s ∷ steps) = s.step.table.rows ++ rows_of_all steps

-- the values of rows are fractions in lowest terms, of any size
abbrev pub HaveLowestTerms : List Row → Type 0
HaveLowestTerms rows = AllByRecursion (λ (row : Row). InLowestTerms row.value) rows

-- the cells of the groups of each engine's rows, joined, agree with the aggregation of the rows of all engines, where no two
-- of these rows share labels
abbrev pub PartialsAgree : Type 0
PartialsAgree =
    (f : Aggregate) (by : Grouping) (arg : XFrac) (label : List ℕ) (steps : List StepAt)
    → IsTrue (is_partial f)
    → shared_names (keyed (rows_of_all steps)) ≡ []
    → HaveLowestTerms (rows_of_all steps)
    → Agree (joined_partials f (map (partial_cells f by) steps)) (aggregated f by arg label (joined_rows (map row_cells steps)))

-- the cells of one engine, joined, agree with the aggregation of its rows
abbrev pub OneEngineAgrees : Type 0
OneEngineAgrees =
    (f : Aggregate) (by : Grouping) (arg : XFrac) (label : List ℕ) (s : StepAt)
    → IsTrue (is_partial f)
    → IsTable s.step.table.rows
    → HaveLowestTerms s.step.table.rows
    → Agree (joined_partials f (partial_cells f by s ∷ [])) (aggregated f by arg label s.step)

-- merged counts are added as whole numbers
abbrev pub CountsAreAdded : Type 0
CountsAreAdded = (xs ys : List Cell) → finished Count (xs ++ ys) ≡ Ok (Some (whole_number (counted_in xs + counted_in ys)))

-- ---- engines in another order

-- the value in a cell is a number, and its sum is of numbers
abbrev pub IsSound : Cell → Type 0
IsSound (cell.Value value) = IsNumber value
IsSound (cell.Sum t) = (xs : List XFrac) × All IsNumber xs × StandsFor t xs
IsSound (cell.Count n) = ⊤
IsSound (cell.Window times values) = ⊤

-- the marks of what an engine gives are sets, and its cells sound
pub record AreSound (step : StepCells) : Type 0 where
  pub marks : AreSets step.marks
  pub cells : AllByRecursion (λ (row : CellRow). IsSound row.cell) step.rows

abbrev pub HaveSets : List StepCells → Type 0
HaveSets steps = AllByRecursion (λ (step : StepCells). AreSets step.marks) steps

abbrev pub RowsIgnoreOrder : Type 0
RowsIgnoreOrder = (steps others : List StepCells) → HaveSets steps → Shuffled steps others → joined_rows steps ≡ joined_rows others

abbrev pub WindowsIgnoreOrder : Type 0
WindowsIgnoreOrder =
    (at : Ms) (steps others : List StepCells) → HaveSets steps → Shuffled steps others → joined_windows at steps ≡ joined_windows at others

abbrev pub PartialsIgnoreOrder : Type 0
PartialsIgnoreOrder =
    (f : Aggregate) (steps others : List StepCells)
    → IsTrue (is_partial f)
    → AllByRecursion AreSound steps
    → Shuffled steps others
    → joined_partials f steps ≡ joined_partials f others

-- the cell of a group doesn't depend on the order of its values
abbrev pub CellIgnoresOrder : Type 0
CellIgnoresOrder = (f : Aggregate) (xs ys : List XFrac) → All IsNumber xs → Shuffled xs ys → partial_cell f xs ≡ partial_cell f ys

-- the values of rows are numbers
abbrev pub HaveNumbers : List Row → Type 0
HaveNumbers rows = AllByRecursion (λ (row : Row). IsNumber row.value) rows

-- the cells that an engine owes of numbers are sound
abbrev pub OwedIsSound : Type 0
OwedIsSound =
    (f : Aggregate) (by : Grouping) (s : StepAt) → AreSets s.step.marks → HaveNumbers s.step.table.rows → AreSound (partial_cells f by s)

-- ---- one engine, and labels that several give

-- rows or windows of one engine are left as they are
abbrev pub OneEnginesRows : Type 0
OneEnginesRows = (s : StepAt) → IsTable s.step.table.rows → joined_rows (row_cells s ∷ []) ≡ s.step

abbrev pub OneEnginesWindows : Type 0
OneEnginesWindows = (w : WindowsAt) → IsStrictlySortedBy labels_cmp (names_of w.rows) → joined_windows w.at (window_cells w ∷ []) ≡ w

-- rows under labels, and windows
abbrev pub rows_under : List Row → Names → List Row
rows_under rows labels = items_of (keyed rows) labels

abbrev pub windows_under : List WindowRow → Names → List WindowRow
windows_under rows labels = items_of (keyed_by (λ (w : WindowRow). w.labels) rows) labels

-- labels that several rows have are left out, with their mark
abbrev pub SharedRowsAreLeftOut : Type 0
SharedRowsAreLeftOut =
    (steps : List StepCells) (labels : Names)
    → has_several (rows_under (rows_in steps) labels) ≡ true
    → (rows_under (joined_rows steps).table.rows labels ≡ []) × (has_mark (joined_rows steps).marks.fatal (SameLabelset labels) ≡ true)

abbrev pub SharedWindowsAreLeftOut : Type 0
SharedWindowsAreLeftOut =
    (at : Ms) (steps : List StepCells) (labels : Names)
    → has_several (windows_under (windows_in steps) labels) ≡ true
    → (windows_under (joined_windows at steps).rows labels ≡ []) × (has_mark (joined_windows at steps).marks.fatal (SameLabelset labels) ≡ true)

-- whether an engine gives a row under labels, and whether it gives a window
abbrev pub has_row : StepCells → Names → Bool
has_row step labels = has_some (rows_under (rows_in (step ∷ [])) labels)

abbrev pub has_window : StepCells → Names → Bool
has_window step labels = has_some (windows_under (windows_in (step ∷ [])) labels)

-- so labels that two engines give are left out, with their mark
abbrev pub RowsOfTwoAreLeftOut : Type 0
RowsOfTwoAreLeftOut =
    (front between back : List StepCells) (a b : StepCells) (labels : Names)
    → has_row a labels ≡ true
    → has_row b labels ≡ true
    → let steps = front ++ a ∷ (between ++ b ∷ back) in
    (rows_under (joined_rows steps).table.rows labels ≡ []) × (has_mark (joined_rows steps).marks.fatal (SameLabelset labels) ≡ true)

abbrev pub WindowsOfTwoAreLeftOut : Type 0
WindowsOfTwoAreLeftOut =
    (at : Ms) (front between back : List StepCells) (a b : StepCells) (labels : Names)
    → has_window a labels ≡ true
    → has_window b labels ≡ true
    → let steps = front ++ a ∷ (between ++ b ∷ back) in
    (windows_under (joined_windows at steps).rows labels ≡ []) × (has_mark (joined_windows at steps).marks.fatal (SameLabelset labels) ≡ true)
