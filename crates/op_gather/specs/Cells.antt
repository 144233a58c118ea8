-- What is asked of cells of groups before they are merged. (This project's own.)
use Rattle.std.specs.Prelude.{◌≡◌, ◌<◌, ◌≤◌, ◌*◌, ◌^◌, ℕ, true, List, length, Option, IfSome}
use Rattle.std.specs.List.{AllByRecursion, list_all}
use Rattle.func_table.specs.declared.table.Aggregate.{Aggregate}
use Rattle.step_batch.specs.LentWindows.{IsWindow}
use Rattle.step_cells.specs.Joined.{window_under}
use Rattle.step_table.specs.declared.cells.Cell.{Cell}
use Rattle.step_table.specs.declared.cells.CellRow.{CellRow}
use Rattle.step_table.specs.declared.cells.StepCells.{StepCells}
use Rattle.xfrac.specs.Sums.{Totals}
use Rattle.remote_api.specs.Strays.{is_distinct, is_group_cell}

-- the cells of a step are of an aggregation's groups, no two of one group
pub record AreGroups (f : Aggregate) (step : StepCells) : Type 0 where
  pub cells : list_all (λ (row : CellRow). is_group_cell f row.cell) step.rows ≡ true
  pub distinct : is_distinct step.rows ≡ true

-- the cells of one group: at least one, and no more than there may be engines
pub record MayFinish (f : Aggregate) (cells : List Cell) : Type 0 where
  pub some : 0 < length cells
  pub few : length cells < 2 ^ 32
  pub each : AllByRecursion (λ (c : Cell). is_group_cell f c ≡ true) cells

-- a sum is of so many times 2^63 numbers at most
abbrev pub CountsUpTo : ℕ → Option Totals → Type 0
CountsUpTo n sum = IfSome sum (λ (s : Totals). s.count ≤ 2 ^ 63 * n)

-- a cell is a window, if it is one of samples: as many values as times, at least one, and the times rise
abbrev pub IsWindowRow : CellRow → Type 0
IsWindowRow row = IfSome (window_under row.labels row.cell) IsWindow

abbrev pub AreWindowCells : StepCells → Type 0
AreWindowCells step = AllByRecursion IsWindowRow step.rows
