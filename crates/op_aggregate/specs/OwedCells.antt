-- The cells that are kept of the groups of steps, by the places of their labels. (This project's own.)
use Rattle.std.specs.Prelude.{ℕ, Bool, List, [], map, slice_get, is_none, Option, Some, None}
use Rattle.std.specs.List.{filter_map, list_any}
use Rattle.std.specs.Option.{option_and_then, option_map}
use Rattle.step_batch.specs.Tables.{in_order}
use Rattle.step_table.specs.Groups.{Names}
use Rattle.step_table.specs.Unions.{united}
use Rattle.step_table.specs.declared.cells.Cell.{Cell}
use Rattle.step_table.specs.declared.cells.Cell.TheVariants as cell
use Rattle.step_table.specs.declared.cells.CellRow.{CellRow}
use Rattle.step_table.specs.declared.cells.StepCells.{StepCells}
use Rattle.step_table.specs.declared.marks.Marks.{Marks}
use Rattle.ticks.specs.declared.moment.Ms.{Ms}
use Rattle.op_aggregate.specs.Places.{overflow_if}
use Rattle.op_aggregate.specs.declared.owed.OwedStep.{OwedStep}
use Rattle.op_aggregate.specs.declared.owed.PlacedCell.{PlacedCell}
use Rattle.op_aggregate.specs.declared.tally.Group.{Group}
use Rattle.op_aggregate.specs.declared.tally.Tally.{Tally}
use Rattle.op_aggregate.specs.declared.tally.Tally.TheVariants.{Rows, Sum, Least, Greatest, Values}

-- the cell of what is kept of so many values; there is none where their sum overflows, nor where all of them are kept
abbrev pub tally_cell : ℕ → Tally → Option Cell
tally_cell n Rows = Some (cell.Count n)
tally_cell n (Sum (Some sum)) = Some (cell.Sum sum)
tally_cell n (Sum None) = None
tally_cell n (Least v) = Some (cell.Value v)
tally_cell n (Greatest v) = Some (cell.Value v)
tally_cell n (Values xs) = None

abbrev pub cell_of : Group → Option Cell
cell_of group = tally_cell group.rows group.tally

-- the cell of the group at a place
abbrev pub cell_at : List Group → ℕ → Option Cell
cell_at all q = option_and_then cell_of (slice_get all q)

abbrev pub placed_cell : List Group → ℕ → Option PlacedCell
placed_cell all q = option_map (λ (c : Cell). record { place = q; cell = c }) (cell_at all q)

-- whether one of the groups at some places has no cell
abbrev pub has_lost : List Group → List ℕ → Bool
has_lost all places = list_any (λ q. is_none (cell_at all q)) places

-- what is kept of a step: the cells of the groups at some places, and with its marks that of an overflow where one has none
abbrev pub owed_step : Ms → Marks → List Group → List ℕ → OwedStep
owed_step at marks all places =
    record {
      at = at;
      cells = filter_map (placed_cell all) places;
      marks = united marks (record { fatal = overflow_if (has_lost all places); notes = [] });
    }

-- a cell beside its labels
abbrev pub named_cell : List Names → PlacedCell → Option (Names × Cell)
named_cell labels placed = option_map (λ (names : Names). (names, placed.cell)) (slice_get labels placed.place)

abbrev pub row_under : Names × Cell → CellRow
row_under entry = record { labels = entry.0; cell = entry.1 }

-- what is owed of what is kept of a step: its cells in the order of their labels
abbrev pub cells_at : List Names → OwedStep → StepCells
cells_at labels step = record { at = step.at; rows = map row_under (in_order (filter_map (named_cell labels) step.cells)); marks = step.marks }
