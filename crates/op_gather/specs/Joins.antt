-- What the steps of all engines at one instant come to, whatever their marks are. (This project's own.)
use Rattle.std.specs.Prelude.{◌≡◌, List, map}
use Rattle.func_table.specs.declared.table.Aggregate.{Aggregate}
use Rattle.step_batch.specs.LentWindows.{WindowsAt}
use Rattle.step_cells.specs.Joined.{joined_partials, joined_rows, joined_windows}
use Rattle.step_table.specs.Orders.{mark_cmp, note_cmp}
use Rattle.step_table.specs.Unions.{set_of}
use Rattle.step_table.specs.WellFormed.{AreSets}
use Rattle.step_table.specs.declared.cells.StepCells.{StepCells}
use Rattle.step_table.specs.declared.marks.Marks.{Marks}
use Rattle.step_table.specs.declared.step.Step.{Step}
use Rattle.ticks.specs.declared.moment.Ms.{Ms}

-- marks and notes in their order, each once
abbrev pub as_sets : Marks → Marks
as_sets marks = record { fatal = set_of mark_cmp marks.fatal; notes = set_of note_cmp marks.notes }

-- a step with its marks and notes as sets, which those of an engine that gives what it owes are
abbrev pub with_sets : StepCells → StepCells
with_sets step = record step { marks = as_sets step.marks }

-- the rows of all engines, joined
abbrev pub rows_joined : List StepCells → Step
rows_joined steps = joined_rows (map with_sets steps)

-- the windows of all engines, joined
abbrev pub windows_joined : Ms → List StepCells → WindowsAt
windows_joined at steps = joined_windows at (map with_sets steps)

-- the cells of all engines, joined to the rows of an aggregation
abbrev pub groups_joined : Aggregate → List StepCells → Step
groups_joined f steps = joined_partials f (map with_sets steps)

-- marks that are sets stay as they are
abbrev pub SetsStay : Type 0
SetsStay = (step : StepCells) → AreSets step.marks → with_sets step ≡ step
