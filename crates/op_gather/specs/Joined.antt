-- What is lent of the cells of all engines at one instant. (This project's own.)
use Rattle.std.specs.Prelude.{◌≡◌, List, [], ◌∷◌}
use Rattle.std.specs.List.{All, AllByRecursion}
use Rattle.remote_api.specs.declared.asks.Ask.{Ask}
use Rattle.step_batch.specs.Lent.{Lent, stages}
use Rattle.step_batch.specs.LentWindows.{WindowsAt}
use Rattle.step_table.specs.declared.cells.PartKind.{PartKind}
use Rattle.step_table.specs.declared.cells.PartKind.TheVariants as part
use Rattle.step_table.specs.declared.cells.StepCells.{StepCells}
use Rattle.step_table.specs.declared.windows.WindowRow.{WindowRow}
use Rattle.ticks.specs.Walks.{moment_at}
use Rattle.ticks.specs.declared.moment.Ms.{Ms}
use Rattle.window_fn.specs.Windows.{IsInFrame}
use Rattle.window_fn.specs.declared.frame.WindowFrame.{WindowFrame}
use Rattle.op_gather.specs.Joins.{groups_joined, rows_joined, windows_joined}

-- what engines gave at an instant is lent as what their cells come to: as windows where these are asked, else as a step
abbrev pub LendsJoined : PartKind → Ms → List StepCells → Lent → WindowsAt → Type 0
LendsJoined part.Rows t steps lent windows = stages lent ≡ record { at = t; step = rows_joined steps } ∷ []
LendsJoined part.Windows t steps lent windows = windows ≡ windows_joined t steps
LendsJoined (part.Partial f by) t steps lent windows = stages lent ≡ record { at = t; step = groups_joined f steps } ∷ []

-- the window that is asked over at an instant: it ends at the moment that belongs to the instant
abbrev pub frame_of : Ask → Ms → WindowFrame
frame_of ask t = record { eval = t; moment = record { 0 = moment_at ask.moment t.0 }; range = ask.range }

-- each sample of windows lies in the window that is asked over at their instant
abbrev pub AreInside : Ask → WindowsAt → Type 0
AreInside ask windows = AllByRecursion (λ (row : WindowRow). All (IsInFrame (frame_of ask windows.at)) row.times) windows.rows
