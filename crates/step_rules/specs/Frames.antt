-- Windows whose samples lie in their ranges, as functions of windows ask for. (Our own.)
use Rattle.std.specs.Prelude.{◌≡◌, ℤ, length}
use Rattle.std.specs.List.{All}
use Rattle.step_table.specs.declared.windows.WindowRow.{WindowRow}
use Rattle.window_fn.specs.Windows.{IsFrame, IsInFrame}
use Rattle.promql_meaning.specs.declared.given.Windows.{Windows}
use Rattle.promql_meaning.specs.Ranges.{frame_of}

-- the instant and the ends of the range are times; each row has as many values as times, which lie in the range
pub record AreFramed (t : ℤ) (windows : Windows) : Type 0 where
  pub frame : IsFrame (frame_of t windows)
  pub rows : All (λ (row : WindowRow). All (IsInFrame (frame_of t windows)) row.times) windows.rows
  pub beside : All (λ (row : WindowRow). length row.times ≡ length row.values) windows.rows
