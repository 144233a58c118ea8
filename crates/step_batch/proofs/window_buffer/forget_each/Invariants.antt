use Rattle.std.proofs.Common.{◌≡◌}
use Rattle.step_batch.specs.LentWindows.{left_behind, windows_of}
use Rattle.step_batch.proofs.Rows.{changed_front}
use Rattle.step_batch.proofs.window_buffer.forget_each.Given as goal

abbrev pub invariant-loop-place : goal.invariant-loop-place
invariant-loop-place l = windows_of l.rows.entries ≡ changed_front (left_behind l.edge.0) l.place (windows_of l.initial.rows.entries)
