use Rattle.std.proofs.Common.{ap}
use Rattle.step_batch.specs.Columns.{Columns}
use Rattle.step_batch.specs.LentWindows.{left_behind, window_of}
use Rattle.step_batch.proofs.Rows.{row_changed}
use Rattle.step_batch.proofs.window_buffer.forget_at.Goals as goal

pub returns : goal.returns
returns c =
    row_changed (left_behind c.args.edge.0) c.args.rows.now.entries c.args.place (c.pair_mut-window.result.0.now, c.pair_mut-window.result.1.now) c.forget.new.self c.pair_mut-window.ensures.value
    (λ m. ap (λ (z : Columns). window_of (m, z)) c.forget.ensures)
