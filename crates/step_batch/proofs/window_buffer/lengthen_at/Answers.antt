use Rattle.std.proofs.Common.{ap}
use Rattle.step_batch.specs.Columns.{Columns}
use Rattle.step_batch.specs.LentWindows.{lengthened, window_of}
use Rattle.step_batch.proofs.Lasts.{on_err}
use Rattle.step_batch.proofs.Rows.{row_changed, value_same}
use Rattle.step_batch.proofs.window_buffer.lengthen_at.Goals as goal

pub returns-in_err-push-clause-err : goal.returns-in_err-push-clause-err
returns-in_err-push-clause-err c =
    on_err c.from_residual.result (value_same c.args.rows.now.entries c.args.place (c.pair_mut-window.result.0.now, c.pair_mut-window.result.1.now) c.push.new.self c.pair_mut-window.ensures.value c.in_err-push.ensures.err)

pub returns-clause-ok : goal.returns-clause-ok
returns-clause-ok c =
    row_changed (lengthened c.args.at c.args.value) c.args.rows.now.entries c.args.place (c.pair_mut-window.result.0.now, c.pair_mut-window.result.1.now) c.push.new.self c.pair_mut-window.ensures.value
    (λ m. ap (λ (z : Columns). window_of (m, z)) c.in_ok-push.ensures.ok)
