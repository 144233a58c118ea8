use Rattle.std.proofs.Common.{◌∙◌, ap}
use Rattle.std.specs.Prelude.{List, filter}
use Rattle.step_table.specs.declared.windows.WindowRow.{WindowRow}
use Rattle.step_batch.specs.Columns.{has_some}
use Rattle.step_batch.specs.LentWindows.{columns_in, windows_of}
use Rattle.step_batch.proofs.Rows.{windows_behind}
use Rattle.step_batch.proofs.window_buffer.WindowBuffer.forget.Goals as goal

pub invariant_of-self : goal.invariant_of-self
invariant_of-self c =
    windows_behind (windows_of c.self.inside.rows.entries) c.drop_empty.new.rows.entries c.args.edge.0 c.self.invariant
    (c.drop_empty.ensures.windows ∙ ap (λ (rows : List WindowRow). filter (λ (w : WindowRow). has_some (columns_in w)) rows) c.forget_each.ensures) c.drop_empty.ensures.distinct
