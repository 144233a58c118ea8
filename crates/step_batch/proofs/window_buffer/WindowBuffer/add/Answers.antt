use Rattle.std.proofs.Common.{◌≡◌, ℕ, sym, subst}
use Rattle.std.specs.Prelude.{Some, slice_get}
use Rattle.step_table.specs.declared.windows.WindowRow.{WindowRow}
use Rattle.step_batch.specs.LentWindows.{EndsBefore, WindowsAt, windows_of}
use Rattle.step_batch.proofs.Rows.{windows_sampled}
use Rattle.step_batch.proofs.window_buffer.WindowBuffer.add.Goals as goal

pub invariant_of-self-2 : goal.invariant_of-self-2
invariant_of-self-2 c =
    windows_sampled (windows_of c.self.inside.rows.entries) (windows_of c.add_in.new.rows.entries) c.args.labels.now c.args.at c.args.value c.self.invariant c.in_ok-place.ensures.ok
    (subst (λ (l : WindowsAt). (i : ℕ) (w : WindowRow) → slice_get l.rows i ≡ Some w → w.labels ≡ c.args.labels.now → EndsBefore c.args.at w) (sym c.self.view_is) c.requires)
