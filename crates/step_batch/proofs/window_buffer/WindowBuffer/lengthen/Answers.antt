use Rattle.std.proofs.Common.{◌≡◌, sym, subst}
use Rattle.std.specs.Prelude.{Some, slice_get}
use Rattle.step_table.specs.declared.windows.WindowRow.{WindowRow}
use Rattle.step_batch.specs.LentWindows.{EndsBefore, WindowsAt, windows_of}
use Rattle.step_batch.proofs.Rows.{windows_lengthened}
use Rattle.step_batch.proofs.window_buffer.WindowBuffer.lengthen.Goals as goal

pub invariant_of-self-2 : goal.invariant_of-self-2
invariant_of-self-2 c =
    windows_lengthened (windows_of c.self.inside.rows.entries) (windows_of c.lengthen_at.new.rows.entries) c.args.place c.args.at c.args.value c.self.invariant c.in_ok-lengthen_at.ensures.ok
    (subst (λ (l : WindowsAt). (w : WindowRow) → slice_get l.rows c.args.place ≡ Some w → EndsBefore c.args.at w) (sym c.self.view_is) c.requires.later)
