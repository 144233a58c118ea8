use Rattle.std.proofs.Common.{◌≡◌, false, sym, subst}
use Rattle.std.specs.List.{list_any}
use Rattle.label_set.specs.LabelEquality.{labels_eq}
use Rattle.step_table.specs.declared.windows.WindowRow.{WindowRow}
use Rattle.step_batch.specs.LentWindows.{WindowsAt, names_of, window_with, windows_of}
use Rattle.step_batch.proofs.Rows.{window_more}
use Rattle.step_batch.proofs.window_buffer.WindowBuffer.put.Goals as goal

pub put_in-requires-clause-fresh : goal.put_in-requires-clause-fresh
put_in-requires-clause-fresh c = subst (λ (l : WindowsAt). list_any (labels_eq c.args.labels.now) (names_of l.rows) ≡ false) (sym c.self.view_is) c.requires.fresh

pub invariant_of-self-2 : goal.invariant_of-self-2
invariant_of-self-2 c =
    let made : WindowRow = window_with c.args.labels.now c.args.times.now c.args.values.now in
    window_more (windows_of c.self.inside.rows.entries) (windows_of c.put_in.new.rows.entries) made c.self.invariant (record { same = c.requires.same; some = c.requires.some; rising = c.requires.rising })
    (subst (λ (l : WindowsAt). list_any (labels_eq c.args.labels.now) (names_of l.rows) ≡ false) (sym c.self.view_is) c.requires.fresh) c.in_ok-put_in.ensures.ok
