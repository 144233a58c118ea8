use Rattle.op_window.proofs.NotesTold.{now_told}
use Rattle.op_window.proofs.made.tell.Goals as goal

pub returns-clause-told : goal.returns-clause-told
returns-clause-told c = now_told c.get-name.result.now c.in_ok-name_note.field-0 c.args.notes.now c.add_note.new.notes c.in_ok-name_note.ensures c.in_ok-add_note.ensures
