use Rattle.std.proofs.Common.{◌∙◌, sym}
use Rattle.script_check.specs.NoteTexts.{texts_of}
use Rattle.script_check.proofs.Wanting.{has_one}
use Rattle.script_check.proofs.noted.is_noted.Goals as goal

pub returns-in-Any : goal.returns-in-Any
returns-in-Any c = λ h kept. rw c.in-Any.is (has_one kept (texts_of c.args.warnings c.args.notes.now) (sym c.has_texts.ensures ∙ h))
