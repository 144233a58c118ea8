use Rattle.std.proofs.Common.{◌≡◌, drop}
use Rattle.script_read.specs.Lines.{is_empty}
use Rattle.script_check.specs.NoteTexts.{texts_of}
use Rattle.script_check.proofs.note_text.has_texts.Given as goal

abbrev pub invariant-loop-note : goal.invariant-loop-note
invariant-loop-note l = is_empty (texts_of l.warnings (drop l.note-index l.notes)) ≡ is_empty (texts_of l.warnings l.notes)
