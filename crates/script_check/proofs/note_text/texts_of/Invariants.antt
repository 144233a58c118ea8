use Rattle.std.proofs.Common.{◌≡◌, ◌++◌, drop}
use Rattle.script_check.specs.NoteTexts.{texts_of}
use Rattle.script_check.proofs.note_text.texts_of.Given as goal

abbrev pub invariant-loop-note : goal.invariant-loop-note
invariant-loop-note l = l.texts ++ texts_of l.warnings (drop l.note-index l.notes) ≡ texts_of l.warnings l.notes
