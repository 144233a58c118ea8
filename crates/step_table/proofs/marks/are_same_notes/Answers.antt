use Rattle.std.proofs.lemmas.Slice.Eq.{slice_eq-Decides}
use Rattle.step_table.proofs.Sameness.{note_decides}
use Rattle.step_table.proofs.marks.are_same_notes.Goals as goal

pub returns : goal.returns
returns c = slice_eq-Decides note_decides _ _ c.eq.result c.eq.ensures
