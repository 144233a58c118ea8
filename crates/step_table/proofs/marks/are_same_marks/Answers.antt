use Rattle.std.proofs.lemmas.Slice.Eq.{slice_eq-Decides}
use Rattle.step_table.proofs.Sameness.{mark_decides}
use Rattle.step_table.proofs.marks.are_same_marks.Goals as goal

pub returns : goal.returns
returns c = slice_eq-Decides mark_decides _ _ c.eq.result c.eq.ensures
