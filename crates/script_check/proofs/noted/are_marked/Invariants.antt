use Rattle.std.proofs.Common.{◌≡◌, ◌<◌, ℕ, Some, true, false}
use Rattle.std.specs.Prelude.{slice_get, slice_index_or}
use Rattle.step_table.specs.declared.marks.Note.{Note}
use Rattle.script_check.specs.NoteTexts.{is_of}
use Rattle.script_check.proofs.noted.are_marked.Given as goal

abbrev pub invariant-loop-place : goal.invariant-loop-place
invariant-loop-place l = (place : ℕ) (note : Note) → place < l.place → slice_get l.part place ≡ Some note → is_of l.warnings note ≡ true → slice_index_or l.marks place false ≡ true
