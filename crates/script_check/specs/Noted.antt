-- Notes that lines want.
use Rattle.std.specs.Prelude.{◌≡◌, ℕ, Bool, true, false, List, slice_get, slice_index_or, Option, None, Some}
use Rattle.std.specs.List.{list_any}
use Rattle.script_read.specs.declared.script.Wanted.{Wanted}
use Rattle.step_table.specs.declared.marks.Note.{Note}
use Rattle.script_check.specs.NoteTexts.{is_of, note_text}
use Rattle.script_check.specs.Verdicts.{PatternList, meets}

-- there is a note with this text
abbrev pub HasText : List ℕ → Option Note → Type 0
HasText text None = ⊥
HasText text (Some note) = note_text note ≡ text

-- a note is what one of the lines wants, whatever patterns are kept
abbrev pub IsWanted : List Wanted → Note → Type 0
IsWanted lines note = (kept : PatternList) → list_any (meets kept (note_text note)) lines ≡ true

-- the same, if it is a warning, or else an info note
abbrev pub IsWantedIf : Bool → List Wanted → Note → Type 0
IsWantedIf warnings lines note = is_of warnings note ≡ true → IsWanted lines note

-- what is marked is a note that one of the lines wants
pub record AreNotesMarked (part : List Note) (lines : List Wanted) (marks : List Bool) : Type 0 where
  pub each : (place : ℕ) (note : Note) → slice_get part place ≡ Some note → slice_index_or marks place false ≡ true → IsWanted lines note
