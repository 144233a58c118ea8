-- Notes as a set, for a step keeps each of them once. (This project's own.)
use Rattle.std.specs.Prelude.{◌≡◌, ◌++◌, ℕ, List}
use Rattle.std.specs.Option.{option_to_list}
use Rattle.promql_meaning.specs.Ranges.{name_note}
use Rattle.step_table.specs.Orders.{note_cmp}
use Rattle.step_table.specs.Unions.{set_of}
use Rattle.step_table.specs.declared.marks.Note.{Note}

-- lists of notes that are one set
abbrev pub AreOneSet : List Note → List Note → Type 0
AreOneSet xs ys = set_of note_cmp xs ≡ set_of note_cmp ys

-- the note of a name, where the name has one, is among notes: with it they are the same set
abbrev pub IsTold : List ℕ → List Note → Type 0
IsTold name notes = AreOneSet (notes ++ option_to_list (name_note name)) notes
