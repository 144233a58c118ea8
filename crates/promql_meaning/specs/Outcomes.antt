-- Notes of a step. What comes of its rows, a value, nothing or a fault, is said by `step_table`.
use Rattle.std.specs.Prelude.{Bool, ◌||◌, List, [], ◌∷◌, if◌then◌else◌}
use Rattle.xfrac.specs.Arithmetic.{whole_number}
use Rattle.xfrac.specs.Kinds.{is_not_a_number}
use Rattle.xfrac.specs.Order.{compares}
use Rattle.xfrac.specs.declared.value.CompareOp.TheVariants.{Lt, Gt}
use Rattle.xfrac.specs.declared.value.XFrac.{XFrac}
use Rattle.step_table.specs.Orders.{note_cmp}
use Rattle.step_table.specs.Unions.{set_of, united}
use Rattle.step_table.specs.declared.marks.Marks.{Marks}
use Rattle.step_table.specs.declared.marks.Note.{Note}
use Rattle.step_table.specs.declared.marks.Note.TheVariants.{QuantileRange}

-- the marks and notes, with notes more
abbrev pub with_notes : Marks → List Note → Marks
with_notes marks notes = united marks (record { fatal = []; notes = set_of note_cmp notes })

-- whether a quantile is NaN, below 0 or above 1
abbrev pub is_outside : XFrac → Bool
is_outside q = is_not_a_number q || (compares Lt q (whole_number 0) || compares Gt q (whole_number 1))

-- the note of a quantile outside 0 to 1
abbrev pub range_notes : XFrac → List Note
range_notes q = if is_outside q then QuantileRange q ∷ [] else []

-- the same where something is there to have a quantile of
abbrev pub range_notes_of : {A : Type 0} → XFrac → List A → List Note
range_notes_of q [] = []
range_notes_of q (a ∷ all) = range_notes q
