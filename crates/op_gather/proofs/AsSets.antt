-- Marks and notes that are made sets.
use Rattle.std.proofs.Common.{◌≡◌, List, subst, sym}
use Rattle.step_table.specs.KeySets.{set_of_sorted, sorted_set}
use Rattle.step_table.specs.OrderLaws.{mark_cmp_ties, mark_cmp_total, note_cmp_ties, note_cmp_total}
use Rattle.step_table.specs.Orders.{mark_cmp, note_cmp}
use Rattle.step_table.specs.Unions.{set_of}
use Rattle.step_table.specs.WellFormed.{AreSets}
use Rattle.step_table.specs.declared.marks.Mark.{Mark}
use Rattle.step_table.specs.declared.marks.Marks.{Marks}
use Rattle.step_table.specs.declared.marks.Note.{Note}
use Rattle.op_gather.specs.Joins.{SetsStay, as_sets}

pub sets_are : (marks : Marks) → AreSets (as_sets marks)
sets_are marks = record { fatal = sorted_set mark_cmp_total mark_cmp_ties marks.fatal; notes = sorted_set note_cmp_total note_cmp_ties marks.notes }

pub sets_made : (marks : Marks) (fatal : List Mark) (notes : List Note) → fatal ≡ set_of mark_cmp marks.fatal → notes ≡ set_of note_cmp marks.notes → AreSets (record { fatal = fatal; notes = notes })
sets_made marks fatal notes f n =
    subst (λ (z : List Mark). AreSets (record { fatal = z; notes = notes })) (sym f) (subst (λ (z : List Note). AreSets (record { fatal = set_of mark_cmp marks.fatal; notes = z })) (sym n) (sets_are marks))

pub sets_stay : SetsStay
sets_stay step s = λ i. record step { marks = record { fatal = set_of_sorted mark_cmp_total step.marks.fatal s.fatal i; notes = set_of_sorted note_cmp_total step.marks.notes s.notes i } }
