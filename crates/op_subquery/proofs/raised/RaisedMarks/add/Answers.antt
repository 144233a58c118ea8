use Rattle.std.proofs.Common.{◌≡◌, ◌∙◌, List, [], ◌∷◌, ◌++◌, sym, ap, subst}
use Rattle.step_table.specs.OrderLaws.{mark_cmp_ties, mark_cmp_total, note_cmp_ties, note_cmp_total}
use Rattle.step_table.specs.Orders.{mark_cmp, note_cmp}
use Rattle.step_table.specs.declared.marks.Mark.{Mark}
use Rattle.step_table.specs.declared.marks.Marks.{Marks}
use Rattle.step_table.specs.declared.marks.Note.{Note}
use Rattle.ticks.specs.declared.moment.Ms.{Ms}
use Rattle.op_subquery.specs.Raised.{AreLast, AreRaised, Raised, fatal_in, notes_in, raised_all}
use Rattle.op_subquery.proofs.Raising.{last_with}
use Rattle.op_subquery.proofs.raised.RaisedMarks.add.Goals as goal

pub returns : goal.returns
returns c = λ steps s e f are.
    let old = c.self.inside in
    let was : AreRaised (record { fatal = old.fatal.entries; notes = old.notes.entries }) steps = subst (λ (r : Raised). AreRaised r steps) (sym c.self.view_is) are in
    let fatal : fatal_in s ≡ c.as_slice.result.now = ap (λ (m : Marks). m.fatal) f ∙ sym c.as_slice.ensures in
    let notes : notes_in s ≡ c.as_slice-2.result.now = ap (λ (m : Marks). m.notes) f ∙ sym c.as_slice-2.ensures in
    record {
      fatal = subst (λ (es : List (Mark × Ms)). AreLast mark_cmp fatal_in es (steps ++ s ∷ [])) ((λ i. raised_all mark_cmp old.fatal.entries (fatal i) (e i)) ∙ sym c.in_ok-raise.ensures)
          (last_with mark_cmp_total mark_cmp_ties fatal_in old.fatal.entries steps s was.fatal);
      notes = subst (λ (es : List (Note × Ms)). AreLast note_cmp notes_in es (steps ++ s ∷ [])) ((λ i. raised_all note_cmp old.notes.entries (notes i) (e i)) ∙ sym c.in_ok-raise-2.ensures)
          (last_with note_cmp_total note_cmp_ties notes_in old.notes.entries steps s was.notes);
    }
