use Rattle.std.proofs.Common.{List, sym, subst}
use Rattle.step_table.specs.OrderLaws.{mark_cmp_ties, mark_cmp_total, note_cmp_ties, note_cmp_total}
use Rattle.step_table.specs.Orders.{mark_cmp, note_cmp}
use Rattle.step_table.specs.declared.marks.Mark.{Mark}
use Rattle.step_table.specs.declared.marks.Note.{Note}
use Rattle.ticks.specs.declared.moment.Ms.{Ms}
use Rattle.op_subquery.specs.Kept.{later}
use Rattle.op_subquery.specs.Raised.{AreLast, AreRaised, Raised, fatal_in, notes_in}
use Rattle.op_subquery.proofs.Raising.{last_without}
use Rattle.op_subquery.proofs.raised.RaisedMarks.forget.Goals as goal

pub returns : goal.returns
returns c = λ steps rising are.
    let old = c.self.inside in
    let edge = c.args.edge.0 in
    let was : AreRaised (record { fatal = old.fatal.entries; notes = old.notes.entries }) steps = subst (λ (r : Raised). AreRaised r steps) (sym c.self.view_is) are in
    record {
      fatal = subst (λ (es : List (Mark × Ms)). AreLast mark_cmp fatal_in es (later edge steps)) (sym c.forget_early.ensures) (last_without mark_cmp_total mark_cmp_ties fatal_in old.fatal.entries edge steps rising was.fatal);
      notes = subst (λ (es : List (Note × Ms)). AreLast note_cmp notes_in es (later edge steps)) (sym c.forget_early-2.ensures) (last_without note_cmp_total note_cmp_ties notes_in old.notes.entries edge steps rising was.notes);
    }
