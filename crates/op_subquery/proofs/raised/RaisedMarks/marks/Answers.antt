use Rattle.std.proofs.Common.{◌∙◌, sym, subst}
use Rattle.op_subquery.specs.Raised.{AreRaised, Raised}
use Rattle.op_subquery.proofs.Marking.{marks_are}
use Rattle.op_subquery.proofs.raised.RaisedMarks.marks.Goals as goal

pub returns : goal.returns
returns c = λ steps sets are.
    let laws = c.unions_are_sets.ensures in
    let raised : Raised = record { fatal = c.self.inside.fatal.entries; notes = c.self.inside.notes.entries } in
    let was : AreRaised raised steps = subst (λ (r : Raised). AreRaised r steps) (sym c.self.view_is) are in
    (λ i. record { fatal = c.in_ok-raised.ensures i; notes = c.in_ok-raised-2.ensures i }) ∙ marks_are laws.set laws.marks laws.notes raised steps sets was
