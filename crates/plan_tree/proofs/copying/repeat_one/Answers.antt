use Rattle.std.proofs.Common.{◌∙◌, ◌++◌, ◌∷◌, [], ap}
use Rattle.std.specs.Prelude.{List}
use Rattle.step_batch.specs.Lent.{Lent, on_last, with_marks}
use Rattle.step_batch.specs.declared.steps.PlacedStep.{PlacedStep}
use Rattle.step_batch.specs.declared.steps.Slot.{Slot}
use Rattle.step_table.specs.declared.marks.Marks.{Marks}
use Rattle.plan_tree.proofs.Copies.{first_told, unmarked}
use Rattle.plan_tree.proofs.copying.repeat_one.Goals as goal

pub returns-clause-steps : goal.returns-clause-steps
returns-clause-steps c = λ s rest e.
    let front = c.args.out.now.steps in
    let t = c.args.t in
    let batch = c.args.batch.now.steps in
    ap (λ (l : Lent). l.steps) c.in_ok-unite.ensures.ok
    ∙ ap (on_last (with_marks c.marks.result.now)) (c.in_ok-put_all.ensures.steps front t (ap (λ (l : Lent). l.steps) c.in_ok-begin.ensures.ok))
    ∙ unmarked c.marks.result.now front t c.slots.result.now
    ∙ ap (λ (ss : List Slot). front ++ record { at = t; slots = ss; marks = c.marks.result.now } ∷ []) (first_told batch rest s (λ (x : PlacedStep). x.slots) c.slots.result.now c.slots.ensures.slots e)
    ∙ ap (λ (m : Marks). front ++ record { at = t; slots = s.slots; marks = m } ∷ []) (first_told batch rest s (λ (x : PlacedStep). x.marks) c.marks.result.now c.marks.ensures e)
