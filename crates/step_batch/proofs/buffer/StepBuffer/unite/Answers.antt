use Rattle.std.proofs.Common.{subst, sym, ◌∙◌, ap}
use Rattle.std.specs.Prelude.{map}
use Rattle.step_batch.specs.Lent.{IsFreeFrom, IsLater, Lent, last_slots, on_last, stage_of, stage_with_marks, stages}
use Rattle.step_batch.proofs.Lasts.{lent_marks, stages_marks, free_marks, later_marks, others_marked}
use Rattle.step_batch.proofs.buffer.StepBuffer.unite.Goals as goal

pub invariant_of-self-2 : goal.invariant_of-self-2
invariant_of-self-2 c = lent_marks c.self.inside.labels.keys c.self.inside.steps c.unite.new.self c.args.marks.now c.self.invariant c.in_ok-unite.ensures.ok

pub returns-clause-stages : goal.returns-clause-stages
returns-clause-stages c =
    ap (map (stage_of c.self.inside.labels.keys)) c.in_ok-unite.ensures.ok ∙ stages_marks c.self.inside.labels.keys c.args.marks.now c.self.inside.steps
    ∙ ap (λ (l : Lent). on_last (stage_with_marks c.args.marks.now) (stages l)) c.self.view_is

pub returns-clause-free : goal.returns-clause-free
returns-clause-free c = λ low f. free_marks c.self.inside.labels.keys low c.self.inside.steps c.unite.new.self c.args.marks.now c.in_ok-unite.ensures.ok (subst (λ (z : Lent). IsFreeFrom low z) (sym c.self.view_is) f)

pub returns-clause-later : goal.returns-clause-later
returns-clause-later c = λ u h. later_marks c.args.marks.now c.self.inside.steps c.unite.new.self u c.in_ok-unite.ensures.ok (subst (λ (z : Lent). IsLater z u) (sym c.self.view_is) h)

pub returns-clause-others : goal.returns-clause-others
returns-clause-others c = others_marked c.args.marks.now c.self.inside.steps c.unite.new.self c.in_ok-unite.ensures.ok ∙ ap (λ (l : Lent). last_slots l.steps) c.self.view_is
