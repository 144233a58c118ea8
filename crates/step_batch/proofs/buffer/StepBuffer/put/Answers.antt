use Rattle.std.proofs.Common.{◌≡◌, ◌∙◌, ◌<◌, false, ap, sym, subst, length, slice_get, Some}
use Rattle.std.specs.Prelude.{map}
use Rattle.step_batch.specs.Lent.{IsFreeFrom, IsLater, Lent, has_slot, last_slots, on_last, stage_of, stage_with_row, stages}
use Rattle.step_batch.proofs.Lasts.{lent_put, stages_put, free_put, later_put, others_put}
use Rattle.step_batch.proofs.buffer.StepBuffer.put.Goals as goal

pub put-requires : goal.put-requires
put-requires c = record {
  begun = subst (λ (l : Lent). 0 < length l.steps) (sym c.self.view_is) c.requires.begun;
  rising = (length c.self.inside.labels.keys, c.self.invariant.placed);
}

pub invariant_of-self-2 : goal.invariant_of-self-2
invariant_of-self-2 c =
    lent_put c.self.inside.labels.keys c.self.inside.steps c.put.new.self c.args.place c.args.value c.self.invariant
    (subst (λ (l : Lent). c.args.place < length l.labels) (sym c.self.view_is) c.requires.there)
    (subst (λ (l : Lent). has_slot c.args.place (last_slots l.steps) ≡ false) (sym c.self.view_is) c.requires.free) c.in_ok-put.ensures.ok

pub returns-clause-stages : goal.returns-clause-stages
returns-clause-stages c = λ names at.
    let labels = c.self.inside.labels.keys in
    let steps = c.self.inside.steps in
    ap (map (stage_of labels)) c.in_ok-put.ensures.ok
    ∙ stages_put labels c.args.place c.args.value names steps c.self.invariant.distinct (subst (λ (l : Lent). slice_get l.labels c.args.place ≡ Some names) (sym c.self.view_is) at)
    (subst (λ (l : Lent). has_slot c.args.place (last_slots l.steps) ≡ false) (sym c.self.view_is) c.requires.free)
    ∙ ap (λ (l : Lent). on_last (stage_with_row names c.args.value) (stages l)) c.self.view_is

pub returns-clause-free : goal.returns-clause-free
returns-clause-free c = λ low l f. free_put c.self.inside.labels.keys low c.self.inside.steps c.put.new.self c.args.place c.args.value c.in_ok-put.ensures.ok l (subst (λ (z : Lent). IsFreeFrom low z) (sym c.self.view_is) f)

pub returns-clause-later : goal.returns-clause-later
returns-clause-later c = λ u h. later_put c.args.place c.args.value c.self.inside.steps c.put.new.self u c.in_ok-put.ensures.ok (subst (λ (z : Lent). IsLater z u) (sym c.self.view_is) h)

pub returns-clause-others : goal.returns-clause-others
returns-clause-others c = λ q n h.
    others_put q c.args.place c.self.inside.steps c.put.new.self c.args.value c.in_ok-put.ensures.ok n (subst (λ (l : Lent). has_slot q (last_slots l.steps) ≡ false) (sym c.self.view_is) h)
