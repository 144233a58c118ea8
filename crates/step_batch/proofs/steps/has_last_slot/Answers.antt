use Rattle.std.proofs.Common.{◌∙◌, ◌-◌, ap, arith, length, sym}
use Rattle.step_batch.specs.Lent.{has_slot}
use Rattle.step_batch.proofs.Lasts.{last_slots_at}
use Rattle.step_batch.proofs.steps.has_last_slot.Goals as goal

pub returns : goal.returns
returns c =
    let steps = c.args.steps.now in
    c.has_slot.ensures ∙ ap (has_slot c.args.place) (c.as_slice.ensures ∙ sym (last_slots_at steps (length steps - 1) c.index-steps-steps.result (let h = c.requires in omega arith)))
