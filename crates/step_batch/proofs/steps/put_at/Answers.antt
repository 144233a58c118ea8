use Rattle.std.proofs.Common.{◌≡◌, ◌∙◌, ◌-◌, ap, arith, slice_set, take}
use Rattle.std.specs.Prelude.{List}
use Rattle.step_batch.specs.Lent.{with_slot}
use Rattle.step_batch.specs.declared.steps.PlacedStep.{PlacedStep}
use Rattle.step_batch.specs.declared.steps.Slot.{Slot}
use Rattle.step_batch.proofs.Lasts.{front_changed, front_same, on_err, rises_at}
use Rattle.step_batch.proofs.steps.put_at.Goals as goal

pub put_slot-requires : goal.put_slot-requires
put_slot-requires c =
    (c.requires.rising.0, rises_at c.requires.rising.0 c.args.all.now.items (c.args.count - 1) c.args.count c.index_mut.result.now (let h = c.requires.some in omega arith) c.requires.within c.index_mut.ensures.value c.requires.rising.1)

pub returns-in_err-put_slot-clause-err : goal.returns-in_err-put_slot-clause-err
returns-in_err-put_slot-clause-err c =
    let xs = c.args.all.now.items in
    let i = c.index_mut.result.now in
    let made : PlacedStep = record { at = i.at; slots = c.put_slot.new.slots; marks = i.marks } in
    let same : take c.args.count (slice_set xs (c.args.count - 1) made) ≡ take c.args.count xs =
    front_same xs (c.args.count - 1) c.args.count i made c.index_mut.ensures.value (let h = c.requires.some in let k = c.requires.within in omega arith)
    (ap (λ (slots : List Slot). let made : PlacedStep = record { at = i.at; slots = slots; marks = i.marks } in made) c.in_err-put_slot.ensures.err) in
    on_err c.from_residual.result same

pub returns-clause-ok : goal.returns-clause-ok
returns-clause-ok c =
    let xs = c.args.all.now.items in
    let i = c.index_mut.result.now in
    ap (λ (slots : List Slot). take c.args.count (slice_set xs (c.args.count - 1) (record { at = i.at; slots = slots; marks = i.marks }))) c.in_ok-put_slot.ensures.ok
    ∙ front_changed (with_slot c.args.place c.args.value) xs (c.args.count - 1) c.args.count i (let h = c.requires.some in omega arith) c.requires.within c.index_mut.ensures.value
