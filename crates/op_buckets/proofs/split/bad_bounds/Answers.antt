use Rattle.std.proofs.Common.{◌≡◌, Option, length, sym}
use Rattle.step_table.specs.declared.marks.Note.{Note}
use Rattle.op_buckets.specs.Splits.{bound_there, note_at, text_note}
use Rattle.op_buckets.proofs.Splitting.{slot_within, slots_more}
use Rattle.op_buckets.proofs.split.bad_bounds.Goals as goal

pub bound_there-bound-requires : goal.bound_there-bound-requires
bound_there-bound-requires c = slot_within (length c.args.bounds.now) c.args.slots.now c.loop-slot.slot-index c.slot-item.result c.loop-slot-test.true c.slot-item.is c.requires.bounds

pub text_there-requires : goal.text_there-requires
text_there-requires c = slot_within (length c.args.fed.now) c.args.slots.now c.loop-slot.slot-index c.slot-item.result c.loop-slot-test.true c.slot-item.is c.requires.fed

pub loop-slot-preserved : goal.loop-slot-preserved
loop-slot-preserved c =
    let slot = c.slot-item.result in
    let one : Option Note = text_note c.text_there.result.now c.bound_there-bound.result in
    let is : one ≡ note_at c.args.fed.now c.args.bounds.now slot = λ j. text_note (c.text_there.ensures j) (bound_there (sym c.bound_there-bound.ensures j)) in
    slots_more (note_at c.args.fed.now c.args.bounds.now) c.args.slots.now c.loop-slot.slot-index slot one c.loop-slot.notes c.note.new.notes c.loop-slot-test.true c.slot-item.is is c.loop-slot.invariant c.in_ok-note.ensures
