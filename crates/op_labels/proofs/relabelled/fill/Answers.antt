use Rattle.std.proofs.Common.{length}
use Rattle.op_labels.proofs.Remaking.{placed_more, slot_within}
use Rattle.op_labels.proofs.relabelled.fill.Goals as goal

pub fate_at-fate-requires : goal.fate_at-fate-requires
fate_at-fate-requires c = slot_within (length c.args.fates.now) c.args.slots.now c.loop-slot.slot-index c.slot-item.result c.loop-slot-test.true c.slot-item.is c.requires

pub loop-slot-preserved : goal.loop-slot-preserved
loop-slot-preserved c =
    placed_more c.args.fates.now c.args.slots.now c.loop-slot.slot-index c.slot-item.result c.fate_at-fate.result c.loop-slot.placed.items c.place.new.placed.items c.loop-slot-test.true c.slot-item.is c.fate_at-fate.ensures c.loop-slot.invariant c.in_ok-place.ensures
