use Rattle.std.proofs.Common.{length}
use Rattle.op_buckets.proofs.SlotsOrdered.{place_below}
use Rattle.op_buckets.proofs.order.key_of.Goals as goal

pub group_there-requires : goal.group_there-requires
group_there-requires c = place_below (length c.args.groups.now) 0 c.args.slots.now c.args.slot c.slot_there.result.now c.requires.groups c.slot_there.ensures

pub bound_there-requires : goal.bound_there-requires
bound_there-requires c = place_below (length c.args.bounds.now) 0 c.args.slots.now c.args.slot c.slot_there.result.now c.requires.bounds c.slot_there.ensures
