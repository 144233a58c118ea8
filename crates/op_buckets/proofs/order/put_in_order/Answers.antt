use Rattle.op_buckets.proofs.SlotsOrdered.{slots_moved}
use Rattle.op_buckets.proofs.order.put_in_order.Goals as goal

pub returns-clause-all : goal.returns-clause-all
returns-clause-all c = slots_moved c.args.keys.now.items c.sort_unstable_by.new.self.items c.sort_unstable_by.ensures.permutation c.requires
