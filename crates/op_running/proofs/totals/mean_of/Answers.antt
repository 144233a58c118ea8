use Rattle.op_running.proofs.Sums.{counted_some}
use Rattle.op_running.proofs.totals.mean_of.Goals as goal

pub mean-requires : goal.mean-requires
mean-requires c = counted_some c.args.total.now.sum c.in-Some.sum c.requires.0 c.in-Some.is c.requires.1 c.requires.2
