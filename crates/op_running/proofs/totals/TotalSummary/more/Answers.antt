use Rattle.op_running.proofs.Sums.{few}
use Rattle.op_running.proofs.totals.TotalSummary.more.Goals as goal

pub with_value-requires : goal.with_value-requires
with_value-requires c = few c.args.self.sum c.requires.0 c.requires.1 c.requires.2
