use Rattle.std.proofs.Common.{arith}
use Rattle.op_running.proofs.Sums.{few_both}
use Rattle.op_running.proofs.totals.TotalSummary.joined.Goals as goal

pub both-requires : goal.both-requires
both-requires c = few_both c.args.self.now.sum c.args.behind.now.sum c.requires.0 c.requires.1 c.requires.2 c.requires.3 (let h = c.requires.4 in omega arith)
