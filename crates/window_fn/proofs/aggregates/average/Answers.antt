use Rattle.std.proofs.Common.{arith}
use Rattle.window_fn.proofs.Adding.{counted}
use Rattle.window_fn.proofs.aggregates.average.Goals as goal

pub mean-requires : goal.mean-requires
mean-requires c = let e = counted c.in-Some.sum c.args.values.now c.in-Some.ensures.kept in omega arith
