use Rattle.std.proofs.Common.{length}
use Rattle.plan_bases.proofs.testing.+passes_each.Given as goal

abbrev pub decreases-passes_each : goal.decreases-passes_each
decreases-passes_each g l = length l.rules.now
