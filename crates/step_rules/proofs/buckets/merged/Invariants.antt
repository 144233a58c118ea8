use Rattle.std.proofs.Common.{length}
use Rattle.promql_meaning.specs.Buckets.{merged}
use Rattle.step_rules.proofs.Turns.{AreLeft}
use Rattle.step_rules.proofs.buckets.merged.Given as goal

abbrev pub invariant-loop-rest : goal.invariant-loop-rest
invariant-loop-rest l = AreLeft (merged l.fn.buckets) l.all l.rest

abbrev pub decreases-loop-rest : goal.decreases-loop-rest
decreases-loop-rest l = length l.rest
