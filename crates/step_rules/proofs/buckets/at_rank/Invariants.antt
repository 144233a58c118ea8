use Rattle.std.proofs.Common.{◌≡◌, None, length}
use Rattle.promql_meaning.specs.Buckets.{at_rank}
use Rattle.step_rules.proofs.buckets.at_rank.Given as goal

abbrev pub invariant-loop-rest : goal.invariant-loop-rest
invariant-loop-rest l = at_rank l.rank l.earlier l.rest ≡ at_rank l.rank None l.buckets

abbrev pub decreases-loop-rest : goal.decreases-loop-rest
decreases-loop-rest l = length l.rest
