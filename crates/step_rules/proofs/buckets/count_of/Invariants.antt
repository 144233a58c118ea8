use Rattle.std.proofs.Common.{◌≡◌, map, take}
use Rattle.step_rules.proofs.buckets.count_of.Given as goal

abbrev pub invariant-loop-bucket : goal.invariant-loop-bucket
invariant-loop-bucket l = l.counts ≡ map (λ b. b.count) (take l.bucket-index l.buckets)
