use Rattle.std.proofs.Common.{◌≡◌, drop, take}
use Rattle.std.specs.List.{All}
use Rattle.xfrac.specs.Laws.{IsNumber}
use Rattle.promql_meaning.specs.Buckets.{are_finite}
use Rattle.step_rules.proofs.buckets.are_finite.Given as goal

abbrev pub invariant-loop-bucket : goal.invariant-loop-bucket
invariant-loop-bucket l = record {
  finite : are_finite (drop l.bucket-index l.buckets) ≡ are_finite l.buckets;
  bounds : All (λ b. IsNumber b.bound) (take l.bucket-index l.buckets);
}
