use Rattle.std.proofs.Common.{◌≡◌, drop, length}
use Rattle.std.specs.Prelude.{MatchOption}
use Rattle.sample_store.specs.Samples.{IsListed, fewest, looked_at}
use Rattle.sample_store.proofs.Rarest.{counted}
use Rattle.sample_store.proofs.shortest.shortest.Given as goal

abbrev pub invariant-loop-place : goal.invariant-loop-place
invariant-loop-place l = record {
  left : fewest (counted l.series.entries) l.most (drop l.place l.rules) ≡ looked_at l.rules l.series.entries;
  best : MatchOption l.best (l.most ≡ length l.series.entries) (λ list. IsListed l.rules l.series.entries list.rule list.numbers.now × (length list.numbers.now ≡ l.most));
}
