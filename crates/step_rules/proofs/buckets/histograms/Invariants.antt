use Rattle.std.proofs.Common.{◌≡◌, ◌++◌, drop}
use Rattle.std.specs.List.{filter_map}
use Rattle.promql_meaning.specs.Buckets.{bucket_of}
use Rattle.step_rules.proofs.buckets.histograms.Given as goal

abbrev pub invariant-loop-row : goal.invariant-loop-row
invariant-loop-row l = l.buckets ++ filter_map bucket_of (drop l.row-index l.rows) ≡ filter_map bucket_of l.rows
