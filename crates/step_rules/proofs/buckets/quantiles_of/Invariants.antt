use Rattle.std.proofs.Common.{◌≡◌, ◌++◌, map}
use Rattle.std.specs.List.{filter_map}
use Rattle.promql_meaning.specs.Buckets.{fixed_note, histogram_outcome}
use Rattle.step_rules.proofs.buckets.quantiles_of.Given as goal

abbrev pub invariant-loop-labels : goal.invariant-loop-labels
invariant-loop-labels l = record {
  outcomes : l.found.outcomes ++ map (histogram_outcome l.q) l.labels-iterator ≡ map (histogram_outcome l.q) l.initial.labels-iterator;
  notes : l.found.notes ++ filter_map (fixed_note l.q) l.labels-iterator ≡ filter_map (fixed_note l.q) l.initial.labels-iterator;
}
