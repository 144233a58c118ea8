use Rattle.std.proofs.Common.{◌≡◌, ◌++◌}
use Rattle.std.specs.Vec.Iter.{into_iter_items}
use Rattle.promql_meaning.specs.Selecting.{sample_times, sample_values}
use Rattle.step_rules.proofs.points.window_of_group.Given as goal

abbrev pub invariant-loop-time : goal.invariant-loop-time
invariant-loop-time l = record {
  times : l.times ++ sample_times (into_iter_items l.time-iterator) ≡ sample_times (into_iter_items l.initial.time-iterator);
  values : l.values ++ sample_values (into_iter_items l.time-iterator) ≡ sample_values (into_iter_items l.initial.time-iterator);
}
