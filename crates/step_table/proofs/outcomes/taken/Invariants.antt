use Rattle.std.proofs.Common.{◌≡◌, ◌++◌}
use Rattle.std.specs.List.{filter_map}
use Rattle.std.specs.Vec.Iter.{into_iter_items}
use Rattle.step_table.specs.Outcomes.{row_of, mark_of}
use Rattle.step_table.proofs.outcomes.taken.Given as goal

abbrev pub invariant-loop-outcome : goal.invariant-loop-outcome
invariant-loop-outcome l = record {
  rows : l.rows ++ filter_map row_of (into_iter_items l.outcome-iterator) ≡ filter_map row_of (into_iter_items l.initial.outcome-iterator);
  faults : l.faults ++ filter_map mark_of (into_iter_items l.outcome-iterator) ≡ filter_map mark_of (into_iter_items l.initial.outcome-iterator);
}
