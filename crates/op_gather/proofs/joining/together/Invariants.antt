use Rattle.std.proofs.Common.{◌≡◌, ◌++◌, map}
use Rattle.std.specs.Vec.Iter.{into_iter_items}
use Rattle.promql_meaning.specs.Givens.{no_marks}
use Rattle.step_cells.specs.Joined.{all_cells, marks_with}
use Rattle.step_table.specs.WellFormed.{AreSets}
use Rattle.op_gather.specs.Joins.{with_sets}
use Rattle.op_gather.proofs.joining.together.Given as goal

abbrev pub invariant-loop-step : goal.invariant-loop-step
invariant-loop-step l = record {
  cells : l.cells ++ all_cells (map with_sets (into_iter_items l.step-iterator)) ≡ all_cells (map with_sets (into_iter_items l.initial.step-iterator));
  marks : marks_with l.marks (map with_sets (into_iter_items l.step-iterator)) ≡ marks_with no_marks (map with_sets (into_iter_items l.initial.step-iterator));
  sets : AreSets l.marks;
}
