use Rattle.std.proofs.Common.{◌≡◌, ◌++◌}
use Rattle.std.specs.Vec.Iter.{into_iter_items}
use Rattle.std.specs.Prelude.{map}
use Rattle.step_table.specs.declared.step.Row.{Row}
use Rattle.step_rules.proofs.points.add_step.Given as goal

abbrev pub invariant-loop-row : goal.invariant-loop-row
invariant-loop-row l = record {
  rows : l.points.rows ++ map (λ (row : Row). (row.labels, (l.u, row.value))) (into_iter_items l.row-iterator) ≡ l.fn.points.rows ++ map (λ (row : Row). (row.labels, (l.u, row.value))) (into_iter_items l.initial.row-iterator);
  marks : l.points.marks ≡ l.fn.points.marks;
}
