use Rattle.std.proofs.Common.{◌≡◌, ◌++◌}
use Rattle.std.specs.List.{filter_map}
use Rattle.step_cells.specs.Owed.{group_cell, lost_mark}
use Rattle.engine_local.proofs.groups.made_of.Given as goal

abbrev pub invariant-loop-labels : goal.invariant-loop-labels
invariant-loop-labels l = record {
  rows : l.made.rows ++ filter_map (group_cell l.f) l.labels-iterator ≡ filter_map (group_cell l.f) l.initial.labels-iterator;
  lost : l.made.lost ++ filter_map (lost_mark l.f) l.labels-iterator ≡ filter_map (lost_mark l.f) l.initial.labels-iterator;
}
