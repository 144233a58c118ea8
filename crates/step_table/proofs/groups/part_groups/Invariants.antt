use Rattle.std.proofs.Common.{◌≡◌, ◌++◌}
use Rattle.std.specs.List.{filter_map}
use Rattle.step_table.specs.Groups.{alone, shared_of}
use Rattle.step_table.proofs.groups.part_groups.Given as goal

abbrev pub invariant-loop-labels : goal.invariant-loop-labels
invariant-loop-labels g l = record {
  lone : l.parted.lone ++ filter_map (λ group. alone group.1) l.labels-iterator ≡ filter_map (λ group. alone group.1) l.initial.labels-iterator;
  shared : l.parted.shared ++ filter_map shared_of l.labels-iterator ≡ filter_map shared_of l.initial.labels-iterator;
}
