use Rattle.std.proofs.Common.{◌≡◌, ◌++◌, map, List}
use Rattle.std.specs.List.{AllByRecursion}
use Rattle.step_cells.specs.Joined.{finished_outcome}
use Rattle.step_table.specs.Groups.{Names}
use Rattle.step_table.specs.declared.cells.Cell.{Cell}
use Rattle.op_gather.specs.Cells.{MayFinish}
use Rattle.op_gather.proofs.groups.finish_all.Given as goal

abbrev pub invariant-loop-labels : goal.invariant-loop-labels
invariant-loop-labels l = record {
  outcomes : l.outcomes ++ map (finished_outcome l.f) l.labels-iterator ≡ map (finished_outcome l.f) l.initial.labels-iterator;
  left : AllByRecursion (λ (group : Names × List Cell). MayFinish l.f group.1) l.labels-iterator;
}
