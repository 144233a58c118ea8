use Rattle.std.proofs.Common.{◌≡◌, ◌++◌, map}
use Rattle.std.specs.Vec.Iter.{into_iter_items}
use Rattle.step_table.specs.declared.marks.Mark.TheVariants.{SameLabelset}
use Rattle.op_gather.proofs.windows.marks_of.Given as goal

abbrev pub invariant-loop-labels : goal.invariant-loop-labels
invariant-loop-labels l = l.marks ++ map SameLabelset (into_iter_items l.labels-iterator) ≡ map SameLabelset (into_iter_items l.initial.labels-iterator)
