use Rattle.std.proofs.Common.{◌≡◌, ◌++◌, map}
use Rattle.std.specs.Vec.Iter.{into_iter_items}
use Rattle.step_table.specs.declared.marks.Mark.TheVariants.{DuplicateOneSide}
use Rattle.step_table.proofs.matching.duplicate_marks.Given as goal

abbrev pub invariant-loop-signature : goal.invariant-loop-signature
invariant-loop-signature l = l.marks ++ map DuplicateOneSide (into_iter_items l.signature-iterator) ≡ map DuplicateOneSide (into_iter_items l.initial.signature-iterator)
