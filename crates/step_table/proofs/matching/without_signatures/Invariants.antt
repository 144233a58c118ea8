use Rattle.std.proofs.Common.{◌≡◌, ◌++◌}
use Rattle.std.specs.Map.{values_of}
use Rattle.std.specs.Vec.Iter.{into_iter_items}
use Rattle.step_table.proofs.matching.without_signatures.Given as goal

abbrev pub invariant-loop-row : goal.invariant-loop-row
invariant-loop-row l = l.rows ++ values_of (into_iter_items l.row-iterator) ≡ values_of (into_iter_items l.initial.row-iterator)
