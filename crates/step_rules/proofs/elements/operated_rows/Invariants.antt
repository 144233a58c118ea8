use Rattle.std.proofs.Common.{◌≡◌, ◌++◌}
use Rattle.std.specs.Vec.Iter.{into_iter_items}
use Rattle.std.specs.Prelude.{map}
use Rattle.promql_meaning.specs.Elements.{operator_outcome}
use Rattle.step_rules.proofs.elements.operated_rows.Given as goal

abbrev pub invariant-loop-row : goal.invariant-loop-row
invariant-loop-row l = l.outcomes ++ map (operator_outcome l.op l.scalar_left l.scalar) (into_iter_items l.row-iterator) ≡ map (operator_outcome l.op l.scalar_left l.scalar) (into_iter_items l.initial.row-iterator)
