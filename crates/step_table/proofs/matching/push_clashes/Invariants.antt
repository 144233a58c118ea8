use Rattle.std.proofs.Common.{◌≡◌, ◌++◌, map}
use Rattle.std.specs.Vec.Iter.{into_iter_items}
use Rattle.step_table.specs.Matching.{clash_mark}
use Rattle.step_table.proofs.matching.push_clashes.Given as goal

abbrev pub invariant-loop-labels : goal.invariant-loop-labels
invariant-loop-labels l = l.fatal ++ map (clash_mark l.card) (into_iter_items l.labels-iterator) ≡ l.initial.fatal ++ map (clash_mark l.card) (into_iter_items l.initial.labels-iterator)
