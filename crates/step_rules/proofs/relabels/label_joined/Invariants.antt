use Rattle.std.proofs.Common.{◌≡◌, ◌++◌}
use Rattle.std.specs.Vec.Iter.{into_iter_items}
use Rattle.std.specs.Prelude.{map}
use Rattle.step_rules.specs.Joined.{joined_row}
use Rattle.step_rules.proofs.relabels.label_joined.Given as goal

abbrev pub invariant-loop-row : goal.invariant-loop-row
invariant-loop-row l = l.outcomes ++ map (joined_row l.target l.separator l.sources) (into_iter_items l.row-iterator) ≡ map (joined_row l.target l.separator l.sources) (into_iter_items l.initial.row-iterator)
