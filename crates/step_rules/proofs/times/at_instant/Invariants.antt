use Rattle.std.proofs.Common.{◌≡◌, take}
use Rattle.std.specs.Prelude.{map}
use Rattle.promql_meaning.specs.Elements.{instant_outcome}
use Rattle.step_rules.proofs.times.at_instant.Given as goal

abbrev pub invariant-loop-row : goal.invariant-loop-row
invariant-loop-row l = l.outcomes ≡ map (instant_outcome l.t.0) (take l.row-index l.row-items)
