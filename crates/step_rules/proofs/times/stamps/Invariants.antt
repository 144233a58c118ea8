use Rattle.std.proofs.Common.{◌≡◌, take}
use Rattle.std.specs.Prelude.{map}
use Rattle.promql_meaning.specs.Elements.{stamp_outcome}
use Rattle.step_rules.proofs.times.stamps.Given as goal

abbrev pub invariant-loop-row : goal.invariant-loop-row
invariant-loop-row l = l.outcomes ≡ map stamp_outcome (take l.row-index l.rows)
