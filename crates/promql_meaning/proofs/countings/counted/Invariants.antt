use Rattle.std.proofs.Common.{◌≡◌, take, map}
use Rattle.promql_meaning.specs.Countings.{counting_outcome}
use Rattle.promql_meaning.proofs.countings.counted.Given as goal

abbrev pub invariant-loop-row : goal.invariant-loop-row
invariant-loop-row l = l.outcomes ≡ map (counting_outcome l.by l.label) (take l.row-index l.row-items)
