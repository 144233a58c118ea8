use Rattle.std.proofs.Common.{◌≡◌, take}
use Rattle.promql_meaning.specs.Aggregations.{keyed_values}
use Rattle.engine_local.proofs.groups.by_group.Given as goal

abbrev pub invariant-loop-row : goal.invariant-loop-row
invariant-loop-row l = l.pairs ≡ keyed_values l.by (take l.row-index l.rows)
