use Rattle.std.proofs.Common.{◌≡◌, take}
use Rattle.std.specs.Prelude.{filter}
use Rattle.promql_meaning.specs.Ranks.{is_ranked}
use Rattle.promql_meaning.proofs.ranks.first_rows.Given as goal

abbrev pub invariant-loop-row : goal.invariant-loop-row
invariant-loop-row l = l.out ≡ filter (is_ranked l.down l.by l.count l.rows) (take l.row-index l.rows)
