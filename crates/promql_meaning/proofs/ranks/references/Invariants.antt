use Rattle.std.proofs.Common.{◌≡◌, take}
use Rattle.std.specs.List.{All}
use Rattle.xfrac.specs.Laws.{IsNumber}
use Rattle.promql_meaning.specs.RankedGroups.{seen}
use Rattle.promql_meaning.proofs.ranks.references.Given as goal

abbrev pub invariant-loop-row : goal.invariant-loop-row
invariant-loop-row l = record {
  rows : seen l.refs.items ≡ take l.row-index l.rows;
  numbers : All (λ row. IsNumber row.now.value) l.refs.items;
}
