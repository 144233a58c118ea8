use Rattle.std.proofs.Common.{◌≡◌, ◌++◌}
use Rattle.std.specs.Vec.Iter.{into_iter_items}
use Rattle.promql_meaning.specs.RankedGroups.{grouped_refs}
use Rattle.promql_meaning.proofs.ranks.with_groups.Given as goal

abbrev pub invariant-loop-row : goal.invariant-loop-row
invariant-loop-row l = l.pairs ++ grouped_refs l.by (into_iter_items l.row-iterator) ≡ grouped_refs l.by (into_iter_items l.initial.row-iterator)
