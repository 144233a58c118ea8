use Rattle.std.proofs.Common.{◌≡◌, ◌++◌}
use Rattle.std.specs.Vec.Iter.{into_iter_items}
use Rattle.std.specs.Prelude.{map}
use Rattle.promql_meaning.specs.Givens.{unstamped}
use Rattle.promql_meaning.proofs.given.unstamped.Given as goal

abbrev pub invariant-loop-row : goal.invariant-loop-row
invariant-loop-row l = l.rows ++ map unstamped (into_iter_items l.row-iterator) ≡ map unstamped (into_iter_items l.initial.row-iterator)
