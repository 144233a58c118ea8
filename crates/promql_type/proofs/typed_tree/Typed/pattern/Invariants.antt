use Rattle.std.proofs.Common.{◌≡◌, drop}
use Rattle.promql_type.specs.TypedTrees.{pattern_at}
use Rattle.promql_type.proofs.typed_tree.Typed.pattern.Given as goal

abbrev pub invariant-loop-placed : goal.invariant-loop-placed
invariant-loop-placed l = pattern_at (drop l.placed-index l.placed-items) l.at ≡ pattern_at l.placed-items l.at
