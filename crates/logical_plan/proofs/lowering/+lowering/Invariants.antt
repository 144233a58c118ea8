use Rattle.std.proofs.Common.{◌≡◌, ◌++◌, map, drop}
use Rattle.promql_type.specs.TypedTrees.{placed_of}
use Rattle.logical_plan.specs.Lowering.{low, plans_of}
use Rattle.logical_plan.proofs.lowering.+lowering.Given as goal

abbrev pub invariant-lower_all-loop-e : goal.invariant-lower_all-loop-e
invariant-lower_all-loop-e l = l.plans ++ plans_of (placed_of l.typed) (map low (drop l.e-index l.all)) ≡ plans_of (placed_of l.typed) (map low l.all)

abbrev pub invariant-lower_rest-loop-i : goal.invariant-lower_rest-loop-i
invariant-lower_rest-loop-i l = l.plans ++ plans_of (placed_of l.typed) (map low (drop l.i l.all)) ≡ plans_of (placed_of l.typed) (drop 1 (map low l.all))
