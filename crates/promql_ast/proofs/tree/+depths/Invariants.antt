use Rattle.std.proofs.Common.{◌≡◌, ◌-◌, ◌^◌, ◌≤◌, drop, map, max, min}
use Rattle.promql_ast.specs.Depth.{depth, greatest}
use Rattle.promql_ast.proofs.tree.+depths.Given as goal

abbrev pub invariant-greatest_depth-loop-e : goal.invariant-greatest_depth-loop-e
invariant-greatest_depth-loop-e l = record {
  rest : min (max l.most (greatest (map depth (drop l.e-index l.e-items)))) (2 ^ 64 - 1) ≡ min (greatest (map depth l.e-items)) (2 ^ 64 - 1);
  fits : l.most ≤ 2 ^ 64 - 1;
}
