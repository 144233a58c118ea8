use Rattle.std.proofs.Common.{◌≡◌, ◌++◌, take}
use Rattle.std.specs.List.{flat_map}
use Rattle.promql_tool.specs.Query.{point_text}
use Rattle.promql_tool.proofs.text.append_points.Given as goal

abbrev pub invariant-loop-point : goal.invariant-loop-point
invariant-loop-point l = l.into.items ≡ l.fn.into.items ++ flat_map point_text (take l.point-index l.points)
