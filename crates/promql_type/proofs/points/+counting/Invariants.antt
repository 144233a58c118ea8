use Rattle.std.proofs.Common.{◌≡◌, map, drop}
use Rattle.promql_type.specs.Points.{all_crowded, crowded}
use Rattle.promql_type.specs.Refusals.{lesser, least}
use Rattle.promql_type.proofs.points.+counting.Given as goal

abbrev pub invariant-all_refusal-loop-e : goal.invariant-all_refusal-loop-e
invariant-all_refusal-loop-e l =
    lesser l.least (least (all_crowded (map crowded (drop l.e-index l.arguments)) l.around)) ≡ least (all_crowded (map crowded l.arguments) l.around)
