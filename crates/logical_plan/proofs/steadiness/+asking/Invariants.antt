use Rattle.std.proofs.Common.{◌≡◌, map, drop}
use Rattle.logical_plan.specs.Steadiness.{all_of, constant, known_part}
use Rattle.logical_plan.proofs.steadiness.+asking.Given as goal

abbrev pub invariant-all_parts_known-loop-e : goal.invariant-all_parts_known-loop-e
invariant-all_parts_known-loop-e l = all_of l.found (map known_part (drop l.e-index l.parts)) ≡ all_of constant (map known_part l.parts)
