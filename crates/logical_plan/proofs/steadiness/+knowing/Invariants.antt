use Rattle.std.proofs.Common.{◌≡◌, map, drop}
use Rattle.logical_plan.specs.Onces.{Onced, once_of}
use Rattle.logical_plan.specs.Steadiness.{all_of}
use Rattle.logical_plan.proofs.steadiness.+knowing.Given as goal

abbrev pub invariant-all_known-loop-p : goal.invariant-all_known-loop-p
invariant-all_known-loop-p l =
    all_of l.found (map (λ (o : Onced). o.facts) (map once_of (drop l.p-index l.plans))) ≡ all_of l.fn.first (map (λ (o : Onced). o.facts) (map once_of l.plans))
