use Rattle.std.proofs.Common.{◌≡◌, ◌++◌, map}
use Rattle.logical_plan.specs.Onces.{Onced, once_of}
use Rattle.logical_plan.proofs.onces.+placing.Given as goal

abbrev pub invariant-placed_all-loop-p : goal.invariant-placed_all-loop-p
invariant-placed_all-loop-p l =
    l.all ++ map (λ (o : Onced). o.plan l.inside) (map once_of l.p-iterator.rest.items) ≡ map (λ (o : Onced). o.plan l.inside) (map once_of l.fn.plans)
