use Rattle.std.proofs.Common.{◌≡◌, ◌++◌, map}
use Rattle.std.specs.Vec.Iter.{into_iter_items}
use Rattle.step_rules.specs.declared.orders.Ranked.{Ranked}
use Rattle.step_rules.proofs.orders.series_in.Given as goal

abbrev pub invariant-loop-one : goal.invariant-loop-one
invariant-loop-one l = l.series ++ map (λ (r : Ranked). r.series) (into_iter_items l.one-iterator) ≡ map (λ (r : Ranked). r.series) (into_iter_items l.initial.one-iterator)
