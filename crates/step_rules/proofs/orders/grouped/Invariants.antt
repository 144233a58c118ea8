use Rattle.std.proofs.Common.{◌≡◌, ◌++◌, map}
use Rattle.std.specs.List.{All}
use Rattle.std.specs.Vec.Iter.{into_iter_items}
use Rattle.step_rules.specs.Ranked.{IsRanked}
use Rattle.step_rules.specs.declared.orders.Ranked.{Ranked}
use Rattle.step_rules.proofs.orders.grouped.Given as goal

abbrev pub invariant-loop-series : goal.invariant-loop-series
invariant-loop-series l = record {
  series : map (λ (r : Ranked). r.series) l.ranked.items ++ into_iter_items l.series-iterator ≡ into_iter_items l.initial.series-iterator;
  ranked : All (IsRanked l.by) l.ranked.items;
}
