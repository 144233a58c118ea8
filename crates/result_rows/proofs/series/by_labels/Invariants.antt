use Rattle.std.proofs.Common.{◌≡◌}
use Rattle.std.specs.Prelude.{fold}
use Rattle.std.specs.Vec.Iter.{into_iter_items}
use Rattle.result_rows.specs.Taken.{with_series}
use Rattle.result_rows.proofs.series.by_labels.Given as goal

abbrev pub invariant-loop-one : goal.invariant-loop-one
invariant-loop-one l = fold with_series l.groups.entries (into_iter_items l.one-iterator) ≡ fold with_series l.initial.groups.entries (into_iter_items l.initial.one-iterator)
