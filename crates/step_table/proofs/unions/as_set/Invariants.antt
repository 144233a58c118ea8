use Rattle.std.proofs.Common.{◌≡◌}
use Rattle.std.specs.BTreeSet.{insert_key}
use Rattle.std.specs.Prelude.{fold}
use Rattle.std.specs.Vec.Iter.{into_iter_items}
use Rattle.step_table.proofs.unions.as_set.Given as goal

abbrev pub invariant-loop-item : goal.invariant-loop-item
invariant-loop-item g l = fold (insert_key g.T.Ord.cmp) l.set.keys (into_iter_items l.item-iterator) ≡ fold (insert_key g.T.Ord.cmp) l.initial.set.keys (into_iter_items l.initial.item-iterator)
