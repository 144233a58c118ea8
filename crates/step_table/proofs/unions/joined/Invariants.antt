use Rattle.std.proofs.Common.{◌≡◌, ◌++◌, true}
use Rattle.std.specs.Set.{sorted_merge}
use Rattle.std.specs.Vec.Iter.{into_iter_items}
use Rattle.step_table.proofs.unions.joined.Given as goal

abbrev pub invariant-loop-item : goal.invariant-loop-item
invariant-loop-item g l = l.all ++ sorted_merge g.T.Ord.cmp true (into_iter_items l.item-iterator) l.rest ≡ sorted_merge g.T.Ord.cmp true (into_iter_items l.initial.item-iterator) l.initial.rest
