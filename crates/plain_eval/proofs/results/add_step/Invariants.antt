use Rattle.std.proofs.Common.{◌≡◌}
use Rattle.std.specs.Vec.Iter.{into_iter_items}
use Rattle.std.specs.Prelude.{map}
use Rattle.plain_eval.proofs.Walking.{labelled_at, put_all}
use Rattle.plain_eval.proofs.results.add_step.Given as goal

abbrev pub invariant-loop-row : goal.invariant-loop-row
invariant-loop-row l = record {
  points : put_all l.found.points.entries (map (labelled_at l.t) (into_iter_items l.row-iterator)) ≡ put_all l.fn.found.points.entries (map (labelled_at l.t) (into_iter_items l.initial.row-iterator));
  marks : l.found.marks ≡ l.fn.found.marks;
}
