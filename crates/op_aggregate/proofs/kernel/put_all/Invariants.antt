use Rattle.std.proofs.Common.{◌≡◌, [], length, map, drop, take}
use Rattle.promql_meaning.specs.Ranks.{kept_labels}
use Rattle.step_batch.specs.Lent.{stages}
use Rattle.step_put.specs.Puts.{AreAt}
use Rattle.op_aggregate.specs.Places.{AreTallied}
use Rattle.op_aggregate.specs.OwedCells.{cells_at}
use Rattle.op_aggregate.specs.Rules.{aggregations, owed_cells}
use Rattle.step_put.specs.Feeding.{Follow}
use Rattle.op_aggregate.proofs.kernel.put_all.Given as goal

abbrev pub invariant-loop-i : goal.invariant-loop-i
invariant-loop-i l = record {
  f : l.groups.f ≡ l.fn.groups.f;
  many : length l.groups.all.items ≡ length l.fn.groups.all.items;
  empty : AreTallied [] l.groups;
  labels : l.buffer.labels ≡ l.fn.buffer.labels;
  follow : Follow l.buffer (drop l.i l.rows.steps);
  lent : (by : _) → AreAt l.fn.buffer.labels (map (kept_labels by) l.rows.labels) l.places → stages l.buffer ≡ aggregations l.fn.groups.f by (take l.i (stages l.rows));
  wanted : l.owed.wanted ≡ l.fn.owed.wanted;
  owed : (by : _) → AreAt l.fn.buffer.labels (map (kept_labels by) l.rows.labels) l.places → map (cells_at l.fn.buffer.labels) l.owed.steps.items ≡ owed_cells l.fn.owed.wanted l.fn.groups.f by (take l.i (stages l.rows));
}
