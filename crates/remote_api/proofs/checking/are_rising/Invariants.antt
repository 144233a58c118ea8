use Rattle.std.proofs.Common.{◌≡◌, map, ℕ, ◌+◌, ◌<◌, []}
use Rattle.std.specs.Prelude.{get_or}
use Rattle.std.specs.declared.cmp.Ordering.TheVariants.{Less}
use Rattle.label_set.specs.Labels.{labels_cmp}
use Rattle.step_table.specs.declared.cells.CellRow.{CellRow}
use Rattle.remote_api.proofs.checking.are_rising.Given as goal

abbrev pub invariant-loop-i : goal.invariant-loop-i
invariant-loop-i l = (k : ℕ) → k + 1 < l.i → labels_cmp (get_or (map (λ (row : CellRow). row.labels) l.rows) k []) (get_or (map (λ (row : CellRow). row.labels) l.rows) (k + 1) []) ≡ Less
