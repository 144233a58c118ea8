use Rattle.std.proofs.Common.{◌≡◌, map, ℕ, ◌+◌, ◌<◌, []}
use Rattle.std.specs.Prelude.{get_or}
use Rattle.std.specs.declared.cmp.Ordering.TheVariants.{Less}
use Rattle.label_set.specs.Labels.{labels_cmp}
use Rattle.op_rank.specs.LabelOrders.{names_at}
use Rattle.op_rank.proofs.label_order.are_rising.Given as goal

abbrev pub invariant-loop-i : goal.invariant-loop-i
invariant-loop-i l = (k : ℕ) → k + 1 < l.i → labels_cmp (get_or (map (names_at l.labels) l.places) k []) (get_or (map (names_at l.labels) l.places) (k + 1) []) ≡ Less
