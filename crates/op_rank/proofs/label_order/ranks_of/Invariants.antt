use Rattle.std.proofs.Common.{◌≡◌, ℕ, ◌<◌, length, get_or}
use Rattle.op_rank.proofs.label_order.ranks_of.Given as goal

abbrev pub invariant-loop-i : goal.invariant-loop-i
invariant-loop-i l = record {
  count : length l.ranks.items ≡ length l.places;
  ranks : (k : ℕ) → k < l.i → get_or l.ranks.items (get_or l.places k 0) 0 ≡ k;
}
