use Rattle.std.proofs.Common.{◌≡◌, ℕ, false, length, take, get_or}
use Rattle.std.specs.Prelude.{◌||◌}
use Rattle.op_rank.specs.Contenders.{has_at}
use Rattle.op_rank.proofs.contenders.mark.Given as goal

abbrev pub invariant-loop-one : goal.invariant-loop-one
invariant-loop-one l = record {
  len : length l.is_taken.items ≡ length l.fn.is_taken.items;
  marks : (k : ℕ) → get_or l.is_taken.items k false ≡ (get_or l.fn.is_taken.items k false || has_at k (take l.one-index l.some));
}
