use Rattle.std.proofs.Common.{◌≡◌, ℕ, false, length, take, get_or}
use Rattle.std.specs.Prelude.{◌||◌}
use Rattle.op_rank.specs.Contenders.{is_in_some}
use Rattle.op_rank.proofs.contenders.mark_all.Given as goal

abbrev pub invariant-loop-some : goal.invariant-loop-some
invariant-loop-some l = record {
  len : length l.is_taken.items ≡ length l.fn.is_taken.items;
  marks : (k : ℕ) → get_or l.is_taken.items k false ≡ (get_or l.fn.is_taken.items k false || is_in_some k (take l.some-index l.best));
}
