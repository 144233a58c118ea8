use Rattle.std.proofs.Common.{◌≡◌, ◌<◌, ℕ, [], length}
use Rattle.op_rank.specs.Contenders.{kept_in}
use Rattle.op_rank.proofs.contenders.empty_all.Given as goal

abbrev pub invariant-loop-i : goal.invariant-loop-i
invariant-loop-i l = record {
  len : length l.best.items ≡ length l.fn.best.items;
  empty : (group : ℕ) → group < l.i → kept_in l.best.items group ≡ [];
}
