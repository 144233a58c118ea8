use Rattle.std.proofs.Common.{◌≡◌, ◌<◌, ◌≤◌, ℕ, length}
use Rattle.op_rank.specs.Best.{AreBest, Keeps}
use Rattle.op_rank.specs.Contenders.{before, kept_in}
use Rattle.op_rank.proofs.contenders.settle_all.Given as goal

abbrev pub invariant-loop-i : goal.invariant-loop-i
invariant-loop-i l = record {
  len : length l.best.items ≡ length l.fn.best.items;
  done : (group : ℕ) (all : _) → Keeps (before l.wanted.down) l.wanted.count all (kept_in l.fn.best.items group) → group < l.i → AreBest (before l.wanted.down) l.wanted.count all (kept_in l.best.items group);
  left : (group : ℕ) → l.i ≤ group → kept_in l.best.items group ≡ kept_in l.fn.best.items group;
}
