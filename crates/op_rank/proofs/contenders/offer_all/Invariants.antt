use Rattle.std.proofs.Common.{◌≡◌, ℕ, length, take}
use Rattle.op_rank.specs.Best.{Keeps}
use Rattle.op_rank.specs.Contenders.{AreNumbers, before, contenders_in, kept_in}
use Rattle.op_rank.proofs.contenders.offer_all.Given as goal

abbrev pub invariant-loop-i : goal.invariant-loop-i
invariant-loop-i l = record {
  len : length l.best.items ≡ length l.fn.best.items;
  numbers : AreNumbers (take l.i l.slots);
  keeps : (group : ℕ) → Keeps (before l.wanted.down) l.wanted.count (contenders_in l.ranking.groups.now l.ranking.ranks.now group 0 (take l.i l.slots)) (kept_in l.best.items group);
}
