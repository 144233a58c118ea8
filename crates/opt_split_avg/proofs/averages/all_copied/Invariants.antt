use Rattle.std.proofs.Common.{◌≡◌, take}
use Rattle.opt_split_avg.proofs.averages.all_copied.Given as goal

abbrev pub invariant-loop-p : goal.invariant-loop-p
invariant-loop-p l = l.copies ≡ take l.p-index l.p-items
