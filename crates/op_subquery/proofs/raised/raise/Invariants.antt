use Rattle.std.proofs.Common.{◌≡◌, drop}
use Rattle.op_subquery.specs.Raised.{raised_all}
use Rattle.op_subquery.proofs.raised.raise.Given as goal

abbrev pub invariant-loop-mark : goal.invariant-loop-mark
invariant-loop-mark g l = raised_all g.K.Ord.cmp l.last.entries (drop l.mark-index l.marks) l.at ≡ raised_all g.K.Ord.cmp l.fn.last.entries l.marks l.at
