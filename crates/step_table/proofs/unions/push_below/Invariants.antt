use Rattle.std.proofs.Common.{length}
use Rattle.step_table.proofs.Merges.{IsSame}
use Rattle.step_table.proofs.unions.push_below.Given as goal

abbrev pub invariant-loop-rest : goal.invariant-loop-rest
invariant-loop-rest g l = IsSame g.T.Ord.cmp l.bound l.all l.rest l.initial.all l.items

abbrev pub decreases-loop-rest : goal.decreases-loop-rest
decreases-loop-rest g l = length l.rest
