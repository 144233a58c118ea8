use Rattle.std.proofs.Common.{◌≡◌, drop}
use Rattle.step_table.specs.Operators.{all_put}
use Rattle.op_match.proofs.labels.put_all.Given as goal

abbrev pub invariant-loop-i : goal.invariant-loop-i
invariant-loop-i l = all_put l.all (drop l.i l.pairs) ≡ all_put l.initial.all l.pairs
