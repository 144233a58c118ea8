use Rattle.std.proofs.Common.{◌≡◌, take}
use Rattle.op_window.specs.Rules.{names_in}
use Rattle.op_window.proofs.named.labels_in.Given as goal

abbrev pub invariant-loop-i : goal.invariant-loop-i
invariant-loop-i l = l.labels ≡ names_in (take l.i l.windows.rows)
