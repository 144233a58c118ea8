use Rattle.std.proofs.Common.{◌≡◌, take}
use Rattle.op_window.specs.Rules.{names_of}
use Rattle.op_window.proofs.named.labels_of.Given as goal

abbrev pub invariant-loop-i : goal.invariant-loop-i
invariant-loop-i l = l.labels ≡ names_of l.store (take l.i l.series)
