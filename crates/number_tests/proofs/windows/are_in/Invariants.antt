use Rattle.std.proofs.Common.{take}
use Rattle.std.specs.List.{All}
use Rattle.window_fn.specs.Windows.{IsInFrame}
use Rattle.number_tests.proofs.windows.are_in.Given as goal

abbrev pub invariant-loop-t : goal.invariant-loop-t
invariant-loop-t l = All (IsInFrame l.frame) (take l.t-index l.times)
