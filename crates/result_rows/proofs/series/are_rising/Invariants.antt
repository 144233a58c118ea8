use Rattle.std.specs.List.{AllAdjacentBelow}
use Rattle.result_rows.proofs.Risen.{IsBelow}
use Rattle.result_rows.proofs.series.are_rising.Given as goal

abbrev pub invariant-loop-i : goal.invariant-loop-i
invariant-loop-i l = AllAdjacentBelow IsBelow l.series l.i
