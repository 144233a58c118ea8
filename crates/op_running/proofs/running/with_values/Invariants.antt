use Rattle.std.proofs.Common.{◌++◌, List, take}
use Rattle.xfrac.specs.declared.value.XFrac.{XFrac}
use Rattle.op_running.proofs.running.with_values.Given as goal

abbrev pub invariant-loop-value : goal.invariant-loop-value
invariant-loop-value g l = (xs : List XFrac) → g.S.Summary.is_of l.fn.summary xs → g.S.Summary.is_of l.all (xs ++ take l.value-index l.values)
