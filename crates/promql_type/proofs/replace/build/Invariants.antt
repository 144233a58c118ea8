use Rattle.std.proofs.Common.{take}
use Rattle.promql_type.proofs.Builds.{AreSofar}
use Rattle.promql_type.proofs.replace.build.Given as goal

abbrev pub invariant-loop-r : goal.invariant-loop-r
invariant-loop-r l = AreSofar l.initial.kept l.kept (take l.r-index l.wanted) l.placed
