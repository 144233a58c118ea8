use Rattle.std.proofs.Common.{drop}
use Rattle.std.specs.List.{AllByRecursion}
use Rattle.script_check.specs.Paired.{IsBeside}
use Rattle.script_check.proofs.paired.are_beside.Given as goal

abbrev pub invariant-loop-one : goal.invariant-loop-one
invariant-loop-one l = AllByRecursion (IsBeside l.all) (drop l.one-index l.others) → AllByRecursion (IsBeside l.all) l.others
