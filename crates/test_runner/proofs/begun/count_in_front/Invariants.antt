use Rattle.std.proofs.Common.{take}
use Rattle.std.specs.List.{AllByRecursion}
use Rattle.script_read.specs.declared.script.Command.{Command}
use Rattle.test_runner.specs.Verdicts.{IsNoEvaluation}
use Rattle.test_runner.proofs.begun.count_in_front.Given as goal

abbrev pub invariant-loop-i : goal.invariant-loop-i
invariant-loop-i l = AllByRecursion (λ (one : Command). IsNoEvaluation one.what) (take l.i l.commands)
