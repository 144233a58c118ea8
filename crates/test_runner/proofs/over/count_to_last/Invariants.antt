use Rattle.std.proofs.Common.{◌-◌, drop}
use Rattle.std.specs.List.{AllByRecursion}
use Rattle.script_read.specs.declared.script.Command.{Command}
use Rattle.test_runner.specs.Verdicts.{IsNoEvaluation}
use Rattle.test_runner.proofs.over.count_to_last.Given as goal

-- no evaluation stands among the last so many
abbrev pub invariant-loop-k : goal.invariant-loop-k
invariant-loop-k l = AllByRecursion (λ (one : Command). IsNoEvaluation one.what) (drop (l.count - l.k) l.commands)
