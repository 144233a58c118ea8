use Rattle.std.proofs.Common.{◌≡◌, map, drop}
use Rattle.promql_type.specs.Judging.{arguments_refusals, judged}
use Rattle.promql_type.specs.Refusals.{lesser, least}
use Rattle.promql_type.specs.Signatures.{signature}
use Rattle.promql_type.proofs.judge.+judging.Given as goal

abbrev pub invariant-judge_arguments-loop-number : goal.invariant-judge_arguments-loop-number
invariant-judge_arguments-loop-number l =
    lesser l.least (least (arguments_refusals (signature l.callee) l.number (map judged (drop l.number l.arguments))))
    ≡ least (arguments_refusals (signature l.callee) 0 (map judged l.arguments))
