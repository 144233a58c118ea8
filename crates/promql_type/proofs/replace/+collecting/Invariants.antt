use Rattle.std.proofs.Common.{◌≡◌, ◌++◌, map, drop}
use Rattle.promql_type.specs.Judging.{all_replacements, judged}
use Rattle.promql_type.proofs.replace.+collecting.Given as goal

abbrev pub invariant-collect_all-loop-e : goal.invariant-collect_all-loop-e
invariant-collect_all-loop-e l = l.into ++ all_replacements (map judged (drop l.e-index l.arguments)) ≡ l.initial.into ++ all_replacements (map judged l.arguments)
