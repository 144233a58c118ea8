use Rattle.test_runner.proofs.Carrying.{verdict_lines, verdicts_number}
use Rattle.test_runner.proofs.laws.each_evaluation_has_one_verdict.Goals as goal

pub returns-clause-lines : goal.returns-clause-lines
returns-clause-lines c = verdict_lines

pub returns-clause-totals : goal.returns-clause-totals
returns-clause-totals c = verdicts_number
