use Rattle.promql_tool.proofs.OneReport.{one_report}
use Rattle.promql_tool.proofs.laws.words_have_one_report.Goals as goal

pub returns : goal.returns
returns c = one_report
