use Rattle.promql_tool.proofs.Alike.{reports_stay}
use Rattle.promql_tool.proofs.laws.choices_leave_reports.Goals as goal

pub returns : goal.returns
returns c = reports_stay
