use Rattle.promql_tool.proofs.LostLine.{lost_ended}
use Rattle.promql_tool.proofs.print.end_cut.Goals as goal

pub returns-in-Lost-clause-ended : goal.returns-in-Lost-clause-ended
returns-in-Lost-clause-ended g c = rw c.in-Lost.is (lost_ended _ _ _ c.print_lost.result _ c.lost_status.ensures.ok c.lost_status.ensures.err c.print_lost.ensures.ok c.print_lost.ensures.err)
