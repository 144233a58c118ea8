use Rattle.promql_tool.specs.Workload.{group_line}
use Rattle.promql_tool.proofs.Counted.{pieces_more}
use Rattle.promql_tool.proofs.workload.append_group_lines.Goals as goal

pub loop-group-preserved : goal.loop-group-preserved
loop-group-preserved c = pieces_more (group_line c.args.series) c.loop-group.group _ _ _ c.loop-group.invariant c.in_ok-append_group.ensures
