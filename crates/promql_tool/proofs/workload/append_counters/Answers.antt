use Rattle.promql_tool.specs.Workload.{counter_line}
use Rattle.promql_tool.proofs.Counted.{pieces_more}
use Rattle.promql_tool.proofs.workload.append_counters.Goals as goal

pub loop-counter-preserved : goal.loop-counter-preserved
loop-counter-preserved c = pieces_more counter_line c.loop-counter.counter _ _ _ c.loop-counter.invariant c.in_ok-append_counter.ensures
