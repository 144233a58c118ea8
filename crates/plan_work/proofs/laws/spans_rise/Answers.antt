use Rattle.plan_work.proofs.Spans.{spans_rise}
use Rattle.plan_work.proofs.laws.spans_rise.Goals as goal

pub returns : goal.returns
returns c = spans_rise
