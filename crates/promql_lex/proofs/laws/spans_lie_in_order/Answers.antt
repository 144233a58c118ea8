use Rattle.std.proofs.Common.{false}
use Rattle.promql_lex.proofs.Spans.{laid_out}
use Rattle.promql_lex.proofs.laws.spans_lie_in_order.Goals as goal

pub returns : goal.returns
returns c = λ text. laid_out 0 false 0 text
