use Rattle.std.proofs.Common.{arith}
use Rattle.promql_parse.proofs.Levels.{too_deep, deeper}
use Rattle.promql_parse.proofs.reader.opened.Goals as goal

pub returns-then-budget-eq0-clause-is : goal.returns-then-budget-eq0-clause-is
returns-then-budget-eq0-clause-is c = λ end. too_deep end c.args.budget c.args.at c.if-budget-eq0.true

pub returns-else-budget-eq0-clause-is : goal.returns-else-budget-eq0-clause-is
returns-else-budget-eq0-clause-is c = λ end. deeper end c.args.budget c.args.at (omega arith)
