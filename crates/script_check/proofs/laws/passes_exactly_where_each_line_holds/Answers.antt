use Rattle.script_check.proofs.Holding.{lines_hold, lines_hold_if}
use Rattle.script_check.proofs.laws.passes_exactly_where_each_line_holds.Goals as goal

pub returns : goal.returns
returns c = λ kept e instant o. (lines_hold kept e instant o, lines_hold_if kept e instant o)
