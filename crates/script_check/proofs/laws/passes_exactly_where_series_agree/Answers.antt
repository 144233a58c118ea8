use Rattle.script_check.proofs.Holding.{unmarked, unmarked_if}
use Rattle.script_check.proofs.laws.passes_exactly_where_series_agree.Goals as goal

pub returns : goal.returns
returns c = λ kept e instant o u. (unmarked kept e instant o u, unmarked_if kept e instant o u)
