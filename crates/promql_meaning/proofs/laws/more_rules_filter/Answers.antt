use Rattle.promql_meaning.proofs.Filtered.{rows_filtered, windows_filtered}
use Rattle.promql_meaning.proofs.laws.more_rules_filter.Goals as goal

pub returns : goal.returns
returns c = record { rows = rows_filtered; windows = windows_filtered }
