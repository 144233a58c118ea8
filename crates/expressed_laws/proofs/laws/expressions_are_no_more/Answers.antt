use Rattle.expressed_laws.proofs.Limits.{as_steady, no_selectors, scalars, within_plan}
use Rattle.expressed_laws.proofs.laws.expressions_are_no_more.Goals as goal

pub returns : goal.returns
returns c = record { within = within_plan; steady = as_steady; selectors = no_selectors; scalars = scalars }
