use Rattle.parting_laws.proofs.Selectors.{range_gives_nothing, selector_gives_nothing, timestamp_gives_nothing}
use Rattle.parting_laws.proofs.laws.no_samples_give_nothing.Goals as goal

pub returns-clause-rows : goal.returns-clause-rows
returns-clause-rows c = selector_gives_nothing

pub returns-clause-times : goal.returns-clause-times
returns-clause-times c = timestamp_gives_nothing

pub returns-clause-windows : goal.returns-clause-windows
returns-clause-windows c = range_gives_nothing
