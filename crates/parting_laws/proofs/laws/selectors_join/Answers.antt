use Rattle.parting_laws.proofs.Selectors.{ranges_join, selectors_join, timestamps_join}
use Rattle.parting_laws.proofs.laws.selectors_join.Goals as goal

pub returns-clause-rows : goal.returns-clause-rows
returns-clause-rows c = selectors_join c.meanings_are_well_formed.ensures

pub returns-clause-times : goal.returns-clause-times
returns-clause-times c =
    timestamps_join c.unions_are_sets.ensures.marks c.unions_are_sets.ensures.set c.steps_are_well_formed.ensures.taken c.steps_are_well_formed.ensures.settled c.meanings_are_well_formed.ensures

pub returns-clause-windows : goal.returns-clause-windows
returns-clause-windows c = ranges_join
