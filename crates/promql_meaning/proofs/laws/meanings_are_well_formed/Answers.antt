use Rattle.promql_meaning.proofs.WellMeant.{meanings_well}
use Rattle.promql_meaning.proofs.laws.meanings_are_well_formed.Goals as goal

pub returns : goal.returns
returns c =
    meanings_well c.steps_are_well_formed.ensures.settled c.steps_are_well_formed.ensures.taken c.steps_are_well_formed.ensures.table c.steps_are_well_formed.ensures.paired
    c.steps_are_well_formed.ensures.combined c.unions_are_sets.ensures.set
