use Rattle.plan_parts.proofs.Meant.{meant}
use Rattle.plan_parts.proofs.laws.gathers_are_meant.Goals as goal

pub returns : goal.returns
returns c = meant c.meanings_are_well_formed.ensures c.unions_are_sets.ensures.set c.sets_stay.ensures
