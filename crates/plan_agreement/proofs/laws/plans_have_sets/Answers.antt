use Rattle.plan_agreement.proofs.Sets.{plans_have_sets}
use Rattle.plan_agreement.proofs.laws.plans_have_sets.Goals as goal

pub returns : goal.returns
returns c = plans_have_sets c.unions_are_sets.ensures.set c.meanings_are_well_formed.ensures
