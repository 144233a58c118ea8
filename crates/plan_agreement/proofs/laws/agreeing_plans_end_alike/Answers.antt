use Rattle.plan_agreement.proofs.Ending.{meanings_agree, plans_end_alike}
use Rattle.plan_agreement.proofs.laws.agreeing_plans_end_alike.Goals as goal

pub returns-clause-ends : goal.returns-clause-ends
returns-clause-ends c = plans_end_alike c.agreeing_steps_end_alike.ensures c.plans_have_sets.ensures

pub returns-clause-meanings : goal.returns-clause-meanings
returns-clause-meanings c = meanings_agree
