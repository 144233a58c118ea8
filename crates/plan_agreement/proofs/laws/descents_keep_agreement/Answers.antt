use Rattle.plan_agreement.proofs.Nodes.{descents_agree, valid_descents_agree}
use Rattle.plan_agreement.proofs.laws.descents_keep_agreement.Goals as goal

pub returns-clause-any : goal.returns-clause-any
returns-clause-any c = descents_agree c.unions_are_sets.ensures.marks

pub returns-clause-valid : goal.returns-clause-valid
returns-clause-valid c = valid_descents_agree c.unions_are_sets.ensures.marks
