use Rattle.plan_agreement.proofs.ValidParts.{parts_valid, valid_part}
use Rattle.plan_agreement.proofs.laws.parts_of_valid_plans_are_valid.Goals as goal

pub returns-clause-parts : goal.returns-clause-parts
returns-clause-parts c = parts_valid

pub returns-clause-whole : goal.returns-clause-whole
returns-clause-whole c = valid_part
