use Rattle.parting_laws.proofs.Locals.{parens_parted, ranges_parted, selectors_parted}
use Rattle.parting_laws.proofs.laws.leaves_are_parted.Goals as goal

pub returns-clause-selectors : goal.returns-clause-selectors
returns-clause-selectors c = selectors_parted

pub returns-clause-ranges : goal.returns-clause-ranges
returns-clause-ranges c = ranges_parted

pub returns-clause-parens : goal.returns-clause-parens
returns-clause-parens c = parens_parted
