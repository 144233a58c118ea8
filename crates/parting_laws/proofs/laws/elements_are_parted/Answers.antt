use Rattle.parting_laws.proofs.Locals.{elements_parted, signs_parted}
use Rattle.parting_laws.proofs.laws.elements_are_parted.Goals as goal

pub returns-clause-signs : goal.returns-clause-signs
returns-clause-signs c = signs_parted c.unions_are_sets.ensures.marks c.unions_are_sets.ensures.notes

pub returns-clause-functions : goal.returns-clause-functions
returns-clause-functions c = elements_parted c.unions_are_sets.ensures.marks c.unions_are_sets.ensures.notes
