use Rattle.parting_laws.proofs.Locals.{left_parted, right_parted}
use Rattle.parting_laws.proofs.laws.scalar_sides_are_parted.Goals as goal

pub returns-clause-right : goal.returns-clause-right
returns-clause-right c = right_parted c.unions_are_sets.ensures.marks c.unions_are_sets.ensures.notes

pub returns-clause-left : goal.returns-clause-left
returns-clause-left c = left_parted c.unions_are_sets.ensures.marks c.unions_are_sets.ensures.notes
