use Rattle.parting_laws.proofs.Locals.{sorts_parted, timestamps_parted}
use Rattle.parting_laws.proofs.laws.sorts_and_times_are_parted.Goals as goal

pub returns-clause-sorts : goal.returns-clause-sorts
returns-clause-sorts c = sorts_parted c.unions_are_sets.ensures.marks c.unions_are_sets.ensures.notes

pub returns-clause-times : goal.returns-clause-times
returns-clause-times c = timestamps_parted c.unions_are_sets.ensures.marks c.unions_are_sets.ensures.notes
