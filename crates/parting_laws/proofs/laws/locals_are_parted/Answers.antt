use Rattle.parting_laws.proofs.AllLocals.{locals_parted}
use Rattle.parting_laws.proofs.laws.locals_are_parted.Goals as goal

pub returns : goal.returns
returns c = locals_parted c.unions_are_sets.ensures.marks c.unions_are_sets.ensures.notes
