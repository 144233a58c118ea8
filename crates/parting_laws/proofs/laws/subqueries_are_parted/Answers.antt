use Rattle.parting_laws.proofs.SubqueriesParted.{subqueries_parted}
use Rattle.parting_laws.proofs.laws.subqueries_are_parted.Goals as goal

pub returns : goal.returns
returns c = subqueries_parted c.unions_are_sets.ensures.marks c.unions_are_sets.ensures.notes
