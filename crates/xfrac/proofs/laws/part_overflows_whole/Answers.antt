use Rattle.xfrac.proofs.LawProofs.{totals_grow, part_overflows}
use Rattle.xfrac.proofs.laws.part_overflows_whole.Goals as goal

pub returns-clause-totals : goal.returns-clause-totals
returns-clause-totals c = totals_grow

pub returns-clause-overflow : goal.returns-clause-overflow
returns-clause-overflow c = part_overflows
