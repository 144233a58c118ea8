use Rattle.xfrac.proofs.Adding.{joined_stands, alone_stands}
use Rattle.xfrac.proofs.laws.joined_sums_stand_for_both.Goals as goal

pub returns-clause-joined : goal.returns-clause-joined
returns-clause-joined c = joined_stands

pub returns-clause-alone : goal.returns-clause-alone
returns-clause-alone c = alone_stands
