use Rattle.xfrac.proofs.LawProofs.{lowest_equal, lowest_reduced}
use Rattle.xfrac.proofs.laws.lowest_terms_are_lowest.Goals as goal

pub returns-clause-value : goal.returns-clause-value
returns-clause-value c = lowest_equal

pub returns-clause-reduced : goal.returns-clause-reduced
returns-clause-reduced c = lowest_reduced
