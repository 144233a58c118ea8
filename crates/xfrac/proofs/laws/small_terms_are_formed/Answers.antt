use Rattle.xfrac.proofs.Numbers.{fraction_formed, whole_formed, whole_number_is}
use Rattle.xfrac.proofs.laws.small_terms_are_formed.Goals as goal

pub returns-clause-fraction : goal.returns-clause-fraction
returns-clause-fraction c = fraction_formed

pub returns-clause-whole : goal.returns-clause-whole
returns-clause-whole c = whole_formed

pub returns-clause-number : goal.returns-clause-number
returns-clause-number c = whole_number_is
