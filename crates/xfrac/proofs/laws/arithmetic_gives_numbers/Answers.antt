use Rattle.xfrac.proofs.Numbers.{arithmetic_number, formed_anew}
use Rattle.xfrac.proofs.laws.arithmetic_gives_numbers.Goals as goal

pub returns-clause-numbers : goal.returns-clause-numbers
returns-clause-numbers c = arithmetic_number

pub returns-clause-formed : goal.returns-clause-formed
returns-clause-formed c = formed_anew
