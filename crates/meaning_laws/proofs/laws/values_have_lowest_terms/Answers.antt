use Rattle.meaning_laws.proofs.Lowest.{meaning_lowest}
use Rattle.meaning_laws.proofs.laws.values_have_lowest_terms.Goals as goal

pub returns : goal.returns
returns c = meaning_lowest c.values_are_lowest.ensures c.values_are_numbers.ensures.step
