use Rattle.value_fn.proofs.Rounding.{rounds_to_nearest}
use Rattle.value_fn.proofs.laws.rounding_is_nearest.Goals as goal

pub returns : goal.returns
returns c = rounds_to_nearest c.lowest_terms_are_lowest.ensures.value c.sum_is_exact.ensures c.floor_is_greatest.ensures.not_above c.floor_is_greatest.ensures.greatest
