use Rattle.promql_meaning.proofs.Summed.{sums}
use Rattle.promql_meaning.proofs.laws.sums_of_sums.Goals as goal

pub returns : goal.returns
returns c =
    sums c.sum_ignores_order.ensures c.joined_sums_stand_for_both.ensures.joined c.joined_sums_stand_for_both.ensures.alone c.part_overflows_whole.ensures.overflow c.lcm_is_least.ensures.multiple
    c.lcm_is_least.ensures.least
