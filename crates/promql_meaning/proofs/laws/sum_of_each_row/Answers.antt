use Rattle.promql_meaning.proofs.EachRow.{each_row}
use Rattle.promql_meaning.proofs.laws.sum_of_each_row.Goals as goal

pub returns : goal.returns
returns c = each_row c.joined_sums_stand_for_both.ensures.alone
