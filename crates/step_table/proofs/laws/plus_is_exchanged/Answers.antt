use Rattle.step_table.proofs.Exchanged.{keeps_signature, pairs_exchanged, sums_exchange_rows, sums_exchanged}
use Rattle.step_table.proofs.laws.plus_is_exchanged.Goals as goal

pub returns-clause-labels : goal.returns-clause-labels
returns-clause-labels c = keeps_signature

pub returns-clause-pairs : goal.returns-clause-pairs
returns-clause-pairs c = pairs_exchanged c.sum_ignores_order.ensures

pub returns-clause-rows : goal.returns-clause-rows
returns-clause-rows c = sums_exchange_rows c.sum_ignores_order.ensures

pub returns-clause-steps : goal.returns-clause-steps
returns-clause-steps c = sums_exchanged c.sum_ignores_order.ensures
