use Rattle.step_table.proofs.Reordered.{outcomes_ignore_order, settled_ignores_order, table_is_one_order}
use Rattle.step_table.proofs.order_laws.rows_ignore_order.Goals as goal

pub returns-clause-outcomes : goal.returns-clause-outcomes
returns-clause-outcomes c = outcomes_ignore_order

pub returns-clause-settled : goal.returns-clause-settled
returns-clause-settled c = settled_ignores_order

pub returns-clause-table : goal.returns-clause-table
returns-clause-table c = table_is_one_order
