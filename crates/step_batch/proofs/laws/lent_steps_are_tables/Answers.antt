use Rattle.step_batch.proofs.LentRows.{lent_rows_are_tables, lent_rows_are_those_of_slots, sorted_rows_are_tables}
use Rattle.step_batch.proofs.laws.lent_steps_are_tables.Goals as goal

pub returns-clause-table : goal.returns-clause-table
returns-clause-table c = lent_rows_are_tables

pub returns-clause-rows : goal.returns-clause-rows
returns-clause-rows c = lent_rows_are_those_of_slots

pub returns-clause-sorted : goal.returns-clause-sorted
returns-clause-sorted c = sorted_rows_are_tables
