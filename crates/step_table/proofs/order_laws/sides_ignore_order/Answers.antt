use Rattle.step_table.proofs.Reordered.{combined_ignores_order, or_ignores_order, pair_marks_ignore_order, pair_rows_ignore_order, paired_ignores_order}
use Rattle.step_table.proofs.order_laws.sides_ignore_order.Goals as goal

pub returns-clause-rows : goal.returns-clause-rows
returns-clause-rows c = pair_rows_ignore_order

pub returns-clause-marks : goal.returns-clause-marks
returns-clause-marks c = pair_marks_ignore_order

pub returns-clause-paired : goal.returns-clause-paired
returns-clause-paired c = paired_ignores_order

pub returns-clause-combined : goal.returns-clause-combined
returns-clause-combined c = combined_ignores_order

pub returns-clause-either : goal.returns-clause-either
returns-clause-either c = or_ignores_order
