use Rattle.step_table.specs.Shuffling.{marks_shuffled, notes_shuffled}
use Rattle.step_table.proofs.order_laws.sets_ignore_order.Goals as goal

pub returns-clause-marks : goal.returns-clause-marks
returns-clause-marks c = marks_shuffled

pub returns-clause-notes : goal.returns-clause-notes
returns-clause-notes c = notes_shuffled
