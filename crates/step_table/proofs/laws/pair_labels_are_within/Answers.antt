use Rattle.step_table.proofs.LabelsWithin.{pair_within}
use Rattle.step_table.proofs.laws.pair_labels_are_within.Goals as goal

pub returns : goal.returns
returns c = pair_within
