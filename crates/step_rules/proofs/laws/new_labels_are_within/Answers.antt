use Rattle.step_rules.proofs.NewLabels.{counted_within, joined_within, replaced_within, set_within}
use Rattle.step_rules.proofs.laws.new_labels_are_within.Goals as goal

pub returns : goal.returns
returns c = record { set = set_within; replaced = replaced_within; joined = joined_within; counted = counted_within }
