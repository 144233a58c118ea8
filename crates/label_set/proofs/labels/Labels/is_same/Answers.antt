use Rattle.label_set.specs.LabelEquality.{labels_decide}
use Rattle.label_set.proofs.labels.Labels.is_same.Goals as goal

pub returns : goal.returns
returns c = labels_decide _ _ c.eq.result c.eq.ensures
