use Rattle.label_set.specs.LabelOrder.{labels_cmp_ties, labels_cmp_total}
use Rattle.label_set.proofs.labels.order_is_total.Goals as goal

pub returns-clause-total : goal.returns-clause-total
returns-clause-total c = labels_cmp_total

pub returns-clause-ties : goal.returns-clause-ties
returns-clause-ties c = labels_cmp_ties
