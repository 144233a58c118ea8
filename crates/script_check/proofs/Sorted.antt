-- The order of labels, as comparisons of series need it.
use Rattle.std.proofs.Common.{◌≡◌, true, false, ap}
use Rattle.std.specs.Ordering.{is_eq}
use Rattle.std.specs.declared.cmp.Ordering.TheVariants.{Less}
use Rattle.std.proofs.lemmas.Cmp.{tied_itself}
use Rattle.label_set.specs.LabelOrder.{labels_cmp_ties, labels_cmp_total}
use Rattle.label_set.specs.Labels.{labels_cmp}
use Rattle.script_check.specs.Series.{LabelList}
use Rattle.script_check.proofs.Agreements.{equal}

pub ties_with_itself : (labels : LabelList) → is_eq (labels_cmp labels labels) ≡ true
ties_with_itself labels = ap is_eq (tied_itself labels_cmp_total labels)

pub same_labels : (a b : LabelList) → is_eq (labels_cmp a b) ≡ true → a ≡ b
same_labels a b h = labels_cmp_ties a b (equal (labels_cmp a b) h)

pub below_apart : (a b : LabelList) → labels_cmp a b ≡ Less → is_eq (labels_cmp a b) ≡ false
below_apart a b h = ap is_eq h

pub then_below : (a b c : LabelList) → labels_cmp a b ≡ Less → labels_cmp b c ≡ Less → labels_cmp a c ≡ Less
then_below a b c = labels_cmp_total.trans a b c
