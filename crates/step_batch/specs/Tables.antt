-- Values under labels in the order of the labels, whatever the order in which they came.
use Rattle.std.specs.Prelude.{List, [], fold}
use Rattle.std.specs.BTreeMap.{insert_entry}
use Rattle.label_set.specs.Labels.{labels_cmp}
use Rattle.step_table.specs.Groups.{Names}

abbrev pub put_into : {A : Type 0} → List (Names × A) → Names × A → List (Names × A)
put_into done entry = insert_entry labels_cmp done entry.0 entry.1

abbrev pub in_order : {A : Type 0} → List (Names × A) → List (Names × A)
in_order entries = fold put_into [] entries
