-- What maps and tables keyed by labels rest on. (This project's own.)
use Rattle.std.specs.Prelude.{◌≡◌, ℕ, List}
use Rattle.std.specs.BTreeMap.{is_at}
use Rattle.std.specs.Cmp.{IsEquivalence}
use Rattle.label_set.specs.LabelEquality.{labels_eq}
use Rattle.label_set.specs.Labels.{labels_cmp}

-- `==` of labels is an equivalence
abbrev pub EqualityIsEquivalence : Type 0
EqualityIsEquivalence = IsEquivalence labels_eq

-- labels are equal by `==` exactly where neither is before the other in their order
abbrev pub EqualityIsTie : Type 0
EqualityIsTie = (ps qs : List (List ℕ × List ℕ)) → is_at (labels_cmp ps) qs ≡ labels_eq ps qs
