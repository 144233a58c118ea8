-- Items that are gathered one by one.
use Rattle.std.proofs.Common.{◌≡◌, ◌∙◌, List, [], ◌∷◌, ◌++◌, sym, ap, Some, append_assoc, append-nil}
use Rattle.std.specs.Prelude.{fold, unwrap_or}
use Rattle.std.specs.Map.{keys_of, lookup, set_value}
use Rattle.std.specs.BTreeMap.{insert_entry, is_at}
use Rattle.std.specs.List.Sorted.{IsStrictlySortedBy}
use Rattle.label_set.specs.Labels.{labels_cmp}
use Rattle.label_set.specs.LabelOrder.{labels_cmp_total, labels_cmp_ties}
use Rattle.step_table.specs.Gathering.{gathered_more}
use Rattle.step_table.specs.Groups.{Names, gathered, with_item}
use Rattle.step_table.specs.KeySets.{set_is_insert}

module _ {T : Type 0} where
  pub gathered_rest : (done rest : List (Names × T)) → fold (λ groups p. with_item groups p.0 p.1) (gathered done) rest ≡ gathered (done ++ rest)
  gathered_rest done [] = ap gathered (sym (append-nil done))
  gathered_rest done (p ∷ rest) = ap (λ groups. fold (λ groups p. with_item groups p.0 p.1) groups rest) (sym (gathered_more done p)) ∙ gathered_rest (done ++ p ∷ []) rest ∙ ap gathered (append_assoc done (p ∷ []) rest)

  pub gathered_all : (items : List (Names × T)) → fold (λ groups p. with_item groups p.0 p.1) [] items ≡ gathered items
  unfolding gathered
  gathered_all items = gathered_rest [] items

  -- the items under labels that are there, written with one more
  pub with_one_more : (es fs : List (Names × List T)) (names : Names) (item : T) (old new : List T) → IsStrictlySortedBy labels_cmp (keys_of es) → lookup (is_at (labels_cmp names)) es ≡ Some old → new ≡ old ++ item ∷ [] → fs ≡ set_value (is_at (labels_cmp names)) es new → fs ≡ with_item es names item
  with_one_more es fs names item old new s was is written =
      let e : set_value (is_at (labels_cmp names)) es new ≡ insert_entry labels_cmp es names new = set_is_insert labels_cmp_total labels_cmp_ties names new es old s was in
      written ∙ e ∙ ap (insert_entry labels_cmp es names) (is ∙ ap (λ x. unwrap_or x [] ++ item ∷ []) (sym was))
