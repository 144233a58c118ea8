-- Items in the order of their labels, no two with equal labels: each stands alone. Lemmas that the crates above cite too.
use Rattle.std.proofs.Common.{◌≡◌, ◌∙◌, List, [], ◌∷◌, map, refl, sym, ap, subst}
use Rattle.std.specs.List.{filter_map}
use Rattle.std.specs.List.Sorted.{IsStrictlySortedBy}
use Rattle.std.specs.Map.{keys_of}
use Rattle.label_set.specs.Labels.{labels_cmp}
use Rattle.step_table.specs.Gathering.{gathered_single, single}
use Rattle.step_table.specs.Groups.{Names, alone, gathered, shared_names, shared_of}
use Rattle.step_table.specs.Outcomes.{keyed_by, lone_by}
use Rattle.step_table.specs.Shuffles.{Shuffled}
use Rattle.step_table.specs.Shuffling.{lone_shuffled, mapped_shuffled}

module _ {T : Type 0} (labels : T → Names) where
  keys_are : (items : List T) → keys_of (keyed_by labels items) ≡ map labels items
  keys_are [] = refl
  keys_are (item ∷ items) = ap (λ ks. labels item ∷ ks) (keys_are items)

  singles_share : (items : List T) → filter_map shared_of (map single (keyed_by labels items)) ≡ []
  singles_share [] = refl
  singles_share (item ∷ items) = singles_share items

  lone_singles : (items : List T) → filter_map (λ (group : Names × List T). alone group.1) (map single (keyed_by labels items)) ≡ items
  lone_singles [] = refl
  lone_singles (item ∷ items) = ap (λ r. item ∷ r) (lone_singles items)

  groups_are : (items : List T) → IsStrictlySortedBy labels_cmp (map labels items) → gathered (keyed_by labels items) ≡ map single (keyed_by labels items)
  groups_are items s = gathered_single (keyed_by labels items) (subst (IsStrictlySortedBy labels_cmp) (sym (keys_are items)) s)

  pub none_share : (items : List T) → IsStrictlySortedBy labels_cmp (map labels items) → shared_names (keyed_by labels items) ≡ []
  none_share items s = ap (filter_map shared_of) (groups_are items s) ∙ singles_share items

  pub all_lone : (items : List T) → IsStrictlySortedBy labels_cmp (map labels items) → lone_by labels items ≡ items
  all_lone items s = ap (filter_map (λ (group : Names × List T). alone group.1)) (groups_are items s) ∙ lone_singles items

  -- two lists of the same items that are both in order are one
  pub one_order : (xs ys : List T) → IsStrictlySortedBy labels_cmp (map labels xs) → IsStrictlySortedBy labels_cmp (map labels ys) → Shuffled xs ys → xs ≡ ys
  one_order xs ys s t turned =
      sym (all_lone xs s) ∙ lone_shuffled (keyed_by labels xs) (keyed_by labels ys) (mapped_shuffled (λ (item : T). (labels item, item)) xs ys turned) ∙ all_lone ys t
