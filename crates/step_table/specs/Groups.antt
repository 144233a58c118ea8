-- Items that are brought together by labels.
use Rattle.std.specs.Prelude.{ℕ, Bool, true, false, List, [], ◌∷◌, ◌++◌, map, filter, unwrap_or, Option, Some, None, if◌then◌else◌}
use Rattle.std.specs.BTreeMap.{insert_entry, is_at}
use Rattle.std.specs.List.{filter_map}
use Rattle.std.specs.Map.{keys_of, values_of, lookup}
use Rattle.label_set.specs.Labels.{labels_cmp}
use Rattle.step_table.specs.Unions.{set_of}

-- what contracts see of labels: pairs of a name and a value
abbrev pub Names : Type 0
Names = List (List ℕ × List ℕ)

-- all labels that an item has, in their order
abbrev pub names_among : {T : Type 0} → List (Names × T) → List Names
names_among items = set_of labels_cmp (keys_of items)

-- the items that have these labels, in their order
abbrev pub items_of : {T : Type 0} → List (Names × T) → Names → List T
items_of items names = values_of (filter (λ item. is_at (labels_cmp names) item.0) items)

-- for all labels that an item has, in the order of labels, the items that have these labels
unfoldable pub gathered : {T : Type 0} → List (Names × T) → List (Names × List T)
gathered items = map (λ names. (names, items_of items names)) (names_among items)

-- one more item among those that have its labels
abbrev pub with_item : {T : Type 0} → List (Names × List T) → Names → T → List (Names × List T)
with_item groups names item =
    insert_entry labels_cmp groups names (unwrap_or (lookup (is_at (labels_cmp names)) groups) [] ++ item ∷ [])

-- the item that is alone in a list
abbrev pub alone : {T : Type 0} → List T → Option T
alone [] = None
alone (item ∷ []) = Some item
alone (item ∷ other ∷ items) = None

-- whether a list has several items
abbrev pub has_several : {T : Type 0} → List T → Bool
has_several [] = false
has_several (item ∷ []) = false
has_several (item ∷ other ∷ items) = true

-- the labels of a group of several items
abbrev pub shared_of : {T : Type 0} → Names × List T → Option Names
shared_of group = if has_several group.1 then Some group.0 else None

-- the items that share their labels with no other, in the order of labels
abbrev pub lone_items : {T : Type 0} → List (Names × T) → List T
lone_items items = filter_map (λ group. alone group.1) (gathered items)

-- the labels that items share, in order
abbrev pub shared_names : {T : Type 0} → List (Names × T) → List Names
shared_names items = filter_map shared_of (gathered items)
