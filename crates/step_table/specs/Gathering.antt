-- Items that are gathered: one more of them, what a look-up finds, and items and rows that share no labels.
use Rattle.std.proofs.Common.{◌≡◌, ◌∙◌, Bool, true, false, cond, List, [], ◌∷◌, ◌++◌, map, refl, sym, ap, subst, Some, None, append_assoc, append-nil}
use Rattle.std.specs.Prelude.{◌||◌, filter, unwrap_or}
use Rattle.std.specs.declared.cmp.Ordering.TheVariants.{Less}
use Rattle.std.specs.Ordering.{is_eq, ordering_reverse}
use Rattle.std.specs.Map.{keys_of, values_of, lookup}
use Rattle.std.specs.BTreeMap.{is_at}
use Rattle.std.specs.BTreeSet.{insert_key}
use Rattle.std.specs.List.{AllByRecursion, filter_map, list_any}
use Rattle.std.specs.List.Sorted.{IsStrictlySortedBy}
use Rattle.std.specs.Cmp.{eq_by_cmp_equiv}
use Rattle.std.proofs.lemmas.Cmp.{tied_itself}
use Rattle.std.proofs.lemmas.List.{map-append}
use Rattle.std.proofs.lemmas.List.Elements.{filter-append}
use Rattle.label_set.specs.Entries.{recursion_map}
use Rattle.label_set.specs.Labels.{labels_cmp}
use Rattle.label_set.specs.LabelOrder.{labels_cmp_total, labels_cmp_ties}
use Rattle.step_table.specs.Groups.{Names, alone, gathered, items_of, lone_items, names_among, shared_names, shared_of, with_item}
use Rattle.step_table.specs.KeySets.{any_of_set, all_after, all_before, lookup_valued, merged-nil, set_more, set_of_sorted, sorted_set, valued_insert}
use Rattle.step_table.specs.Orders.{mark_cmp, note_cmp}
use Rattle.step_table.specs.Outcomes.{keyed, settled}
use Rattle.step_table.specs.Unions.{set_of, with_fatal}
use Rattle.step_table.specs.WellFormed.{IsTable}
use Rattle.step_table.specs.declared.marks.Marks.{Marks}
use Rattle.step_table.specs.declared.marks.Mark.TheVariants.{SameLabelset}
use Rattle.step_table.specs.declared.step.Row.{Row}
use Rattle.step_table.specs.declared.step.Step.{Step}

-- ---- one more item, and look-ups

module _ {T : Type 0} where
  names_more : (items : List (Names × T)) (p : Names × T) → names_among (items ++ p ∷ []) ≡ insert_key labels_cmp (names_among items) p.0
  names_more items p = ap (set_of labels_cmp) (map-append (λ e. e.0) items (p ∷ [])) ∙ set_more labels_cmp (keys_of items) p.0

  pub names_sorted : (items : List (Names × T)) → IsStrictlySortedBy labels_cmp (names_among items)
  names_sorted items = sorted_set labels_cmp_total labels_cmp_ties (keys_of items)

  items_more : (items : List (Names × T)) (p : Names × T) (names : Names) → items_of (items ++ p ∷ []) names ≡ items_of items names ++ cond (is_at (labels_cmp names) p.0) (p.1 ∷ []) []
  items_more items p names =
      ap values_of (filter-append (λ item. is_at (labels_cmp names) item.0) items (p ∷ [])) ∙ map-append (λ e. e.1) (filter (λ item. is_at (labels_cmp names) item.0) items) (filter (λ item. is_at (labels_cmp names) item.0) (p ∷ []))
      ∙ ap (λ xs. items_of items names ++ xs) (one (is_at (labels_cmp names) p.0))
    where
      one : (b : Bool) → values_of (cond b (p ∷ []) []) ≡ cond b (p.1 ∷ []) []
      one true = refl
      one false = refl

  none_of : (items : List (Names × T)) (names : Names) → list_any (is_at (labels_cmp names)) (keys_of items) ≡ false → items_of items names ≡ []
  none_of [] names h = refl
  none_of (p ∷ items) names h =
      elim (is_at (labels_cmp names) p.0) as (λ b. (b || list_any (is_at (labels_cmp names)) (keys_of items)) ≡ false → values_of (cond b (p ∷ filter (λ item. is_at (labels_cmp names) item.0) items) (filter (λ item. is_at (labels_cmp names) item.0) items)) ≡ []) [
        | true ↦ λ f. absurd (cc)
        | false ↦ λ f. none_of items names f
      ] h

  -- what a group has, where there is none nothing
  pub found : (items : List (Names × T)) (names : Names) → unwrap_or (lookup (is_at (labels_cmp names)) (gathered items)) [] ≡ items_of items names
  unfolding gathered
  found items names =
      ap (λ x. unwrap_or x []) (lookup_valued labels_cmp_total labels_cmp_ties (items_of items) names (names_among items) ∙ ap (λ b. cond b (Some (items_of items names)) None) (any_of_set labels_cmp_total labels_cmp_ties (is_at (labels_cmp names)) (keys_of items)))
      ∙ pick (list_any (is_at (labels_cmp names)) (keys_of items)) (none_of items names)
    where
      pick : (b : Bool) → (b ≡ false → items_of items names ≡ []) → unwrap_or (cond b (Some (items_of items names)) None) [] ≡ items_of items names
      pick true f = refl
      pick false f = sym (f refl)

  pub gathered_more : (items : List (Names × T)) (p : Names × T) → gathered (items ++ p ∷ []) ≡ with_item (gathered items) p.0 p.1
  unfolding gathered
  gathered_more items p =
      ap (map (λ names. (names, items_of (items ++ p ∷ []) names))) (names_more items p)
      ∙ valued_insert labels_cmp_total labels_cmp_ties (items_of items) (items_of (items ++ p ∷ [])) p.0 (unwrap_or (lookup (is_at (labels_cmp p.0)) (gathered items)) [] ++ p.1 ∷ [])
      (items_more items p p.0 ∙ here ∙ ap (λ xs. xs ++ p.1 ∷ []) (sym (found items p.0)))
      (λ n apart. items_more items p n ∙ there n apart)
      (names_among items) (names_sorted items)
    where
      here : items_of items p.0 ++ cond (is_at (labels_cmp p.0) p.0) (p.1 ∷ []) [] ≡ items_of items p.0 ++ p.1 ∷ []
      here = rw (tied_itself labels_cmp_total p.0) refl

      there : (n : Names) → is_at (labels_cmp p.0) n ≡ false → items_of items n ++ cond (is_at (labels_cmp n) p.0) (p.1 ∷ []) [] ≡ items_of items n
      there n apart = let e : is_at (labels_cmp n) p.0 ≡ false = (eq_by_cmp_equiv labels_cmp_total).symm n p.0 ∙ apart in rw e (append-nil (items_of items n))

-- ---- items in the order of their labels, no two with equal labels: each is a group of its own

module _ {T : Type 0} where
  abbrev pub single : Names × T → Names × List T
  single item = (item.0, item.1 ∷ [])

  none_under : (names : Names) (items : List (Names × T)) → AllByRecursion (λ l. is_at (labels_cmp names) l ≡ false) (keys_of items) → items_of items names ≡ []
  none_under names [] a = refl
  none_under names (item ∷ items) a = rw a.0 (none_under names items a.1)

  under_append : (names : Names) (front items : List (Names × T)) → AllByRecursion (λ l. is_at (labels_cmp names) l ≡ false) (keys_of front) → items_of (front ++ items) names ≡ items_of items names
  under_append names [] items a = refl
  under_append names (item ∷ front) items a = rw a.0 (under_append names front items a.1)

  keys_append : (front items : List (Names × T)) → keys_of (front ++ items) ≡ keys_of front ++ keys_of items
  keys_append [] items = refl
  keys_append (item ∷ front) items = ap (λ ks. item.0 ∷ ks) (keys_append front items)

  item_alone : (front : List (Names × T)) (item : Names × T) (items : List (Names × T)) → IsStrictlySortedBy labels_cmp (keys_of (front ++ item ∷ items)) → items_of (front ++ item ∷ items) item.0 ≡ item.1 ∷ []
  item_alone front item items s =
      let parts : IsStrictlySortedBy labels_cmp (keys_of front ++ item.0 ∷ keys_of items) = subst (IsStrictlySortedBy labels_cmp) (keys_append front (item ∷ items)) s in
      under_append item.0 front (item ∷ items) (recursion_map (λ l. labels_cmp l item.0 ≡ Less) (λ l. is_at (labels_cmp item.0) l ≡ false) (λ l b. ap is_eq (labels_cmp_total.antisymm item.0 l ∙ ap ordering_reverse b)) (keys_of front) (all_before labels_cmp_total (keys_of front) item.0 (keys_of items) parts))
      ∙ rw (tied_itself labels_cmp_total item.0) (ap (λ (r : List T). item.1 ∷ r) (none_under item.0 items (recursion_map (λ l. labels_cmp item.0 l ≡ Less) (λ l. is_at (labels_cmp item.0) l ≡ false) (λ l b. ap is_eq b) (keys_of items) (all_after labels_cmp_total (keys_of front) item.0 (keys_of items) parts))))

  abbrev under : List (Names × T) → Names → Names × List T
  under all names = (names, items_of all names)

  all_single : (front items : List (Names × T)) → IsStrictlySortedBy labels_cmp (keys_of (front ++ items)) → map (under (front ++ items)) (keys_of items) ≡ map single items
  all_single front [] s = refl
  all_single front (item ∷ items) s =
      let here : items_of (front ++ item ∷ items) item.0 ≡ item.1 ∷ [] = item_alone front item items s in
      let e : (front ++ item ∷ []) ++ items ≡ front ++ item ∷ items = append_assoc front (item ∷ []) items in
      let there : map (under ((front ++ item ∷ []) ++ items)) (keys_of items) ≡ map single items = all_single (front ++ item ∷ []) items (subst (λ all. IsStrictlySortedBy labels_cmp (keys_of all)) (sym e) s) in
      let there' : map (under (front ++ item ∷ items)) (keys_of items) ≡ map single items = ap (λ all. map (under all) (keys_of items)) (sym e) ∙ there in
      cc

  -- the groups of items in order, no two with equal labels
  pub gathered_single : (items : List (Names × T)) → IsStrictlySortedBy labels_cmp (keys_of items) → gathered items ≡ map single items
  unfolding gathered
  gathered_single items s = ap (map (under items)) (set_of_sorted labels_cmp_total (keys_of items) s) ∙ all_single [] items s

-- ---- rows

abbrev pub labels_of : List Row → List Names
labels_of rows = map (λ (row : Row). row.labels) rows

keys_keyed : (rows : List Row) → keys_of (keyed rows) ≡ labels_of rows
keys_keyed [] = refl
keys_keyed (row ∷ rows) = ap (λ ks. row.labels ∷ ks) (keys_keyed rows)

lone_singles : (rows : List Row) → filter_map (λ (group : Names × List Row). alone group.1) (map single (keyed rows)) ≡ rows
lone_singles [] = refl
lone_singles (row ∷ rows) = ap (λ rs. row ∷ rs) (lone_singles rows)

shared_singles : (rows : List Row) → filter_map shared_of (map single (keyed rows)) ≡ []
shared_singles [] = refl
shared_singles (row ∷ rows) = shared_singles rows

-- no fatal marks and no notes change nothing
pub nothing_more : (marks : Marks) → with_fatal marks [] ≡ marks
nothing_more marks = λ i. record { fatal = merged-nil mark_cmp marks.fatal i; notes = merged-nil note_cmp marks.notes i }

-- a table is left as it is
pub settled_table : (step : Step) → IsTable step.table.rows → settled step ≡ step
settled_table step s =
    let groups : gathered (keyed step.table.rows) ≡ map single (keyed step.table.rows) = gathered_single (keyed step.table.rows) (subst (IsStrictlySortedBy labels_cmp) (sym (keys_keyed step.table.rows)) s) in
    let rows : lone_items (keyed step.table.rows) ≡ step.table.rows = ap (filter_map (λ (group : Names × List Row). alone group.1)) groups ∙ lone_singles step.table.rows in
    let shared : shared_names (keyed step.table.rows) ≡ [] = ap (filter_map shared_of) groups ∙ shared_singles step.table.rows in
    let marks : with_fatal step.marks (map SameLabelset (shared_names (keyed step.table.rows))) ≡ step.marks = ap (λ ls. with_fatal step.marks (map SameLabelset ls)) shared ∙ nothing_more step.marks in
    λ i. record { table = record { rows = rows i }; marks = marks i }
