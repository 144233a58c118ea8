-- Rows that share their labels with no other are in order.
use Rattle.std.proofs.Common.{◌≡◌, true, false, cond, List, [], ◌∷◌, map, refl, subst, Some, None, Option}
use Rattle.std.specs.Prelude.{filter}
use Rattle.std.specs.declared.cmp.Ordering.{Ordering}
use Rattle.std.specs.declared.cmp.Ordering.TheVariants.{Less, Equal, Greater}
use Rattle.std.specs.Ordering.{is_eq}
use Rattle.std.specs.BTreeMap.{is_at}
use Rattle.std.specs.List.{AllByRecursion, filter_map}
use Rattle.std.specs.List.Sorted.{IsStrictlySortedBy}
use Rattle.std.specs.Map.{values_of}
use Rattle.label_set.specs.Labels.{labels_cmp}
use Rattle.label_set.specs.LabelOrder.{labels_cmp_ties}
use Rattle.step_table.specs.Groups.{Names, items_of, gathered, alone, lone_items}
use Rattle.step_table.specs.Outcomes.{keyed}
use Rattle.step_table.specs.WellFormed.{IsTable}
use Rattle.step_table.specs.declared.step.Row.{Row}
use Rattle.step_table.specs.Gathering.{names_sorted}

pub equal_from_is : (o : Ordering) → is_eq o ≡ true → o ≡ Equal
equal_from_is Less e = absurd (cc)
equal_from_is Equal e = refl
equal_from_is Greater e = absurd (cc)

-- the rows under labels have these
all_under : (rows : List Row) (names : Names) → AllByRecursion (λ row. is_at (labels_cmp names) row.labels ≡ true) (items_of (keyed rows) names)
all_under [] names = tt
all_under (row ∷ rows) names =
    elim (is_at (labels_cmp names) row.labels) as (λ b. is_at (labels_cmp names) row.labels ≡ b → AllByRecursion (λ row. is_at (labels_cmp names) row.labels ≡ true)
    (values_of (cond b ((row.labels, row) ∷ filter (λ item. is_at (labels_cmp names) item.0) (keyed rows)) (filter (λ item. is_at (labels_cmp names) item.0) (keyed rows))))) [
      | true ↦ λ e. (e, all_under rows names)
      | false ↦ λ e. all_under rows names
    ] refl

alone_in : (P : Row → Type 0) (rows : List Row) (row : Row) → alone rows ≡ Some row → AllByRecursion P rows → P row
alone_in P [] row e a = absurd (cc)
alone_in P (first ∷ []) row e a = let same : first ≡ row = cc in subst P same a.0
alone_in P (first ∷ other ∷ rows) row e a = absurd (cc)

module _ (rows : List Row) where
  abbrev under : Names → Names × List Row
  under names = (names, items_of (keyed rows) names)

  abbrev lone_under : List Names → List Row
  lone_under ks = filter_map (λ group. alone group.1) (map under ks)

  has_names : (names : Names) (row : Row) → alone (items_of (keyed rows) names) ≡ Some row → names ≡ row.labels
  has_names names row e = labels_cmp_ties names row.labels (equal_from_is (labels_cmp names row.labels) (alone_in (λ r. is_at (labels_cmp names) r.labels ≡ true) (items_of (keyed rows) names) row e (all_under rows names)))

  -- the rows under labels and more, by whether one row is alone under the first
  lone_split : (k : Names) (ks : List Names) (Q : List Row → Type 0) → Q (lone_under ks) → ((row : Row) → k ≡ row.labels → Q (row ∷ lone_under ks)) → Q (lone_under (k ∷ ks))
  lone_split k ks Q none some = by (alone (items_of (keyed rows) k)) refl
    where
      by : (o : Option Row) → alone (items_of (keyed rows) k) ≡ o → Q (lone_under (k ∷ ks))
      by None e = rw e none
      by (Some row) e = rw e (some row (has_names k row e))

  all_lone : (P : Names → Type 0) (ks : List Names) → AllByRecursion P ks → AllByRecursion P (map (λ row. row.labels) (lone_under ks))
  all_lone P [] a = tt
  all_lone P (k ∷ ks) a = lone_split k ks (λ found. AllByRecursion P (map (λ row. row.labels) found)) (all_lone P ks a.1) (λ row e. (subst P e a.0, all_lone P ks a.1))

  sorted_lone : (ks : List Names) → IsStrictlySortedBy labels_cmp ks → IsTable (lone_under ks)
  unfolding IsStrictlySortedBy
  sorted_lone [] s = tt
  sorted_lone (k ∷ ks) s =
      lone_split k ks IsTable (sorted_lone ks s.1)
      (λ row e. (subst (λ names. AllByRecursion (λ z. labels_cmp names z ≡ Less) (map (λ row. row.labels) (lone_under ks))) e (all_lone (λ z. labels_cmp k z ≡ Less) ks s.0), sorted_lone ks s.1))

  -- rows that share their labels with no other are a table
  pub lone_rows_sorted : IsTable (lone_items (keyed rows))
  unfolding gathered
  lone_rows_sorted = sorted_lone _ (names_sorted (keyed rows))
