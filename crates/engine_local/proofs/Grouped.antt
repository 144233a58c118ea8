-- The cells of groups are of the kind of their aggregation, under labels of their own.
use Rattle.std.proofs.Common.{◌≡◌, ◌∙◌, suc, ◌<◌, ◌≤◌, ◌^◌, true, false, cond, List, [], ◌∷◌, length, map, refl, sym, ap, Some, None, arith}
use Rattle.std.specs.Prelude.{Bool, Option, IfSome, ◌&&◌, ◌||◌, filter, nat_lt, if◌then◌else◌}
use Rattle.std.specs.BTreeMap.{is_at}
use Rattle.std.specs.List.{AllByRecursion, cons_option, filter_map, list_all, list_any}
use Rattle.std.specs.Map.{keys_of, values_of}
use Rattle.std.specs.Option.{option_map}
use Rattle.std.specs.Ordering.{is_eq}
use Rattle.std.proofs.lemmas.Bool.Decides.{nat_tests}
use Rattle.std.proofs.lemmas.Cmp.{tied_itself}
use Rattle.func_table.specs.declared.table.Aggregate.{Aggregate}
use Rattle.func_table.specs.declared.table.Aggregate.TheVariants.{Sum, Avg, Min, Max, Count, Group, Stdvar, TopK, BottomK, Quantile, CountValues}
use Rattle.label_set.specs.Entries.{recursion_map}
use Rattle.label_set.specs.LabelOrder.{labels_cmp_ties, labels_cmp_total}
use Rattle.label_set.specs.Labels.{labels_cmp}
use Rattle.label_set.specs.declared.rules.Grouping.{Grouping}
use Rattle.promql_meaning.specs.Aggregations.{keyed_values}
use Rattle.step_cells.specs.Owed.{group_cell, partial_cell, partial_cells}
use Rattle.step_table.specs.AllGathered.{groups_sorted}
use Rattle.step_table.specs.Groups.{Names, gathered, items_of, names_among}
use Rattle.step_table.specs.KeySets.{any_of_set}
use Rattle.step_table.specs.Timed.{StepAt}
use Rattle.step_table.specs.declared.cells.Cell.{Cell}
use Rattle.step_table.specs.declared.cells.Cell.TheVariants as cell
use Rattle.step_table.specs.declared.cells.CellRow.{CellRow}
use Rattle.step_table.specs.declared.cells.PartKind.{PartKind}
use Rattle.step_table.specs.declared.cells.PartKind.TheVariants as part_kind
use Rattle.step_table.specs.declared.step.Row.{Row}
use Rattle.xfrac.specs.Sums.{fits, totals}
use Rattle.xfrac.specs.declared.value.XFrac.{XFrac}
use Rattle.remote_api.specs.Strays.{is_cell_of, is_distinct, is_group_cell, is_sum_cell, is_well}
use Rattle.remote_api.specs.declared.asks.Ask.{Ask}
use Rattle.engine_local.proofs.Apart.{apart, stay_in_order}

pub both_true : (a b : Bool) → a ≡ true → b ≡ true → (a && b) ≡ true
both_true true b e f = f
both_true false b e f = absurd (cc)

-- ---- one group

-- a group has a value, and fewer than 2^63
pub record IsCounted (values : List XFrac) : Type 0 where
  pub some : 0 < length values
  pub few : length values < 2 ^ 63

sum_counted : (values : List XFrac) → IsCounted values → is_sum_cell (cell.Sum (totals values)) ≡ true
unfolding totals
sum_counted values h =
    let some : 0 < length values = h.some in
    let few : length values < 2 ^ 63 = h.few in
    both_true (nat_lt 0 (length values)) (nat_lt (length values) (2 ^ 63)) (grind (arith, nat_tests, some)) (grind (arith, nat_tests, few))

-- the cell of a group, where it has one, is of the kind of its aggregation
abbrev Fits : Aggregate → Option Cell → Type 0
Fits f c = IfSome c (λ (c : Cell). is_group_cell f c ≡ true)

sum_fits : (b : Bool) (values : List XFrac) → IsCounted values → Fits Sum (if b then Some (cell.Sum (totals values)) else None)
sum_fits true values h = sum_counted values h
sum_fits false values h = tt

group_fits : (f : Aggregate) (values : List XFrac) → IsCounted values → Fits f (partial_cell f values)
group_fits Sum values h = sum_fits (fits (totals values)) values h
group_fits Avg values h = sum_fits (fits (totals values)) values h
group_fits Min values h = refl
group_fits Max values h = refl
group_fits Count values h = refl
group_fits Group values h = refl
group_fits Stdvar values h = tt
group_fits TopK values h = tt
group_fits BottomK values h = tt
group_fits Quantile values h = tt
group_fits CountValues values h = tt

-- ---- all groups

abbrev Groups : Type 0
Groups = List (Names × List XFrac)

abbrev AreCounted : Groups → Type 0
AreCounted groups = AllByRecursion (λ (group : Names × List XFrac). IsCounted group.1) groups

abbrev under : Names → Option Cell → Option CellRow
under names c = option_map (λ (c : Cell). record { labels = names; cell = c }) c

cells_fit : (f : Aggregate) (groups : Groups) → AreCounted groups → list_all (λ (row : CellRow). is_group_cell f row.cell) (filter_map (group_cell f) groups) ≡ true
cells_fit f [] a = refl
cells_fit f (group ∷ groups) a = by (partial_cell f group.1) (group_fits f group.1 a.0) (cells_fit f groups a.1)
  where
    by : (c : Option Cell) → Fits f c → list_all (λ (row : CellRow). is_group_cell f row.cell) (filter_map (group_cell f) groups) ≡ true
        → list_all (λ (row : CellRow). is_group_cell f row.cell) (cons_option (under group.0 c) (filter_map (group_cell f) groups)) ≡ true
    by None h rest = rest
    by (Some c) h rest = both_true (is_group_cell f c) _ h rest

named_alike : (f : Aggregate) (group : Names × List XFrac) → IfSome (group_cell f group) (λ (row : CellRow). row.labels ≡ group.0)
named_alike f group = by (partial_cell f group.1)
  where
    by : (c : Option Cell) → IfSome (under group.0 c) (λ (row : CellRow). row.labels ≡ group.0)
    by None = tt
    by (Some c) = refl

-- ---- how many values a group has

abbrev Items : Type 0
Items = List (Names × XFrac)

-- each of some labels is one of them
all_there : (names : List Names) → AllByRecursion (λ n. list_any (is_at (labels_cmp n)) names ≡ true) names
all_there [] = tt
all_there (n ∷ names) = (
  ap (λ o. is_eq o || list_any (is_at (labels_cmp n)) names) (tied_itself labels_cmp_total n),
  recursion_map (λ m. list_any (is_at (labels_cmp m)) names ≡ true) (λ m. (is_at (labels_cmp m) n || list_any (is_at (labels_cmp m)) names) ≡ true)
      (λ m h. either (is_at (labels_cmp m) n) (list_any (is_at (labels_cmp m)) names) h) names (all_there names),
)
  where
    either : (a b : Bool) → b ≡ true → (a || b) ≡ true
    either true b h = refl
    either false b h = h

-- labels that an item has have one
some_of : (items : Items) (names : Names) → list_any (is_at (labels_cmp names)) (keys_of items) ≡ true → 0 < length (items_of items names)
some_of [] names h = absurd (cc)
some_of (item ∷ items) names h =
    elim (is_at (labels_cmp names) item.0) as (λ b. (b || list_any (is_at (labels_cmp names)) (keys_of items)) ≡ true
    → 0 < length (values_of (cond b (item ∷ filter (λ p. is_at (labels_cmp names) p.0) items) (filter (λ p. is_at (labels_cmp names) p.0) items)))) [
      | true ↦ λ g. omega arith
      | false ↦ λ g. some_of items names g
    ] h

few_of : (items : Items) (names : Names) → length (items_of items names) ≤ length items
few_of [] names = omega arith
few_of (item ∷ items) names =
    let rest = few_of items names in
    elim (is_at (labels_cmp names) item.0) as (λ b. length (values_of (cond b (item ∷ filter (λ p. is_at (labels_cmp names) p.0) items) (filter (λ p. is_at (labels_cmp names) p.0) items))) ≤ length (item ∷ items)) [
      | true ↦ omega (arith, rest)
      | false ↦ omega (arith, rest)
    ]

counted : (items : Items) → length items < 2 ^ 63 → AreCounted (gathered items)
unfolding gathered
counted items few =
    over (names_among items) (recursion_map (λ n. list_any (is_at (labels_cmp n)) (names_among items) ≡ true) (λ n. list_any (is_at (labels_cmp n)) (keys_of items) ≡ true)
    (λ n h. sym (any_of_set labels_cmp_total labels_cmp_ties (is_at (labels_cmp n)) (keys_of items)) ∙ h) (names_among items) (all_there (names_among items)))
  where
    over : (names : List Names) → AllByRecursion (λ n. list_any (is_at (labels_cmp n)) (keys_of items) ≡ true) names → AreCounted (map (λ n. (n, items_of items n)) names)
    over [] a = tt
    over (n ∷ names) a = (record { some = some_of items n a.0; few = let h = few_of items n in omega (arith, h, few) }, over names a.1)

keyed_length : (by : Grouping) (rows : List Row) → length (keyed_values by rows) ≡ length rows
keyed_length by [] = refl
keyed_length by (row ∷ rows) = ap suc (keyed_length by rows)

pub groups_well : (ask : Ask) (f : Aggregate) (by : Grouping) (s : StepAt) → ask.kind ≡ part_kind.Partial f by → length s.step.table.rows < 2 ^ 63 → is_well ask (partial_cells f by s) ≡ true
groups_well ask f by s e few =
    let items = keyed_values by s.step.table.rows in
    let groups = gathered items in
    let n = keyed_length by s.step.table.rows in
    both_true _ (is_distinct (filter_map (group_cell f) groups))
    (ap (λ (k : PartKind). list_all (λ (row : CellRow). is_cell_of k ask s.at row.cell) (filter_map (group_cell f) groups)) e ∙ cells_fit f groups (counted items (omega (arith, n, few))))
    (apart (filter_map (group_cell f) groups) (stay_in_order (group_cell f) (λ (row : CellRow). row.labels) (named_alike f) groups (groups_sorted items)))
