-- The cells that are kept of the groups of slots are those that an engine owes of the step.
use Rattle.std.proofs.Common.{◌≡◌, ◌∙◌, ◌<◌, ℕ, Bool, true, false, List, [], ◌∷◌, length, map, refl, sym, ap, subst, Option, Some, None}
use Rattle.std.specs.Prelude.{IsTrue, ◌||◌, fold, if◌then◌else◌, is_none, is_some}
use Rattle.std.specs.BTreeSet.{insert_key}
use Rattle.std.specs.List.{AllByRecursion, IsDistinct, cons_option, filter_map, list_any}
use Rattle.std.specs.List.Sorted.{IsStrictlySortedBy}
use Rattle.std.specs.Map.{keys_of}
use Rattle.std.specs.Option.{option_and_then, option_map}
use Rattle.std.specs.declared.cmp.Ordering.TheVariants.{Less}
use Rattle.std.proofs.lemmas.List.Elements.{All-from_recursion}
use Rattle.func_table.specs.declared.table.Aggregate.{Aggregate}
use Rattle.func_table.specs.declared.table.Aggregate.TheVariants as aggregate
use Rattle.label_set.specs.LabelEquality.{labels_eq}
use Rattle.label_set.specs.Labels.{labels_cmp}
use Rattle.label_set.specs.declared.rules.Grouping.{Grouping}
use Rattle.promql_meaning.specs.Aggregations.{keyed_values}
use Rattle.promql_meaning.specs.Ranks.{kept_labels}
use Rattle.step_batch.specs.Laws.{LentRowsAreThoseOfSlots}
use Rattle.step_batch.specs.Lent.{SlotsRise, entries_of, step_of}
use Rattle.step_batch.specs.Tables.{in_order}
use Rattle.step_batch.specs.declared.steps.Slot.{Slot}
use Rattle.step_cells.specs.CellLaws.{CellIgnoresOrder}
use Rattle.step_cells.specs.InOrder.{one_order}
use Rattle.step_cells.specs.Owed.{group_cell, lost_mark, partial_cell, partial_cells}
use Rattle.step_put.specs.Puts.{AreAt}
use Rattle.step_table.specs.AllGathered.{groups_sorted}
use Rattle.step_table.specs.Groups.{Names, gathered}
use Rattle.step_table.specs.Orders.{mark_cmp}
use Rattle.step_table.specs.Shuffles.{Shuffled, joined}
use Rattle.step_table.specs.Shuffling.{any_shuffled, chosen_shuffled, mapped_shuffled, turned_back}
use Rattle.step_table.specs.Unions.{set_of, united}
use Rattle.step_table.specs.declared.cells.Cell.{Cell}
use Rattle.step_table.specs.declared.cells.Cell.TheVariants as cell
use Rattle.step_table.specs.declared.cells.CellRow.{CellRow}
use Rattle.step_table.specs.declared.marks.Mark.TheVariants.{Overflow}
use Rattle.step_table.specs.declared.marks.Marks.{Marks}
use Rattle.step_table.specs.declared.step.Step.{Step}
use Rattle.ticks.specs.declared.moment.Ms.{Ms}
use Rattle.xfrac.specs.Laws.{IsNumber}
use Rattle.xfrac.specs.Sums.{fits, totals}
use Rattle.xfrac.specs.declared.value.XFrac.{XFrac}
use Rattle.op_aggregate.specs.OwedCells.{cell_at, cell_of, cells_at, has_lost, named_cell, owed_step, placed_cell, row_under, tally_cell}
use Rattle.op_aggregate.specs.Places.{AreTallied, items_at, overflow_if, values_at}
use Rattle.op_aggregate.specs.Rules.{is_grouped}
use Rattle.op_aggregate.specs.Tallies.{group_of}
use Rattle.op_aggregate.specs.declared.groups.Groups.{Groups}
use Rattle.op_aggregate.specs.declared.tally.Group.{Group}
use Rattle.op_aggregate.specs.declared.tally.Tally.TheVariants.{Sum}
use Rattle.op_aggregate.proofs.AtPlaces.{Item}
use Rattle.op_aggregate.proofs.Grouping.{filled_within}
use Rattle.op_aggregate.proofs.Made.{made_shuffled, name, order_shuffled_on, order_sorted, others_shuffled, sorted_others, there}

-- ---- the cell of what is kept of a group

sum_made : (xs : List XFrac) (b : Bool) → tally_cell (length xs) (Sum (if b then Some (totals xs) else None)) ≡ (if b then Some (cell.Sum (totals xs)) else None)
sum_made xs true = refl
sum_made xs false = refl

cell_made : (f : Aggregate) (xs : List XFrac) → IsTrue (is_grouped f) → cell_of (group_of f xs) ≡ partial_cell f xs
cell_made aggregate.Sum xs g = sum_made xs (fits (totals xs))
cell_made aggregate.Avg xs g = sum_made xs (fits (totals xs))
cell_made aggregate.Min xs g = refl
cell_made aggregate.Max xs g = refl
cell_made aggregate.Count xs g = refl
cell_made aggregate.Group xs g = refl
cell_made aggregate.Stdvar xs g = refl
cell_made aggregate.TopK xs g = absurd (cc)
cell_made aggregate.BottomK xs g = absurd (cc)
cell_made aggregate.Quantile xs g = absurd (cc)
cell_made aggregate.CountValues xs g = absurd (cc)

-- a group's cell beside its labels
abbrev Entry : Type 0
Entry = Names × Cell

abbrev entry_under : Aggregate → Names → List XFrac → Option Entry
entry_under f n xs = option_map (λ (c : Cell). (n, c)) (partial_cell f xs)

abbrev is_lost : Aggregate → Names → List XFrac → Bool
is_lost f n xs = is_none (partial_cell f xs)

abbrev told : {A : Type 0} → List (Option A) → List A
told os = filter_map (λ o. o) os

-- ---- the cells of groups at places

module _ (f : Aggregate) (labels : List Names) (items : List Item) (all : List Group) (made : (q : ℕ) → q < length labels → cell_at all q ≡ partial_cell f (values_at items q)) where
  entries_made : (ps : List ℕ) → AllByRecursion (λ p. p < length labels) ps → filter_map (named_cell labels) (filter_map (placed_cell all) ps) ≡ told (map (λ q. entry_under f (name labels q) (values_at items q)) ps)
  entries_made [] a = refl
  entries_made (p ∷ ps) a = (λ i. filter_map (named_cell labels) (cons_option (option_map (λ (c : Cell). record { place = p; cell = c }) (made p a.0 i)) (filter_map (placed_cell all) ps))) ∙ by (entries_made ps a.1) (partial_cell f (values_at items p))
    where
      by : filter_map (named_cell labels) (filter_map (placed_cell all) ps) ≡ told (map (λ q. entry_under f (name labels q) (values_at items q)) ps) → (o : Option Cell)
          → filter_map (named_cell labels) (cons_option (option_map (λ (c : Cell). record { place = p; cell = c }) o) (filter_map (placed_cell all) ps)) ≡ cons_option (option_map (λ (c : Cell). (name labels p, c)) o) (told (map (λ q. entry_under f (name labels q) (values_at items q)) ps))
      by rest None = rest
      by rest (Some c) = ap (λ (o : Option Names). cons_option (option_map (λ (names : Names). (names, c)) o) (filter_map (named_cell labels) (filter_map (placed_cell all) ps))) (there labels p a.0) ∙ ap (λ (r : List Entry). (name labels p, c) ∷ r) rest

  lost_made : (ps : List ℕ) → AllByRecursion (λ p. p < length labels) ps → has_lost all ps ≡ list_any (λ b. b) (map (λ q. is_lost f (name labels q) (values_at items q)) ps)
  lost_made [] a = refl
  lost_made (p ∷ ps) a = λ i. is_none (made p a.0 i) || lost_made ps a.1 i

-- ---- the cells of groups by labels

module _ (f : Aggregate) where
  abbrev entries_in : List (Names × List XFrac) → List Entry
  entries_in groups = told (map (λ (g : Names × List XFrac). entry_under f g.0 g.1) groups)

  rows_same : (groups : List (Names × List XFrac)) → map row_under (entries_in groups) ≡ filter_map (group_cell f) groups
  rows_same [] = refl
  rows_same (g ∷ groups) = by (rows_same groups) (partial_cell f g.1)
    where
      by : map row_under (entries_in groups) ≡ filter_map (group_cell f) groups → (o : Option Cell)
          → map row_under (cons_option (option_map (λ (c : Cell). (g.0, c)) o) (entries_in groups)) ≡ cons_option (option_map (λ (c : Cell). record { labels = g.0; cell = c }) o) (filter_map (group_cell f) groups)
      by rest None = rest
      by rest (Some c) = ap (λ (r : List CellRow). record { labels = g.0; cell = c } ∷ r) rest

  keys_above : (n : Names) (groups : List (Names × List XFrac)) → AllByRecursion (λ q. labels_cmp n q ≡ Less) (keys_of groups) → AllByRecursion (λ q. labels_cmp n q ≡ Less) (keys_of (entries_in groups))
  keys_above n [] a = tt
  keys_above n (g ∷ groups) a = by (partial_cell f g.1) (keys_above n groups a.1)
    where
      by : (o : Option Cell) → AllByRecursion (λ q. labels_cmp n q ≡ Less) (keys_of (entries_in groups)) → AllByRecursion (λ q. labels_cmp n q ≡ Less) (keys_of (cons_option (option_map (λ (c : Cell). (g.0, c)) o) (entries_in groups)))
      by None rest = rest
      by (Some c) rest = (a.0, rest)

  keys_sorted : (groups : List (Names × List XFrac)) → IsStrictlySortedBy labels_cmp (keys_of groups) → IsStrictlySortedBy labels_cmp (keys_of (entries_in groups))
  unfolding IsStrictlySortedBy
  keys_sorted [] s = tt
  keys_sorted (g ∷ groups) s = by (partial_cell f g.1) (keys_sorted groups s.1)
    where
      by : (o : Option Cell) → IsStrictlySortedBy labels_cmp (keys_of (entries_in groups)) → IsStrictlySortedBy labels_cmp (keys_of (cons_option (option_map (λ (c : Cell). (g.0, c)) o) (entries_in groups)))
      by None rest = rest
      by (Some c) rest = (keys_above g.0 groups s.0, rest)

  marks_same : (b : Bool) (groups : List (Names × List XFrac)) → fold (insert_key mark_cmp) (overflow_if b) (filter_map (lost_mark f) groups) ≡ overflow_if (b || list_any (λ l. l) (map (λ (g : Names × List XFrac). is_lost f g.0 g.1) groups))
  marks_same true [] = refl
  marks_same false [] = refl
  marks_same b (g ∷ groups) = by b (partial_cell f g.1) (λ d. marks_same d groups)
    where
      by : (d : Bool) (o : Option Cell) → ((e : Bool) → fold (insert_key mark_cmp) (overflow_if e) (filter_map (lost_mark f) groups) ≡ overflow_if (e || list_any (λ l. l) (map (λ (h : Names × List XFrac). is_lost f h.0 h.1) groups)))
          → fold (insert_key mark_cmp) (overflow_if d) (cons_option (if is_some o then None else Some Overflow) (filter_map (lost_mark f) groups)) ≡ overflow_if (d || (is_none o || list_any (λ l. l) (map (λ (h : Names × List XFrac). is_lost f h.0 h.1) groups)))
      by d (Some c) rest = rest d
      by false None rest = rest true
      by true None rest = rest true

-- ---- the step

sorted_again : (xs ys : List Entry) → Shuffled xs ys → IsStrictlySortedBy labels_cmp (keys_of ys) → in_order xs ≡ ys
sorted_again xs ys s t =
    let keys = λ (e : Entry). e.0 in
    let others = others_shuffled (keys_of ys) (keys_of xs) (mapped_shuffled keys ys xs (turned_back xs ys s)) (sorted_others (keys_of ys) t) in
    let put : Shuffled xs (in_order xs) = order_shuffled_on [] xs others in
    one_order keys (in_order xs) ys (order_sorted xs) t (joined (in_order xs) xs ys (turned_back xs (in_order xs) put) s)

pub cells_made : LentRowsAreThoseOfSlots → CellIgnoresOrder → (f : Aggregate) (by : Grouping) (fed labels : List Names) (places : List ℕ) (slots : List Slot) (at : Ms) (marks : Marks) (groups : Groups)
    → IsTrue (is_grouped f) → groups.f ≡ f → length groups.all.items ≡ length labels → IsDistinct labels_eq fed → IsDistinct labels_eq labels → SlotsRise 0 (length fed) slots → AreAt labels (map (kept_labels by) fed) places → AreTallied (items_at places slots) groups
    → cells_at labels (owed_step at marks groups.all.items groups.filled.items) ≡ partial_cells f by (record { at = at; step = step_of (entries_of fed slots) marks })
cells_made rows_law law f by fed labels places slots at marks groups g same_f many d_fed d r a t =
    let items : List Item = items_at places slots in
    let step : Step = step_of (entries_of fed slots) marks in
    let table : List (Names × List XFrac) = gathered (keyed_values by step.table.rows) in
    let filled : List ℕ = groups.filled.items in
    let within : AllByRecursion (λ p. p < length labels) filled = subst (λ (n : ℕ). AllByRecursion (λ p. p < n) filled) many (filled_within items groups t) in
    let made : (q : ℕ) → q < length labels → cell_at groups.all.items q ≡ partial_cell f (values_at items q) =
    λ q l. ap (λ (o : Option Group). option_and_then cell_of o) (t.kept q (subst (λ (n : ℕ). q < n) (sym many) l)) ∙ ap (λ (h : Aggregate). cell_of (group_of h (values_at items q))) same_f ∙ cell_made f (values_at items q) g in
    let alike : (n : Names) (xs ys : List XFrac) → AllByRecursion IsNumber xs → Shuffled xs ys → partial_cell f xs ≡ partial_cell f ys = λ n xs ys b s. law f xs ys (All-from_recursion IsNumber xs b) s in
    let entries : Shuffled (filter_map (named_cell labels) (filter_map (placed_cell groups.all.items) filled)) (entries_in f table) =
    subst (λ (z : List Entry). Shuffled z (entries_in f table)) (sym (entries_made f labels items groups.all.items made filled within))
    (chosen_shuffled (λ (o : Option Entry). o) (map (λ q. entry_under f (name labels q) (values_at items q)) filled) (map (λ (h : Names × List XFrac). entry_under f h.0 h.1) table)
    (made_shuffled (entry_under f) (λ n xs ys b s. ap (option_map (λ (c : Cell). (n, c))) (alike n xs ys b s)) rows_law by fed labels places slots marks groups many d_fed d r a t)) in
    let rows : map row_under (in_order (filter_map (named_cell labels) (filter_map (placed_cell groups.all.items) filled))) ≡ filter_map (group_cell f) table =
    ap (map row_under) (sorted_again (filter_map (named_cell labels) (filter_map (placed_cell groups.all.items) filled)) (entries_in f table) entries (keys_sorted f table (groups_sorted (keyed_values by step.table.rows)))) ∙ rows_same f table in
    let lost : has_lost groups.all.items filled ≡ list_any (λ b. b) (map (λ (h : Names × List XFrac). is_lost f h.0 h.1) table) =
    lost_made f labels items groups.all.items made filled within
    ∙ any_shuffled (λ (b : Bool). b) (map (λ q. is_lost f (name labels q) (values_at items q)) filled) (map (λ (h : Names × List XFrac). is_lost f h.0 h.1) table)
    (made_shuffled (is_lost f) (λ n xs ys b s. ap is_none (alike n xs ys b s)) rows_law by fed labels places slots marks groups many d_fed d r a t) in
    let fatal : overflow_if (has_lost groups.all.items filled) ≡ set_of mark_cmp (filter_map (lost_mark f) table) = ap overflow_if lost ∙ sym (marks_same f false table) in
    λ i. record { at = at; rows = rows i; marks = united marks (record { fatal = fatal i; notes = [] }) }
