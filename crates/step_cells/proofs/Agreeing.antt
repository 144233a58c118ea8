-- What is joined of the engines' partial cells agrees with the aggregation of all rows.
use Rattle.std.proofs.Common.{◌≡◌, ◌∙◌, ℕ, Bool, true, false, List, [], ◌∷◌, ◌++◌, length, map, refl, sym, ap, subst, Some, None, inl, inr, ⊎_elim}
use Rattle.std.specs.Prelude.{Option, ◌||◌, ◌⊎◌, filter, is_some, Err, if◌then◌else◌}
use Rattle.std.specs.Option.{ok_or, option_and_then}
use Rattle.std.specs.BTreeMap.{is_at}
use Rattle.std.specs.Ordering.{is_eq}
use Rattle.std.specs.List.{AllByRecursion, cons_option, filter_map, list_any}
use Rattle.std.specs.declared.cmp.Ordering.TheVariants.{Less, Equal, Greater}
use Rattle.std.proofs.lemmas.Bool.{false≢true}
use Rattle.std.proofs.lemmas.List.{map-append}
use Rattle.std.proofs.lemmas.List.Elements.{All-from_recursion}
use Rattle.std.proofs.lemmas.List.Sorted.{IsPermutation-append_comm}
use Rattle.func_table.specs.declared.table.Aggregate.{Aggregate}
use Rattle.func_table.specs.declared.table.Aggregate.TheVariants.{Sum, Avg, Min, Max, Count, Group}
use Rattle.holders.specs.Joins.{both_of, front_of, back_of}
use Rattle.label_set.specs.Labels.{labels_cmp}
use Rattle.label_set.specs.LabelOrder.{labels_cmp_ties}
use Rattle.label_set.specs.declared.rules.Grouping.{Grouping}
use Rattle.xfrac.specs.Arithmetic.{quotient, whole_number}
use Rattle.xfrac.specs.AnySize.{AnyPartOverflowsWhole, InLowestTerms}
use Rattle.xfrac.specs.Laws.{JoinedStandsForBoth, LcmIsLeast}
use Rattle.xfrac.specs.Sums.{fits, totals, value_of}
use Rattle.xfrac.specs.declared.value.NumFault.TheVariants as fault
use Rattle.xfrac.specs.declared.value.XFrac.{XFrac}
use Rattle.step_table.specs.Gathering.{nothing_more}
use Rattle.step_table.specs.Groups.{Names, gathered, items_of, lone_items, names_among, shared_names}
use Rattle.step_table.specs.KeySets.{any_of_set, merged-nil}
use Rattle.step_table.specs.Laws.{UnionHasMarks, has_mark}
use Rattle.step_table.specs.Operators.{some_value}
use Rattle.step_table.specs.OrderLaws.{mark_cmp_total, mark_cmp_ties}
use Rattle.step_table.specs.Orders.{mark_cmp, note_cmp}
use Rattle.step_table.specs.Outcomes.{keyed, mark_of, taken}
use Rattle.step_table.specs.Timed.{StepAt}
use Rattle.step_table.specs.Shuffles.{Shuffled}
use Rattle.step_table.specs.Shuffling.{mapped_shuffled}
use Rattle.window_fn.specs.Aggregates.{total}
use Rattle.window_fn.specs.Laws.{OrderOfAnyDoesntMatter}
use Rattle.step_table.specs.Unions.{set_of, united, with_fatal}
use Rattle.step_table.specs.declared.cells.Cell.{Cell}
use Rattle.step_table.specs.declared.cells.StepCells.{StepCells}
use Rattle.step_table.specs.declared.marks.Mark.{Mark}
use Rattle.step_table.specs.declared.marks.Mark.TheVariants.{Overflow, SameLabelset}
use Rattle.step_table.specs.declared.marks.Marks.{Marks}
use Rattle.step_table.specs.declared.step.Row.{Row}
use Rattle.step_table.specs.declared.step.Step.{Step}
use Rattle.promql_meaning.specs.Aggregations.{aggregate_of, aggregated, group_outcome, keyed_values}
use Rattle.promql_meaning.specs.Givens.{no_marks}
use Rattle.promql_meaning.specs.Outcomes.{with_notes}
use Rattle.promql_meaning.specs.Ranks.{kept_labels}
use Rattle.step_cells.specs.CellLaws.{Agree, HaveLowestTerms, PartialsAgree, has_overflow, rows_of_all}
use Rattle.step_cells.specs.Joined.{all_cells, cell_row, finished, finished_outcome, joined_partials, joined_rows, keyed_cells, marks_with}
use Rattle.step_cells.specs.Owed.{lost_mark, partial_cell, partial_cells, row_cells, value_cell}
use Rattle.step_cells.proofs.CellsUnder.{all_under, cell_pair, cells_all, items_append, cells_of_parts, flat_parts, keyed_rows, parts_have_cells, some_alike, values_under}
use Rattle.step_cells.proofs.Merges.{AllLowest, Extremes, HasCell, flat, group_finished, nothing_fits, part_unfit, sum_none}
use Rattle.step_table.specs.Alike.{any_name, has_some}
use Rattle.step_cells.proofs.SameNames.{each_under, groups_alike, names_alike}
use Rattle.step_cells.proofs.Orders.{lone_rows, outcomes_shuffled, values_in_groups}
use Rattle.step_cells.proofs.Asked.{IsAsked, asked}

-- ---- which groups have a cell

-- each group of an engine has a cell, and so no mark
record IsKept (f : Aggregate) (vs : List (Names × XFrac)) : Type 0 where
  cells : (n : Names) → HasCell f (items_of vs n)
  marks : filter_map (lost_mark f) (gathered vs) ≡ []

-- some group has none, and a mark
record IsLost (f : Aggregate) (vs : List (Names × XFrac)) : Type 0 where
  names : Names
  none : partial_cell f (items_of vs names) ≡ None
  marks : list_any (is_at (mark_cmp Overflow)) (filter_map (lost_mark f) (gathered vs)) ≡ true

member : (P : Names → Type 0) (n : Names) (ms : List Names) → list_any (is_at (labels_cmp n)) ms ≡ true → AllByRecursion P ms → P n
member P n [] e a = absurd (false≢true e)
member P n (m ∷ ms) e a =
    elim (labels_cmp n m) as (λ r. labels_cmp n m ≡ r → (is_eq r || list_any (is_at (labels_cmp n)) ms) ≡ true → P n) [
      | Less ↦ λ h g. member P n ms g a.1
      | Equal ↦ λ h g. subst P (sym (labels_cmp_ties n m h)) a.0
      | Greater ↦ λ h g. member P n ms g a.1
    ] refl e

nothing_in : {T : Type 0} (xs : List T) → has_some xs ≡ false → xs ≡ []
nothing_in [] e = refl
nothing_in (x ∷ xs) e = absurd (cc)

-- no values have a cell
empty_cell : (f : Aggregate) → IsAsked f → HasCell f []
empty_cell f IsAsked.sum = rw nothing_fits refl
empty_cell f IsAsked.avg = rw nothing_fits refl
empty_cell f IsAsked.count = refl
empty_cell f IsAsked.group = refl
empty_cell f IsAsked.min = refl
empty_cell f IsAsked.max = refl

module _ (f : Aggregate) (h : Names → List XFrac) where
  abbrev Scanned : List Names → Type 0
  Scanned ms =
      (AllByRecursion (λ m. HasCell f (h m)) ms × (filter_map (lost_mark f) (map (λ m. (m, h m)) ms) ≡ []))
      ⊎ ((n : Names) × (partial_cell f (h n) ≡ None) × (list_any (is_at (mark_cmp Overflow)) (filter_map (lost_mark f) (map (λ m. (m, h m)) ms)) ≡ true))

  scan_one : (m : Names) (ms : List Names) → Scanned ms → (o : Option Cell) → partial_cell f (h m) ≡ o
      → (((is_some o ≡ true) × AllByRecursion (λ k. HasCell f (h k)) ms) × (cons_option (if is_some o then None else Some Overflow) (filter_map (lost_mark f) (map (λ k. (k, h k)) ms)) ≡ []))
      ⊎ ((n : Names) × (partial_cell f (h n) ≡ None) × (list_any (is_at (mark_cmp Overflow)) (cons_option (if is_some o then None else Some Overflow) (filter_map (lost_mark f) (map (λ k. (k, h k)) ms))) ≡ true))
  scan_one m ms rest None e = inr (m, e, refl)
  scan_one m ms (inl a) (Some c) e = inl ((refl, a.0), a.1)
  scan_one m ms (inr l) (Some c) e = inr l

  scan : (ms : List Names) → Scanned ms
  scan [] = inl (tt, refl)
  scan (m ∷ ms) = scan_one m ms (scan ms) (partial_cell f (h m)) refl

engine_scan : (f : Aggregate) → IsAsked f → (vs : List (Names × XFrac)) → IsKept f vs ⊎ IsLost f vs
unfolding gathered
engine_scan f is vs = by (scan f (items_of vs) (names_among vs))
  where
    there : AllByRecursion (λ m. HasCell f (items_of vs m)) (names_among vs) → (n : Names) (b : Bool) → list_any (is_at (labels_cmp n)) (names_among vs) ≡ b → HasCell f (items_of vs n)
    there a n true e = member (λ m. HasCell f (items_of vs m)) n (names_among vs) e a
    there a n false e = subst (HasCell f) (sym (nothing_in (items_of vs n) (sym (any_name vs n) ∙ e))) (empty_cell f is)

    by : Scanned f (items_of vs) (names_among vs) → IsKept f vs ⊎ IsLost f vs
    by (inl a) = inl (record { cells = λ n. there a.0 n (list_any (is_at (labels_cmp n)) (names_among vs)) refl; marks = a.1 })
    by (inr l) = inr (record { names = l.0; none = l.1; marks = l.2 })

-- ---- what overflows

some_from_unfit : (xs : List XFrac) → fits (totals xs) ≡ false → has_some xs ≡ true
some_from_unfit [] e = absurd (false≢true (sym e ∙ nothing_fits))
some_from_unfit (x ∷ xs) e = refl

abbrev Fails : Aggregate → XFrac → Type 0
Fails f q = (ys : List XFrac) → fits (totals ys) ≡ false → aggregate_of f q ys ≡ Err fault.Overflow

no_cell : (b : Bool) (c : Cell) → (if b then Some c else None) ≡ None → b ≡ false
no_cell true c e = absurd (cc)
no_cell false c e = refl

unfit_total : (b : Bool) (v : XFrac) → ok_or (if b then Some v else None) fault.Overflow ≡ Err fault.Overflow → b ≡ false
unfit_total true v e = absurd (cc)
unfit_total false v e = refl

sum_fails : (q : XFrac) → Fails Sum q
sum_fails q ys e = ap (λ b. some_value (ok_or (if b then Some (value_of (totals ys)) else None) fault.Overflow)) e

avg_fails : (q : XFrac) → Fails Avg q
avg_fails q ys e = ap (λ b. some_value (ok_or (option_and_then (λ (s : XFrac). quotient s (whole_number (length ys))) (if b then Some (value_of (totals ys)) else None)) fault.Overflow)) e

lost_is : (f : Aggregate) (q : XFrac) (xs : List XFrac) → IsAsked f → partial_cell f xs ≡ None → (fits (totals xs) ≡ false) × Fails f q
lost_is f q xs IsAsked.sum e = (no_cell (fits (totals xs)) _ e, sum_fails q)
lost_is f q xs IsAsked.avg e = (no_cell (fits (totals xs)) _ e, avg_fails q)
lost_is f q xs IsAsked.count e = absurd (cc)
lost_is f q xs IsAsked.group e = absurd (cc)
lost_is f q xs IsAsked.min e = absurd (cc)
lost_is f q xs IsAsked.max e = absurd (cc)

-- ---- marks

pub or_true : (a : Bool) → (a || true) ≡ true
or_true true = refl
or_true false = refl

module _ (unions : UnionHasMarks) where
  pub with_fatal_has : (marks : Marks) (fatal : List Mark) (mark : Mark) → has_mark (with_fatal marks fatal).fatal mark ≡ (has_mark marks.fatal mark || list_any (is_at (mark_cmp mark)) fatal)
  with_fatal_has marks fatal mark =
      unions marks (record { fatal = set_of mark_cmp fatal; notes = [] }) mark
      ∙ ap (λ b. has_mark marks.fatal mark || b) (any_of_set mark_cmp_total mark_cmp_ties (is_at (mark_cmp mark)) fatal)

  stays : (marks : Marks) (steps : List StepCells) → has_mark marks.fatal Overflow ≡ true → has_mark (marks_with marks steps).fatal Overflow ≡ true
  stays marks [] e = e
  stays marks (step ∷ steps) e = stays (united marks step.marks) steps (unions marks step.marks Overflow ∙ ap (λ b. b || has_mark step.marks.fatal Overflow) e)

  comes : (marks : Marks) (step : StepCells) (steps : List StepCells) → has_mark step.marks.fatal Overflow ≡ true → has_mark (marks_with marks (step ∷ steps)).fatal Overflow ≡ true
  comes marks step steps e = stays (united marks step.marks) steps (unions marks step.marks Overflow ∙ ap (λ b. has_mark marks.fatal Overflow || b) e ∙ or_true (has_mark marks.fatal Overflow))

-- an outcome that overflows
fails_at : (f : Aggregate) (q : XFrac) (h : Names → List XFrac) (n : Names) (ms : List Names) → list_any (is_at (labels_cmp n)) ms ≡ true → aggregate_of f q (h n) ≡ Err fault.Overflow
    → list_any (is_at (mark_cmp Overflow)) (filter_map mark_of (map (group_outcome f q) (map (λ m. (m, h m)) ms))) ≡ true
fails_at f q h n [] e o = absurd (false≢true e)
fails_at f q h n (m ∷ ms) e o =
    elim (labels_cmp n m) as (λ r. labels_cmp n m ≡ r → (is_eq r || list_any (is_at (labels_cmp n)) ms) ≡ true → list_any (is_at (mark_cmp Overflow)) (filter_map mark_of (map (group_outcome f q) (map (λ m. (m, h m)) (m ∷ ms)))) ≡ true) [
      | Less ↦ λ l g. later (fails_at f q h n ms g o)
      | Equal ↦ λ l g. let there : aggregate_of f q (h m) ≡ Err fault.Overflow = ap (λ z. aggregate_of f q (h z)) (sym (labels_cmp_ties n m l)) ∙ o in
          ap (λ v. list_any (is_at (mark_cmp Overflow)) (cons_option (mark_of (record { labels = m; value = v })) (filter_map mark_of (map (group_outcome f q) (map (λ m. (m, h m)) ms))))) there
      | Greater ↦ λ l g. later (fails_at f q h n ms g o)
    ] refl e
  where
    later : list_any (is_at (mark_cmp Overflow)) (filter_map mark_of (map (group_outcome f q) (map (λ m. (m, h m)) ms))) ≡ true → list_any (is_at (mark_cmp Overflow)) (filter_map mark_of (map (group_outcome f q) (map (λ m. (m, h m)) (m ∷ ms)))) ≡ true
    later e = by (mark_of (group_outcome f q (m, h m)))
      where
        by : (o : Option Mark) → list_any (is_at (mark_cmp Overflow)) (cons_option o (filter_map mark_of (map (group_outcome f q) (map (λ m. (m, h m)) ms)))) ≡ true
        by None = e
        by (Some mark) = ap (λ b. is_at (mark_cmp Overflow) mark || b) e ∙ or_true (is_at (mark_cmp Overflow) mark)

no_notes : (marks : Marks) → with_notes marks [] ≡ marks
no_notes marks = λ i. record { fatal = merged-nil mark_cmp marks.fatal i; notes = merged-nil note_cmp marks.notes i }

aggregated_is : (f : Aggregate) (q : XFrac) (by : Grouping) (label : List ℕ) (step : Step) → IsAsked f → aggregated f by q label step ≡ taken step.marks (map (group_outcome f q) (gathered (keyed_values by step.table.rows)))
aggregated_is f q by label step IsAsked.sum = ap (λ m. taken m (map (group_outcome Sum q) (gathered (keyed_values by step.table.rows)))) (no_notes step.marks)
aggregated_is f q by label step IsAsked.avg = ap (λ m. taken m (map (group_outcome Avg q) (gathered (keyed_values by step.table.rows)))) (no_notes step.marks)
aggregated_is f q by label step IsAsked.count = ap (λ m. taken m (map (group_outcome Count q) (gathered (keyed_values by step.table.rows)))) (no_notes step.marks)
aggregated_is f q by label step IsAsked.group = ap (λ m. taken m (map (group_outcome Group q) (gathered (keyed_values by step.table.rows)))) (no_notes step.marks)
aggregated_is f q by label step IsAsked.min = ap (λ m. taken m (map (group_outcome Min q) (gathered (keyed_values by step.table.rows)))) (no_notes step.marks)
aggregated_is f q by label step IsAsked.max = ap (λ m. taken m (map (group_outcome Max q) (gathered (keyed_values by step.table.rows)))) (no_notes step.marks)

-- ---- all engines

module _ (f : Aggregate) (q : XFrac) (by : Grouping) where
  abbrev values_in : StepAt → List (Names × XFrac)
  values_in s = keyed_values by s.step.table.rows

  abbrev all_values : List StepAt → List (List (Names × XFrac))
  all_values steps = map values_in steps

  abbrev owed : List StepAt → List StepCells
  owed steps = map (partial_cells f by) steps

  abbrev given : List StepAt → List StepCells
  given steps = map (row_cells) steps

  -- the values of the rows of all engines
  values_join : (steps : List StepAt) → keyed_values by (rows_of_all steps) ≡ flat (all_values steps)
  values_join [] = refl
  values_join (s ∷ steps) = map-append (λ (row : Row). (kept_labels by row.labels, row.value)) s.step.table.rows (rows_of_all steps) ∙ ap (λ vs. values_in s ++ vs) (values_join steps)

  keyed_join : (steps : List StepAt) → keyed_cells (all_cells (owed steps)) ≡ cells_all f (all_values steps)
  keyed_join [] = refl
  keyed_join (s ∷ steps) =
      map-append (λ row. (row.labels, row.cell)) (partial_cells f by s).rows (all_cells (owed steps))
      ∙ ap (λ cs. cs ++ keyed_cells (all_cells (owed steps))) (keyed_rows f (gathered (values_in s)))
      ∙ ap (λ cs. filter_map (cell_pair f) (gathered (values_in s)) ++ cs) (keyed_join steps)

  -- rows as cells, and back
  rows_append : (rows : List Row) (more : List _) → filter_map cell_row (map value_cell rows ++ more) ≡ rows ++ filter_map cell_row more
  rows_append [] more = refl
  rows_append (row ∷ rows) more = ap (λ rs. row ∷ rs) (rows_append rows more)

  rows_join : (steps : List StepAt) → filter_map cell_row (all_cells (given steps)) ≡ rows_of_all steps
  rows_join [] = refl
  rows_join (s ∷ steps) = rows_append s.step.table.rows (all_cells (given steps)) ∙ ap (λ rs. s.step.table.rows ++ rs) (rows_join steps)

  -- all engines kept all their groups, or one lost one
  record IsSpoilt (steps : List StepAt) : Type 0 where
    names : Names
    unfit : fits (totals (items_of (flat (all_values steps)) names)) ≡ false
    fails : Fails f q
    marked : (marks : Marks) → has_mark (marks_with marks (owed steps)).fatal Overflow ≡ true

  abbrev AllKept : List StepAt → Type 0
  AllKept steps = AllByRecursion (λ (s : StepAt). IsKept f (values_in s)) steps

  same_marks : (marks : Marks) (steps : List StepAt) → AllKept steps → marks_with marks (owed steps) ≡ marks_with marks (given steps)
  same_marks marks [] a = refl
  same_marks marks (s ∷ steps) a =
      ap (λ m. marks_with (united marks m) (owed steps)) (ap (with_fatal s.step.marks) a.0.marks ∙ nothing_more s.step.marks)
      ∙ same_marks (united marks s.step.marks) steps a.1

  have_cells : (n : Names) (steps : List StepAt) → AllKept steps → AllByRecursion (HasCell f) (map (λ vs. items_of vs n) (all_values steps))
  have_cells n [] a = tt
  have_cells n (s ∷ steps) a = (a.0.cells n, have_cells n steps a.1)

  abbrev Lowest : List (Names × XFrac) → Type 0
  Lowest vs = AllByRecursion (λ (p : Names × XFrac). InLowestTerms p.1) vs

  module _ (both : JoinedStandsForBoth) (overflows : AnyPartOverflowsWhole) (least : LcmIsLeast) (order : OrderOfAnyDoesntMatter) (unions : UnionHasMarks) (ends : Extremes) (is : IsAsked f) where
    kept_value : (steps : List StepAt) → Lowest (flat (all_values steps)) → AllKept steps → (n : Names) → finished f (items_of (cells_all f (all_values steps)) n) ≡ aggregate_of f q (items_of (flat (all_values steps)) n)
    kept_value steps numbers a n =
        let xss : List (List XFrac) = map (λ vs. items_of vs n) (all_values steps) in
        let whole : items_of (flat (all_values steps)) n ≡ flat (filter has_some xss) = values_under (all_values steps) n ∙ sym (flat_parts xss) in
        ap (finished f) (all_under f (all_values steps) n ∙ cells_of_parts f xss)
        ∙ group_finished both overflows least ends f q (filter has_some xss) is (subst AllLowest whole (each_under InLowestTerms (flat (all_values steps)) n numbers)) (parts_have_cells f xss (have_cells n steps a))
        ∙ ap (aggregate_of f q) (sym whole)

    kept_outcomes : (steps : List StepAt) → Lowest (flat (all_values steps)) → AllKept steps → map (finished_outcome f) (gathered (keyed_cells (all_cells (owed steps)))) ≡ map (group_outcome f q) (gathered (flat (all_values steps)))
    unfolding gathered
    kept_outcomes steps numbers a =
        let names : names_among (cells_all f (all_values steps)) ≡ names_among (flat (all_values steps)) =
        names_alike (cells_all f (all_values steps)) (flat (all_values steps))
        (λ n. ap has_some (all_under f (all_values steps) n) ∙ some_alike f (map (λ vs. items_of vs n) (all_values steps)) (have_cells n steps a) ∙ ap has_some (sym (values_under (all_values steps) n))) in
        ap (λ cs. map (finished_outcome f) (map (λ m. (m, items_of cs m)) (names_among cs))) (keyed_join steps)
        ∙ ap (λ ms. map (finished_outcome f) (map (λ m. (m, items_of (cells_all f (all_values steps)) m)) ms)) names
        ∙ groups_alike (finished_outcome f) (group_outcome f q) (items_of (cells_all f (all_values steps))) (items_of (flat (all_values steps)))
        (λ n i. record { labels = n; value = kept_value steps numbers a n i }) (names_among (flat (all_values steps)))

    -- the aggregation of all rows, by engines
    abbrev by_engines : List StepAt → Step
    by_engines steps = taken (marks_with no_marks (given steps)) (map (group_outcome f q) (gathered (flat (all_values steps))))

    kept_joined : (steps : List StepAt) → Lowest (flat (all_values steps)) → AllKept steps → joined_partials f (owed steps) ≡ by_engines steps
    kept_joined steps numbers a = (λ i. taken (same_marks no_marks steps a i) (kept_outcomes steps numbers a i))

    whole : (label : List ℕ) (steps : List StepAt) → shared_names (keyed (rows_of_all steps)) ≡ [] → Lowest (flat (all_values steps)) → aggregated f by q label (joined_rows (given steps)) ≡ by_engines steps
    whole label steps shared numbers =
        let rows : filter_map cell_row (all_cells (given steps)) ≡ rows_of_all steps = rows_join steps in
        let w : Step = joined_rows (given steps) in
        let marks : w.marks ≡ marks_with no_marks (given steps) =
        ap (λ rs. with_fatal (marks_with no_marks (given steps)) (map SameLabelset (shared_names (keyed rs)))) rows ∙ ap (λ ls. with_fatal (marks_with no_marks (given steps)) (map SameLabelset ls)) shared ∙ nothing_more (marks_with no_marks (given steps)) in
        let in_order : Shuffled (rows_of_all steps) w.table.rows = subst (λ rs. Shuffled (rows_of_all steps) (lone_items (keyed rs))) (sym rows) (lone_rows (rows_of_all steps) shared) in
        let values : Shuffled (flat (all_values steps)) (keyed_values by w.table.rows) =
        subst (λ vs. Shuffled vs (keyed_values by w.table.rows)) (values_join steps) (mapped_shuffled (λ (row : Row). (kept_labels by row.labels, row.value)) (rows_of_all steps) w.table.rows in_order) in
        aggregated_is f q by label w is ∙ (λ i. taken (marks i) (outcomes_shuffled order f q (flat (all_values steps)) (keyed_values by w.table.rows) is numbers values i))

    -- ---- what is lost

    turned_unfit : (xs ys : List XFrac) → AllLowest xs → AllLowest ys → fits (totals ys) ≡ false → fits (totals (xs ++ ys)) ≡ false
    turned_unfit xs ys a b e =
        let turned : total (xs ++ ys) ≡ total (ys ++ xs) = (order (ys ++ xs) (xs ++ ys) (All-from_recursion InLowestTerms (ys ++ xs) (both_of InLowestTerms ys xs b a)) (IsPermutation-append_comm ys xs)).sum in
        unfit_total (fits (totals (xs ++ ys))) (value_of (totals (xs ++ ys))) (turned ∙ ap (λ o. ok_or o fault.Overflow) (sum_none (ys ++ xs) (part_unfit both overflows least ys xs b a e)))

    lost_has : (s : StepAt) → IsLost f (values_in s) → has_mark (partial_cells f by s).marks.fatal Overflow ≡ true
    lost_has s l = with_fatal_has unions s.step.marks (filter_map (lost_mark f) (gathered (values_in s))) Overflow ∙ ap (λ b. has_mark s.step.marks.fatal Overflow || b) l.marks ∙ or_true (has_mark s.step.marks.fatal Overflow)

    scan_steps : (steps : List StepAt) → Lowest (flat (all_values steps)) → AllKept steps ⊎ IsSpoilt steps
    scan_steps [] n = inl tt
    scan_steps (s ∷ steps) n = by_both (engine_scan f is (values_in s)) (scan_steps steps (back_of (λ (p : Names × XFrac). InLowestTerms p.1) (values_in s) (flat (all_values steps)) n))
      where
        here : (names : Names) → AllLowest (items_of (values_in s) names)
        here names = each_under InLowestTerms (values_in s) names (front_of (λ (p : Names × XFrac). InLowestTerms p.1) (values_in s) (flat (all_values steps)) n)

        there : (names : Names) → AllLowest (items_of (flat (all_values steps)) names)
        there names = each_under InLowestTerms (flat (all_values steps)) names (back_of (λ (p : Names × XFrac). InLowestTerms p.1) (values_in s) (flat (all_values steps)) n)

        parts : (names : Names) → items_of (values_in s ++ flat (all_values steps)) names ≡ items_of (values_in s) names ++ items_of (flat (all_values steps)) names
        parts names = items_append (values_in s) (flat (all_values steps)) names

        by_both : IsKept f (values_in s) ⊎ IsLost f (values_in s) → AllKept steps ⊎ IsSpoilt steps → AllKept (s ∷ steps) ⊎ IsSpoilt (s ∷ steps)
        by_both (inr l) rest =
            let both_facts : (fits (totals (items_of (values_in s) l.names)) ≡ false) × Fails f q = lost_is f q (items_of (values_in s) l.names) is l.none in
            inr (record {
              names = l.names;
              unfit = ap (λ xs. fits (totals xs)) (parts l.names) ∙ part_unfit both overflows least (items_of (values_in s) l.names) (items_of (flat (all_values steps)) l.names) (here l.names) (there l.names) both_facts.0;
              fails = both_facts.1;
              marked = λ marks. comes unions marks (partial_cells f by s) (owed steps) (lost_has s l);
            })
        by_both (inl k) (inl a) = inl (k, a)
        by_both (inl k) (inr p) = inr (record {
          names = p.names;
          unfit = ap (λ xs. fits (totals xs)) (parts p.names) ∙ turned_unfit (items_of (values_in s) p.names) (items_of (flat (all_values steps)) p.names) (here p.names) (there p.names) p.unfit;
          fails = p.fails;
          marked = λ marks. p.marked (united marks (partial_cells f by s).marks);
        })

    -- a lost group overflows in the whole too
    spoilt_whole : (steps : List StepAt) → IsSpoilt steps → has_overflow (by_engines steps) ≡ true
    unfolding gathered
    spoilt_whole steps s =
        let vs : List (Names × XFrac) = flat (all_values steps) in
        let there : list_any (is_at (labels_cmp s.names)) (names_among vs) ≡ true = any_name vs s.names ∙ some_from_unfit (items_of vs s.names) s.unfit in
        with_fatal_has unions (marks_with no_marks (given steps)) (filter_map mark_of (map (group_outcome f q) (map (λ m. (m, items_of vs m)) (names_among vs)))) Overflow
        ∙ ap (λ b. has_mark (marks_with no_marks (given steps)).fatal Overflow || b) (fails_at f q (items_of vs) s.names (names_among vs) there (s.fails (items_of vs s.names) s.unfit))
        ∙ or_true (has_mark (marks_with no_marks (given steps)).fatal Overflow)

    spoilt_joined : (steps : List StepAt) → IsSpoilt steps → has_overflow (joined_partials f (owed steps)) ≡ true
    spoilt_joined steps s =
        with_fatal_has unions (marks_with no_marks (owed steps)) (filter_map mark_of (map (finished_outcome f) (gathered (keyed_cells (all_cells (owed steps)))))) Overflow
        ∙ ap (λ b. b || list_any (is_at (mark_cmp Overflow)) (filter_map mark_of (map (finished_outcome f) (gathered (keyed_cells (all_cells (owed steps))))))) (s.marked no_marks)

    pub agree : (label : List ℕ) (steps : List StepAt) → shared_names (keyed (rows_of_all steps)) ≡ [] → HaveLowestTerms (rows_of_all steps)
        → Agree (joined_partials f (owed steps)) (aggregated f by q label (joined_rows (given steps)))
    agree label steps shared n =
        let numbers : Lowest (flat (all_values steps)) = subst Lowest (values_join steps) (values_in_groups InLowestTerms by (rows_of_all steps) n) in
        let same : aggregated f by q label (joined_rows (given steps)) ≡ by_engines steps = whole label steps shared numbers in
        ⊎_elim
        (λ a. inl (kept_joined steps numbers a ∙ sym same))
        (λ s. inr (spoilt_joined steps s, ap has_overflow same ∙ spoilt_whole steps s))
        (scan_steps steps numbers)

pub partials : JoinedStandsForBoth → AnyPartOverflowsWhole → LcmIsLeast → OrderOfAnyDoesntMatter → UnionHasMarks → Extremes → PartialsAgree
partials both overflows least order unions ends f by arg label steps is shared n = agree f arg by both overflows least order unions ends (asked f is) label steps shared n
