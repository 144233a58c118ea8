-- What is true of the notes and marks of steps, and stays true with further marks and notes, is true of what is made of such steps.
use Rattle.std.proofs.Common.{ℕ, Bool, true, false, List, [], ◌∷◌, map, Option, Some, None}
use Rattle.std.specs.Prelude.{◌||◌, ◌++◌, ℤ, if◌then◌else◌}
use Rattle.std.specs.List.{filter_map}
use Rattle.func_table.specs.declared.table.Aggregate.{Aggregate}
use Rattle.func_table.specs.declared.table.SetOp.{SetOp}
use Rattle.func_table.specs.declared.table.SetOp.TheVariants as set_operator
use Rattle.func_table.specs.declared.table.Window.{Window}
use Rattle.label_set.specs.declared.rules.Grouping.{Grouping}
use Rattle.label_set.specs.declared.rules.Pairing.{Pairing}
use Rattle.step_table.specs.Groups.{Names, gathered}
use Rattle.step_table.specs.Matching.{is_empty, labelled, many_side, one_side, pair_marks, pair_rows, paired}
use Rattle.step_table.specs.Outcomes.{mark_of, settled, shared_marks, taken}
use Rattle.step_table.specs.Sets.{combined, rows_off, step_of_rows}
use Rattle.step_table.specs.Unions.{united, with_fatal}
use Rattle.step_table.specs.declared.marks.Mark.{Mark}
use Rattle.step_table.specs.declared.marks.Mark.TheVariants.{Overflow}
use Rattle.step_table.specs.declared.marks.Marks.{Marks}
use Rattle.step_table.specs.declared.marks.Note.{Note}
use Rattle.step_table.specs.declared.outcomes.Outcome.{Outcome}
use Rattle.step_table.specs.declared.step.Row.{Row}
use Rattle.step_table.specs.declared.step.Step.{Step}
use Rattle.xfrac.specs.Arithmetic.{whole_number}
use Rattle.xfrac.specs.declared.value.PairOp.{PairOp}
use Rattle.xfrac.specs.declared.value.XFrac.{XFrac}
use Rattle.promql_meaning.specs.Absences.{absence_under}
use Rattle.promql_meaning.specs.Aggregations.{aggregate_notes, group_outcome, keyed_values, summarised}
use Rattle.promql_meaning.specs.Buckets.{bound_note, bucket_quantiles, fixed_note, histogram_outcome, histograms}
use Rattle.promql_meaning.specs.Countings.{counted, counting_outcome}
use Rattle.promql_meaning.specs.Elements.{instant_outcome, row_by_row}
use Rattle.promql_meaning.specs.Givens.{both, by_value, marked, value_in, with_scalar, with_scalars}
use Rattle.promql_meaning.specs.Meaning.{windowed_with}
use Rattle.promql_meaning.specs.Outcomes.{range_notes, with_notes}
use Rattle.promql_meaning.specs.Ranges.{window_notes, window_outcome, windowed}
use Rattle.promql_meaning.specs.Ranks.{rank_count, ranked, ranked_to}
use Rattle.promql_meaning.specs.declared.given.Windows.{Windows}
use Rattle.logical_plan.specs.PlanRules.{own_outcome, ratio, ratio_outcome, stamp}

module _ (P : Marks → Type 0) (more : (marks : Marks) (fatal : List Mark) → P marks → P (with_fatal marks fatal)) (noted : (marks : Marks) (notes : List Note) → P marks → P (with_notes marks notes)) where
  -- what is made of a step has it where the step has it
  abbrev pub Keeps : (Step → Step) → Type 0
  Keeps F = (s : Step) → P s.marks → P (F s).marks

  pub taken_keeps : (marks : Marks) (outcomes : List Outcome) → P marks → P (taken marks outcomes).marks
  taken_keeps marks outcomes h = more marks (filter_map mark_of outcomes) h

  pub settled_keeps : Keeps settled
  settled_keeps step h = more step.marks (shared_marks (λ (row : Row). row.labels) step.table.rows) h

  pub rows_keep : (f : Row → Outcome) → Keeps (row_by_row f)
  rows_keep f step h = settled_keeps (taken step.marks (map f step.table.rows)) (taken_keeps step.marks (map f step.table.rows) h)

  -- ---- of values of scalars

  value_keeps : {A : Type 0} (o : Option A) (marks : Marks) (f : A → Step) → P marks → ((a : A) → P (f a).marks) → P (by_value o marks f).marks
  value_keeps None marks f h k = h
  value_keeps (Some a) marks f h k = k a

  pub scalar_keeps : (f : XFrac → Step → Step) → ((a : XFrac) → Keeps (f a)) → (scalar step : Step) → P (united step.marks scalar.marks) → P (with_scalar f scalar step).marks
  scalar_keeps f keeps scalar step h = value_keeps (value_in scalar) (united step.marks scalar.marks) (λ a. f a (marked scalar.marks step)) h (λ a. keeps a (marked scalar.marks step) h)

  pub scalars_keep : (f : XFrac → XFrac → Step → Step) → ((a b : XFrac) → Keeps (f a b)) → (first second step : Step) → P (united (united step.marks first.marks) second.marks) → P (with_scalars f first second step).marks
  scalars_keep f keeps first second step h =
      value_keeps (both (value_in first) (value_in second)) (united (united step.marks first.marks) second.marks) (λ b. f b.0 b.1 (marked second.marks (marked first.marks step))) h
      (λ b. keeps b.0 b.1 (marked second.marks (marked first.marks step)) h)

  -- ---- of times and labels

  pub stamp_keeps : (own : Bool) (t : ℤ) → Keeps (stamp own t)
  stamp_keeps true t step h = rows_keep own_outcome step h
  stamp_keeps false t step h = rows_keep (instant_outcome t) step h

  pub absence_keeps : {A : Type 0} (labels : Option Names) (rows : List A) (marks : Marks) → P marks → P (absence_under labels rows marks).marks
  absence_keeps labels [] marks h = taken_keeps marks (labelled labels (whole_number 1) ∷ []) h
  absence_keeps labels (row ∷ rows) marks h = h

  -- ---- of windows

  pub windowed_keeps : (f : Window) (t : ℤ) (arg : XFrac) (w : Windows) → P w.marks → P (windowed f t arg w).marks
  windowed_keeps f t arg w h =
      let marks : Marks = with_notes w.marks (window_notes f t arg w) in
      let outcomes : List Outcome = map (window_outcome f t arg w) w.rows in
      settled_keeps (taken marks outcomes) (taken_keeps marks outcomes (noted w.marks (window_notes f t arg w) h))

  pub windows_keep : (f : Window) (t : ℤ) (scalar : Step) (w : Windows) → P (united w.marks scalar.marks) → P (windowed_with f t scalar w).marks
  windows_keep f t scalar w h =
      value_keeps (value_in scalar) (united w.marks scalar.marks) (λ arg. windowed f t arg (record w { marks = united w.marks scalar.marks })) h
      (λ arg. windowed_keeps f t arg (record w { marks = united w.marks scalar.marks }) h)

  -- ---- of aggregations and histograms

  pub buckets_keep : (q : XFrac) → Keeps (bucket_quantiles q)
  buckets_keep q step h =
      let rows : List Row = step.table.rows in
      let one : Marks = with_notes step.marks (range_notes q) in
      let two : Marks = with_notes one (filter_map bound_note rows) in
      let three : Marks = with_notes two (filter_map (fixed_note q) (histograms rows)) in
      let outcomes : List Outcome = map (histogram_outcome q) (histograms rows) in
      settled_keeps (taken three outcomes)
      (taken_keeps three outcomes (noted two (filter_map (fixed_note q) (histograms rows)) (noted one (filter_map bound_note rows) (noted step.marks (range_notes q) h))))

  pub summarised_keeps : (f : Aggregate) (grouping : Grouping) (q : XFrac) → Keeps (summarised f grouping q)
  summarised_keeps f grouping q step h =
      taken_keeps (with_notes step.marks (aggregate_notes f q step.table.rows)) (map (group_outcome f q) (gathered (keyed_values grouping step.table.rows))) (noted step.marks (aggregate_notes f q step.table.rows) h)

  pub counted_keeps : (grouping : Grouping) (label : List ℕ) → Keeps (counted grouping label)
  counted_keeps grouping label step h = taken_keeps step.marks (map (counting_outcome grouping label) step.table.rows) h

  pub ranked_keeps : (down : Bool) (grouping : Grouping) (arg : XFrac) → Keeps (ranked down grouping arg)
  ranked_keeps down grouping arg step h = by (rank_count arg)
    where
      by : (o : Option ℕ) → P (ranked_to down grouping step o).marks
      by None = more step.marks (Overflow ∷ []) h
      by (Some k) = h

  -- ---- of two sides

  pub paired_keeps : (op : PairOp) (pairing : Pairing) (l r : Step) → P (united l.marks r.marks) → P (paired l r op pairing).marks
  paired_keeps op pairing l r h =
      by (is_empty l.table.rows || is_empty r.table.rows) (united l.marks r.marks) (many_side pairing.card l.table.rows r.table.rows) (one_side pairing.card l.table.rows r.table.rows) h
    where
      by : (b : Bool) (marks : Marks) (many ones : List Row) → P marks
          → P (if b then step_of_rows [] marks else record { table = record { rows = pair_rows op pairing many ones }; marks = with_fatal marks (pair_marks op pairing many ones) }).marks
      by true marks many ones k = k
      by false marks many ones k = more marks (pair_marks op pairing many ones) k

  pub combined_keeps : (op : SetOp) (pairing : Pairing) (l r : Step) → P (united l.marks r.marks) → P (combined l r op pairing).marks
  combined_keeps set_operator.And pairing l r h = h
  combined_keeps set_operator.Unless pairing l r h = h
  combined_keeps set_operator.Or pairing l r h = settled_keeps (step_of_rows (l.table.rows ++ rows_off pairing l.table.rows r.table.rows) (united l.marks r.marks)) h

  pub ratio_keeps : (l r : Step) → P (united l.marks r.marks) → P (ratio l r).marks
  ratio_keeps l r h = taken_keeps (united l.marks r.marks) (map (ratio_outcome r.table.rows) l.table.rows) h
