-- Marks and notes that stay sets.
use Rattle.std.proofs.Common.{ℕ, Bool, true, false, cond, List, [], ◌∷◌, ◌++◌, map, Option, Some, None}
use Rattle.std.specs.Prelude.{ℤ, ◌||◌}
use Rattle.std.specs.List.{filter_map}
use Rattle.std.specs.List.Sorted.{IsStrictlySortedBy}
use Rattle.func_table.specs.declared.table.Aggregate.{Aggregate}
use Rattle.func_table.specs.declared.table.Aggregate.TheVariants.{TopK, BottomK, Quantile, CountValues}
use Rattle.func_table.specs.declared.table.Element.{Element}
use Rattle.func_table.specs.declared.table.Element.TheVariants.{Round, Clamp, ClampMin, ClampMax}
use Rattle.func_table.specs.declared.table.SetOp.{SetOp}
use Rattle.func_table.specs.declared.table.SetOp.TheVariants.{And, Unless, Or}
use Rattle.func_table.specs.declared.table.Window.{Window}
use Rattle.func_table.specs.declared.table.Window.TheVariants.{PredictLinear, QuantileOver}
use Rattle.label_set.specs.declared.rules.Grouping.{Grouping}
use Rattle.label_set.specs.declared.rules.Pairing.{Pairing}
use Rattle.label_set.specs.declared.rules.Relabel.{Relabel}
use Rattle.label_set.specs.declared.rules.Relabel.TheVariants.{Replace, Join, Filter}
use Rattle.op_element.specs.Rules.{element_step}
use Rattle.op_element.specs.declared.formula.ElementRule.{ElementRule}
use Rattle.op_element.specs.declared.formula.ElementRule.TheVariants as element
use Rattle.op_labels.specs.Rules.{Kept, relabelled_step, text_at}
use Rattle.op_small.specs.Rules.{small, stamp}
use Rattle.op_small.specs.declared.rule.SmallRule.{SmallRule}
use Rattle.op_small.specs.declared.rule.SmallRule.TheVariants as rule
use Rattle.promql_meaning.specs.Absences.{absence_under}
use Rattle.promql_meaning.specs.Aggregations.{aggregate_notes, aggregated, group_outcome, keyed_values, summarised}
use Rattle.promql_meaning.specs.Buckets.{bound_note, bucket_quantiles, fixed_note, histogram_outcome, histograms}
use Rattle.promql_meaning.specs.Countings.{counting_outcome}
use Rattle.promql_meaning.specs.Elements.{element_outcome, mapped, operated_rows, operator_outcome, row_by_row, seconds_of}
use Rattle.promql_meaning.specs.Givens.{both, by_value, marked, no_marks, value_in, with_scalar}
use Rattle.promql_meaning.specs.Meaning.{aggregated_with, applied_to, windowed_by, windowed_with, zero_number}
use Rattle.promql_meaning.specs.Outcomes.{range_notes, with_notes}
use Rattle.promql_meaning.specs.Ranges.{window_notes, window_outcome, windowed}
use Rattle.promql_meaning.specs.Ranks.{rank_count, ranked_to}
use Rattle.promql_meaning.specs.Relabels.{joined_labels, replaced_labels}
use Rattle.promql_meaning.specs.Subqueries.{as_times, multiples, points_of}
use Rattle.promql_meaning.specs.declared.given.Windows.{Windows}
use Rattle.step_table.specs.Groups.{Names, gathered}
use Rattle.logical_plan.specs.PlanRules.{ratio_outcome}
use Rattle.step_table.specs.KeySets.{sorted_set}
use Rattle.step_table.specs.Laws.{UnionIsSet}
use Rattle.step_table.specs.Matching.{is_empty, labelled, many_side, one_side, pair_marks, pair_rows, paired}
use Rattle.step_table.specs.OrderLaws.{mark_cmp_ties, mark_cmp_total, note_cmp_ties, note_cmp_total}
use Rattle.step_table.specs.Orders.{mark_cmp, note_cmp}
use Rattle.step_table.specs.Outcomes.{mark_of, settled, shared_marks, taken}
use Rattle.step_table.specs.Sets.{combined, rows_off, step_of_rows}
use Rattle.step_table.specs.Timed.{marks_of_steps, steps_over}
use Rattle.step_table.specs.Unions.{set_of, united, with_fatal}
use Rattle.step_table.specs.WellFormed.{AreSets}
use Rattle.step_table.specs.declared.marks.Mark.{Mark}
use Rattle.step_table.specs.declared.marks.Mark.TheVariants.{Overflow}
use Rattle.step_table.specs.declared.marks.Marks.{Marks}
use Rattle.step_table.specs.declared.marks.Note.{Note}
use Rattle.step_table.specs.declared.outcomes.Outcome.{Outcome}
use Rattle.step_table.specs.declared.step.Row.{Row}
use Rattle.step_table.specs.declared.step.Step.{Step}
use Rattle.ticks.specs.declared.moment.Ms.{Ms}
use Rattle.xfrac.specs.Arithmetic.{whole_number}
use Rattle.xfrac.specs.declared.value.PairOp.{PairOp}
use Rattle.xfrac.specs.declared.value.XFrac.{XFrac}
use Rattle.step_kernels.specs.Binaries.{binary_step}
use Rattle.step_kernels.specs.Unaries.{unary_step}
use Rattle.step_kernels.specs.declared.binary.BinaryRule.{BinaryRule}
use Rattle.step_kernels.specs.declared.binary.BinaryRule.TheVariants as binary
use Rattle.step_kernels.specs.declared.unary.UnaryRule.{UnaryRule}
use Rattle.step_kernels.specs.declared.unary.UnaryRule.TheVariants as unary

fatal_sets : (fs : List Mark) → AreSets (record { fatal = set_of mark_cmp fs; notes = [] })
unfolding IsStrictlySortedBy
fatal_sets fs = record { fatal = sorted_set mark_cmp_total mark_cmp_ties fs; notes = tt }

note_sets : (ns : List Note) → AreSets (record { fatal = []; notes = set_of note_cmp ns })
unfolding IsStrictlySortedBy
note_sets ns = record { fatal = tt; notes = sorted_set note_cmp_total note_cmp_ties ns }

none_sets : AreSets no_marks
unfolding IsStrictlySortedBy
none_sets = record { fatal = tt; notes = tt }

module _ (law : UnionIsSet) where
  abbrev Sets : Step → Type 0
  Sets step = AreSets step.marks

  more_fatal : (marks : Marks) (fs : List Mark) → AreSets marks → AreSets (with_fatal marks fs)
  more_fatal marks fs s = law marks (record { fatal = set_of mark_cmp fs; notes = [] }) s (fatal_sets fs)

  more_notes : (marks : Marks) (ns : List Note) → AreSets marks → AreSets (with_notes marks ns)
  more_notes marks ns s = law marks (record { fatal = []; notes = set_of note_cmp ns }) s (note_sets ns)

  settled_sets : (step : Step) → Sets step → Sets (settled step)
  settled_sets step s = more_fatal step.marks (shared_marks (λ (row : Row). row.labels) step.table.rows) s

  taken_sets : (marks : Marks) (outs : List Outcome) → AreSets marks → Sets (taken marks outs)
  taken_sets marks outs s = more_fatal marks (filter_map mark_of outs) s

  row_sets : (f : Row → Outcome) (step : Step) → Sets step → Sets (row_by_row f step)
  row_sets f step s = settled_sets (taken step.marks (map f step.table.rows)) (taken_sets step.marks (map f step.table.rows) s)

  value_sets : {A : Type 0} (o : Option A) (marks : Marks) (f : A → Step) → AreSets marks → ((a : A) → Sets (f a)) → Sets (by_value o marks f)
  value_sets None marks f s each = s
  value_sets (Some a) marks f s each = each a

  scalar_sets : (f : XFrac → Step → Step) (scalar step : Step) → ((a : XFrac) (s : Step) → Sets s → Sets (f a s)) → Sets scalar → Sets step → Sets (with_scalar f scalar step)
  scalar_sets f scalar step each u s =
      let all : AreSets (united step.marks scalar.marks) = law step.marks scalar.marks s u in
      value_sets (value_in scalar) (united step.marks scalar.marks) (λ a. f a (marked scalar.marks step)) all (λ a. each a (marked scalar.marks step) all)

  -- ---- functions and operators of rows

  applied_sets : (f : Element) (first second step : Step) → Sets first → Sets second → Sets step → Sets (applied_to f first second step)
  applied_sets Round first second step u v s = scalar_sets (λ to. mapped Round to zero_number) first step (λ a z k. row_sets (element_outcome Round a zero_number) z k) u s
  applied_sets Clamp first second step u v s =
      let one : AreSets (united step.marks first.marks) = law step.marks first.marks s u in
      let two : AreSets (united (united step.marks first.marks) second.marks) = law (united step.marks first.marks) second.marks one v in
      value_sets (both (value_in first) (value_in second)) (united (united step.marks first.marks) second.marks) (λ b. mapped Clamp b.0 b.1 (marked second.marks (marked first.marks step))) two
      (λ b. row_sets (element_outcome Clamp b.0 b.1) (marked second.marks (marked first.marks step)) two)
  applied_sets ClampMin first second step u v s = scalar_sets (λ low. mapped ClampMin low zero_number) first step (λ a z k. row_sets (element_outcome ClampMin a zero_number) z k) u s
  applied_sets ClampMax first second step u v s = scalar_sets (λ high. mapped ClampMax high zero_number) first step (λ a z k. row_sets (element_outcome ClampMax a zero_number) z k) u s
  applied_sets f first second step u v s = row_sets (element_outcome f zero_number zero_number) step s

  pub element_sets : (rule : ElementRule) (first second step : Step) → Sets first → Sets second → Sets step → Sets (element_step rule first second step)
  element_sets (element.Apply f) first second step u v s = applied_sets f first second step u v s
  element_sets (element.WithScalar op scalar_left) first second step u v s = scalar_sets (operated_rows op scalar_left) first step (λ a z k. row_sets (operator_outcome op scalar_left a) z k) u s

  -- ---- two vectors

  paired_sets : (op : PairOp) (p : Pairing) (l r : Step) → Sets l → Sets r → Sets (paired l r op p)
  paired_sets op p l r u v = either (is_empty l.table.rows || is_empty r.table.rows)
    where
      all : AreSets (united l.marks r.marks)
      all = law l.marks r.marks u v

      many : List Row
      many = many_side p.card l.table.rows r.table.rows

      ones : List Row
      ones = one_side p.card l.table.rows r.table.rows

      either : (b : Bool)
          → Sets (cond b (record { table = record { rows = [] }; marks = united l.marks r.marks }) (record { table = record { rows = pair_rows op p many ones }; marks = with_fatal (united l.marks r.marks) (pair_marks op p many ones) }))
      either true = all
      either false = more_fatal (united l.marks r.marks) (pair_marks op p many ones) all

  combined_sets : (op : SetOp) (p : Pairing) (l r : Step) → Sets l → Sets r → Sets (combined l r op p)
  combined_sets And p l r u v = law l.marks r.marks u v
  combined_sets Unless p l r u v = law l.marks r.marks u v
  combined_sets Or p l r u v = settled_sets (step_of_rows (l.table.rows ++ rows_off p l.table.rows r.table.rows) (united l.marks r.marks)) (law l.marks r.marks u v)

  -- ---- aggregations and histograms

  ranked_sets : (down : Bool) (by : Grouping) (step : Step) (o : Option ℕ) → Sets step → Sets (ranked_to down by step o)
  ranked_sets down by step None s = more_fatal step.marks (Overflow ∷ []) s
  ranked_sets down by step (Some k) s = s

  summarised_sets : (f : Aggregate) (by : Grouping) (q : XFrac) (step : Step) → Sets step → Sets (summarised f by q step)
  summarised_sets f by q step s =
      taken_sets (with_notes step.marks (aggregate_notes f q step.table.rows)) (map (group_outcome f q) (gathered (keyed_values by step.table.rows)))
      (more_notes step.marks (aggregate_notes f q step.table.rows) s)

  aggregated_sets : (f : Aggregate) (by : Grouping) (label : List ℕ) (parameter step : Step) → Sets parameter → Sets step → Sets (aggregated_with f by label parameter step)
  aggregated_sets TopK by label parameter step u s = scalar_sets (λ k. aggregated TopK by k []) parameter step (λ k z h. ranked_sets true by z (rank_count k) h) u s
  aggregated_sets BottomK by label parameter step u s = scalar_sets (λ k. aggregated BottomK by k []) parameter step (λ k z h. ranked_sets false by z (rank_count k) h) u s
  aggregated_sets Quantile by label parameter step u s = scalar_sets (λ q. aggregated Quantile by q []) parameter step (λ q z h. summarised_sets Quantile by q z h) u s
  aggregated_sets CountValues by label parameter step u s = taken_sets step.marks (map (counting_outcome by label) step.table.rows) s
  aggregated_sets f by label parameter step u s = summarised_sets f by zero_number step s

  bucket_sets : (q : XFrac) (step : Step) → Sets step → Sets (bucket_quantiles q step)
  bucket_sets q step s =
      let one : Marks = with_notes step.marks (range_notes q) in
      let two : Marks = with_notes one (filter_map bound_note step.table.rows) in
      let fixed : List Note = filter_map (fixed_note q) (histograms step.table.rows) in
      let outs : List Outcome = map (histogram_outcome q) (histograms step.table.rows) in
      settled_sets (taken (with_notes two fixed) outs)
      (taken_sets (with_notes two fixed) outs (more_notes two fixed (more_notes one (filter_map bound_note step.table.rows) (more_notes step.marks (range_notes q) s))))

  -- ---- kernels

  absence_sets : (labels : Option Names) (rows : List Row) (marks : Marks) → AreSets marks → Sets (absence_under labels rows marks)
  absence_sets labels [] marks s = taken_sets marks (labelled labels (whole_number 1) ∷ []) s
  absence_sets labels (row ∷ rows) marks s = s

  small_sets : (rule : SmallRule) (t : ℤ) (step : Step) → Sets step → Sets (small rule t step)
  small_sets (rule.Number value) t step s = none_sets
  small_sets rule.Time t step s = taken_sets no_marks (record { labels = []; value = seconds_of t } ∷ []) none_sets
  small_sets (rule.Stamp own) t step s = row_sets (stamp own t) step s
  small_sets rule.Scalar t step s = s
  small_sets rule.Vector t step s = s
  small_sets (rule.Absent labels) t step s = absence_sets labels step.table.rows step.marks s

  relabelled_sets : (kept : Kept) (rule : Relabel) (step : Step) → Sets step → Sets (relabelled_step kept rule step)
  relabelled_sets kept (Replace target template source pattern) step s = row_sets (λ (row : Row). labelled (replaced_labels target template source (text_at kept pattern.0) row.labels) row.value) step s
  relabelled_sets kept (Join target separator sources) step s = row_sets (λ (row : Row). labelled (joined_labels target separator sources row.labels) row.value) step s
  relabelled_sets kept (Filter rules) step s = s

  pub unaries_keep_sets : (kept : Kept) (rule : UnaryRule) (t : ℤ) (step : Step) → Sets step → Sets (unary_step kept rule t step)
  unaries_keep_sets kept (unary.Small rule) t step s = small_sets rule t step s
  unaries_keep_sets kept (unary.Apply rule) t step s = element_sets rule step step step s s s
  unaries_keep_sets kept (unary.Group f by) t step s = aggregated_sets f by [] step step s s
  unaries_keep_sets kept (unary.Relabel rule) t step s = relabelled_sets kept rule step s

  pub binaries_keep_sets : (rule : BinaryRule) (rows beside : Step) → Sets rows → Sets beside → Sets (binary_step rule rows beside)
  binaries_keep_sets (binary.Apply rule) rows beside s u = element_sets rule beside beside rows u u s
  binaries_keep_sets (binary.Join op p) rows beside s u = paired_sets op p rows beside s u
  binaries_keep_sets (binary.Combine op p) rows beside s u = combined_sets op p rows beside s u
  binaries_keep_sets binary.Buckets rows beside s u = scalar_sets bucket_quantiles beside rows bucket_sets u s
  binaries_keep_sets (binary.Rank f by label) rows beside s u = aggregated_sets f by label beside rows u s
  binaries_keep_sets binary.Ratio rows beside s u = taken_sets (united rows.marks beside.marks) (map (ratio_outcome beside.table.rows) rows.table.rows) (law rows.marks beside.marks s u)

  -- ---- windows

  window_sets : (f : Window) (t : ℤ) (arg : XFrac) (windows : Windows) → AreSets windows.marks → Sets (windowed f t arg windows)
  window_sets f t arg windows s =
      let marks : Marks = with_notes windows.marks (window_notes f t arg windows) in
      let outs : List Outcome = map (window_outcome f t arg windows) windows.rows in
      settled_sets (taken marks outs) (taken_sets marks outs (more_notes windows.marks (window_notes f t arg windows) s))

  with_sets : (f : Window) (t : ℤ) (scalar : Step) (windows : Windows) → Sets scalar → AreSets windows.marks → Sets (windowed_with f t scalar windows)
  with_sets f t scalar windows u s =
      let all : AreSets (united windows.marks scalar.marks) = law windows.marks scalar.marks s u in
      value_sets (value_in scalar) (united windows.marks scalar.marks) (λ arg. windowed f t arg (record windows { marks = united windows.marks scalar.marks })) all
      (λ arg. window_sets f t arg (record windows { marks = united windows.marks scalar.marks }) all)

  pub windowed_sets : (f : Window) (t : ℤ) (scalar : Step) (windows : Windows) → Sets scalar → AreSets windows.marks → Sets (windowed_by f t scalar windows)
  windowed_sets PredictLinear t scalar windows u s = with_sets PredictLinear t scalar windows u s
  windowed_sets QuantileOver t scalar windows u s = with_sets QuantileOver t scalar windows u s
  windowed_sets f t scalar windows u s = window_sets f t zero_number windows s

  over_sets : (inner : ℤ → Step) (marks : Marks) (us : List Ms) → AreSets marks → ((u : ℤ) → Sets (inner u)) → AreSets (marks_of_steps marks (steps_over inner us))
  over_sets inner marks [] s each = s
  over_sets inner marks (u ∷ us) s each = over_sets inner (united marks (inner u.0).marks) us (law marks (inner u.0).marks s (each u.0)) each

  pub points_sets : (closed : Bool) (inner : ℤ → Step) (range step : Ms) (m : ℤ) → ((u : ℤ) → Sets (inner u)) → AreSets (points_of closed inner range step m).marks
  points_sets closed inner range step m each = over_sets inner no_marks (as_times (multiples closed m range.0 step.0)) none_sets each
