-- What the functions, operators and aggregations of nodes make of what agrees agrees.
use Rattle.std.proofs.Common.{◌≡◌, ℕ, Bool, true, false, List, [], ◌∷◌, ap, ap₂, refl, sym, subst, inl, inr, Option}
use Rattle.std.specs.Prelude.{ℤ, ◌⊎◌}
use Rattle.func_table.specs.declared.table.Aggregate.{Aggregate}
use Rattle.func_table.specs.declared.table.Aggregate.TheVariants as aggregate
use Rattle.func_table.specs.declared.table.Element.{Element}
use Rattle.func_table.specs.declared.table.Element.TheVariants as element
use Rattle.func_table.specs.declared.table.SetOp.{SetOp}
use Rattle.func_table.specs.declared.table.Window.{Window}
use Rattle.func_table.specs.declared.table.Window.TheVariants as function
use Rattle.label_set.specs.declared.rules.Grouping.{Grouping}
use Rattle.label_set.specs.declared.rules.Pairing.{Pairing}
use Rattle.label_set.specs.declared.rules.Relabel.{Relabel}
use Rattle.label_set.specs.declared.rules.Relabel.TheVariants as relabel
use Rattle.label_set.specs.declared.rules.Rule.{Rule}
use Rattle.step_table.specs.Groups.{Names}
use Rattle.step_table.specs.Laws.{UnionHasMarks}
use Rattle.step_table.specs.Matching.{labelled, paired}
use Rattle.step_table.specs.Sets.{combined, step_of_rows}
use Rattle.step_table.specs.Timed.{StepAt, marks_of_steps, steps_over}
use Rattle.step_table.specs.Unions.{united, with_fatal}
use Rattle.step_table.specs.declared.marks.Mark.{Mark}
use Rattle.step_table.specs.declared.marks.Marks.{Marks}
use Rattle.step_table.specs.declared.marks.Note.{Note}
use Rattle.step_table.specs.declared.outcomes.Outcome.{Outcome}
use Rattle.step_table.specs.declared.step.Row.{Row}
use Rattle.step_table.specs.declared.step.Step.{Step}
use Rattle.ticks.specs.declared.moment.Ms.{Ms}
use Rattle.xfrac.specs.declared.value.PairOp.{PairOp}
use Rattle.xfrac.specs.declared.value.XFrac.{XFrac}
use Rattle.promql_meaning.specs.Absences.{absence_under}
use Rattle.promql_meaning.specs.Aggregations.{aggregated, summarised}
use Rattle.promql_meaning.specs.Buckets.{bucket_quantiles}
use Rattle.promql_meaning.specs.Countings.{counted}
use Rattle.promql_meaning.specs.Elements.{element_outcome, mapped, operated_rows, operator_outcome, row_by_row}
use Rattle.promql_meaning.specs.Filters.{passing_rows, passing_windows}
use Rattle.promql_meaning.specs.Givens.{no_marks, step_of, with_scalar}
use Rattle.promql_meaning.specs.Meaning.{applied, negation, operation, rounding, step_at, windowed_by, windowed_with, zero_number}
use Rattle.promql_meaning.specs.Outcomes.{with_notes}
use Rattle.promql_meaning.specs.Relabels.{joined_labels, label_joined, label_replaced, replaced_labels}
use Rattle.promql_meaning.specs.Selecting.{Asked}
use Rattle.promql_meaning.specs.Subqueries.{as_times, multiples, points_of, points_of_steps}
use Rattle.promql_meaning.specs.declared.given.Given.{Given}
use Rattle.promql_meaning.specs.declared.given.Given.TheVariants as given
use Rattle.promql_meaning.specs.declared.given.Windows.{Windows}
use Rattle.step_cells.specs.CellLaws.{Agree}
use Rattle.logical_plan.specs.PlanMeaning.{element_given, group_given, relabel_given, window_given}
use Rattle.logical_plan.specs.PlanRules.{absent_under, filtered, pattern_text, ratio, stamp}
use Rattle.plan_agreement.specs.Agreements.{AgreeGivens, Overflows, equal, ranges, scalars, vectors}
use Rattle.plan_agreement.proofs.Agreeing.{AllAgree, at_agrees, one_agrees, same_given, scalar_agrees, scalars_agree, steps_agree, united_agree}
use Rattle.plan_agreement.proofs.Keeping.{absence_keeps, buckets_keep, combined_keeps, counted_keeps, paired_keeps, ranked_keeps, ratio_keeps, rows_keep, stamp_keeps, summarised_keeps, windowed_keeps, windows_keep}
use Rattle.plan_agreement.proofs.Sides.{is_scalar, operation_is, sides}
use Rattle.plan_agreement.proofs.Overflows.{Lost, fatal_keeps, instants_keep, notes_keep, united_left, united_right}

-- a function of one step, whatever gives it
pub step_given : (F : Step → Step) → ((s : Step) → Lost s → Lost (F s)) → (a b : Given) → AgreeGivens a b → AgreeGivens (given.Vector (F (step_of a))) (given.Vector (F (step_of b)))
step_given F keeps a b h = vectors (F (step_of a)) (F (step_of b)) (one_agrees F keeps (step_of a) (step_of b) (steps_agree a b h))

module _ (unions : UnionHasMarks) where
  abbrev more : (marks : Marks) (fatal : List Mark) → Overflows marks → Overflows (with_fatal marks fatal)
  more = fatal_keeps unions

  abbrev noted : (marks : Marks) (notes : List Note) → Overflows marks → Overflows (with_notes marks notes)
  noted = notes_keep unions

  rows_stay : (f : Row → Outcome) (s : Step) → Lost s → Lost (row_by_row f s)
  rows_stay = rows_keep Overflows more noted

  -- ---- element functions

  mapped_keeps : (f : Element) (x y : XFrac) (s : Step) → Lost s → Lost (mapped f x y s)
  mapped_keeps f x y = rows_stay (element_outcome f x y)

  negation_agrees : (a b : Given) → AgreeGivens a b → AgreeGivens (negation a) (negation b)
  negation_agrees _ _ (equal a b e) = equal (negation a) (negation b) (ap negation e)
  negation_agrees _ _ (scalars a b h) = scalars _ _ (one_agrees (mapped element.Neg zero_number zero_number) (mapped_keeps element.Neg zero_number zero_number) a b h)
  negation_agrees _ _ (vectors a b h) = vectors _ _ (one_agrees (mapped element.Neg zero_number zero_number) (mapped_keeps element.Neg zero_number zero_number) a b h)
  negation_agrees _ _ (ranges a b h k) = same_given _

  plain_agrees : (f : Element) (gs hs : List Given) → AllAgree gs hs → Agree (mapped f zero_number zero_number (step_at gs 0)) (mapped f zero_number zero_number (step_at hs 0))
  plain_agrees f gs hs z = one_agrees (mapped f zero_number zero_number) (mapped_keeps f zero_number zero_number) (step_at gs 0) (step_at hs 0) (at_agrees gs hs 0 z)

  rounding_agrees : (gs hs : List Given) → AllAgree gs hs → Agree (rounding gs) (rounding hs)
  rounding_agrees [] [] z = inl refl
  rounding_agrees [] (h ∷ hs) z = absurd z
  rounding_agrees (g ∷ gs) [] z = absurd z
  rounding_agrees (g ∷ []) (h ∷ []) z = inl refl
  rounding_agrees (g ∷ []) (h ∷ j ∷ hs) z = absurd z.1
  rounding_agrees (g ∷ i ∷ gs) (h ∷ []) z = absurd z.1
  rounding_agrees (g ∷ i ∷ gs) (h ∷ j ∷ hs) z = steps_agree i j z.1.0

  applied_agrees : (f : Element) (gs hs : List Given) → AllAgree gs hs → Agree (applied f gs) (applied f hs)
  applied_agrees element.Abs gs hs z = plain_agrees element.Abs gs hs z
  applied_agrees element.Ceil gs hs z = plain_agrees element.Ceil gs hs z
  applied_agrees element.Floor gs hs z = plain_agrees element.Floor gs hs z
  applied_agrees element.Sgn gs hs z = plain_agrees element.Sgn gs hs z
  applied_agrees element.Neg gs hs z = plain_agrees element.Neg gs hs z
  applied_agrees (element.Calendar part) gs hs z = plain_agrees (element.Calendar part) gs hs z
  applied_agrees element.Round gs hs z =
      scalar_agrees unions (λ to. mapped element.Round to zero_number) (λ a. mapped_keeps element.Round a zero_number) (rounding gs) (step_at gs 0) (rounding hs) (step_at hs 0) (rounding_agrees gs hs z) (at_agrees gs hs 0 z)
  applied_agrees element.ClampMin gs hs z =
      scalar_agrees unions (λ low. mapped element.ClampMin low zero_number) (λ a. mapped_keeps element.ClampMin a zero_number) (step_at gs 1) (step_at gs 0) (step_at hs 1) (step_at hs 0) (at_agrees gs hs 1 z) (at_agrees gs hs 0 z)
  applied_agrees element.ClampMax gs hs z =
      scalar_agrees unions (λ high. mapped element.ClampMax high zero_number) (λ a. mapped_keeps element.ClampMax a zero_number) (step_at gs 1) (step_at gs 0) (step_at hs 1) (step_at hs 0) (at_agrees gs hs 1 z) (at_agrees gs hs 0 z)
  applied_agrees element.Clamp gs hs z =
      scalars_agree unions (mapped element.Clamp) (mapped_keeps element.Clamp) (step_at gs 1) (step_at gs 2) (step_at gs 0) (step_at hs 1) (step_at hs 2) (step_at hs 0) (at_agrees gs hs 1 z) (at_agrees gs hs 2 z) (at_agrees gs hs 0 z)

  call_agrees : (f : Element) (gs hs : List Given) (a b : Given) → AllAgree gs hs → AgreeGivens a b → AgreeGivens (given.Vector (applied f (a ∷ gs))) (given.Vector (applied f (b ∷ hs)))
  call_agrees f gs hs a b z h = vectors (applied f (a ∷ gs)) (applied f (b ∷ hs)) (applied_agrees f (a ∷ gs) (b ∷ hs) (h, z))

  pub element_agrees : (f : Element) (gs hs : List Given) (a b : Given) → AllAgree gs hs → AgreeGivens a b → AgreeGivens (element_given f gs a) (element_given f hs b)
  element_agrees element.Neg gs hs a b z h = negation_agrees a b h
  element_agrees element.Abs gs hs a b z h = call_agrees element.Abs gs hs a b z h
  element_agrees element.Ceil gs hs a b z h = call_agrees element.Ceil gs hs a b z h
  element_agrees element.Floor gs hs a b z h = call_agrees element.Floor gs hs a b z h
  element_agrees element.Round gs hs a b z h = call_agrees element.Round gs hs a b z h
  element_agrees element.Sgn gs hs a b z h = call_agrees element.Sgn gs hs a b z h
  element_agrees element.Clamp gs hs a b z h = call_agrees element.Clamp gs hs a b z h
  element_agrees element.ClampMin gs hs a b z h = call_agrees element.ClampMin gs hs a b z h
  element_agrees element.ClampMax gs hs a b z h = call_agrees element.ClampMax gs hs a b z h
  element_agrees (element.Calendar part) gs hs a b z h = call_agrees (element.Calendar part) gs hs a b z h

  -- ---- times and labels

  pub stamp_agrees : (own other : Bool) (t : ℤ) (a b : Given) → own ≡ other → AgreeGivens a b → AgreeGivens (given.Vector (stamp own t (step_of a))) (given.Vector (stamp other t (step_of b)))
  stamp_agrees own other t a b e h =
      subst (λ (o : Bool). AgreeGivens (given.Vector (stamp own t (step_of a))) (given.Vector (stamp o t (step_of b)))) e (step_given (stamp own t) (stamp_keeps Overflows more noted own t) a b h)

  abbrev absence_of : Option Names → Step → Step
  absence_of labels step = absence_under labels step.table.rows step.marks

  absence_agrees : (labels : Option Names) (a b : Step) → Agree a b → Agree (absence_of labels a) (absence_of labels b)
  absence_agrees labels = one_agrees (absence_of labels) (λ s h. absence_keeps Overflows more noted labels s.table.rows s.marks h)

  pub absent_agrees : (labels : Option Names) (a b : Given) → AgreeGivens a b → AgreeGivens (given.Vector (absent_under labels a)) (given.Vector (absent_under labels b))
  absent_agrees labels _ _ (equal a b e) = equal _ _ (ap (λ (g : Given). given.Vector (absent_under labels g)) e)
  absent_agrees labels _ _ (scalars a b h) = vectors _ _ (absence_agrees labels a b h)
  absent_agrees labels _ _ (vectors a b h) = vectors _ _ (absence_agrees labels a b h)
  absent_agrees labels _ _ (ranges a b h k) = vectors _ _ (inr (absence_keeps Overflows more noted labels a.rows a.marks h, absence_keeps Overflows more noted labels b.rows b.marks k))

  abbrev passing : List (Bool × List ℕ) → List Rule → Step → Step
  passing kept rules step = step_of_rows (passing_rows kept rules step.table.rows) step.marks

  pub filtered_agrees : (kept : List (Bool × List ℕ)) (rules : List Rule) (a b : Given) → AgreeGivens a b → AgreeGivens (filtered kept rules a) (filtered kept rules b)
  filtered_agrees kept rules _ _ (equal a b e) = equal _ _ (ap (filtered kept rules) e)
  filtered_agrees kept rules _ _ (scalars a b h) = vectors _ _ (one_agrees (passing kept rules) (λ s k. k) a b h)
  filtered_agrees kept rules _ _ (vectors a b h) = vectors _ _ (one_agrees (passing kept rules) (λ s k. k) a b h)
  filtered_agrees kept rules _ _ (ranges a b h k) = ranges (record a { rows = passing_windows kept rules a.rows }) (record b { rows = passing_windows kept rules b.rows }) h k

  pub relabel_agrees : (asked : Asked) (rule : Relabel) (a b : Given) → AgreeGivens a b → AgreeGivens (relabel_given asked rule a) (relabel_given asked rule b)
  relabel_agrees asked (relabel.Replace target template source pattern) a b h =
      step_given (label_replaced target template source (pattern_text asked.kept pattern)) (rows_stay (λ (row : Row). labelled (replaced_labels target template source (pattern_text asked.kept pattern) row.labels) row.value)) a b h
  relabel_agrees asked (relabel.Join target separator sources) a b h = step_given (label_joined target separator sources) (rows_stay (λ (row : Row). labelled (joined_labels target separator sources row.labels) row.value)) a b h
  relabel_agrees asked (relabel.Filter rules) a b h = filtered_agrees asked.kept rules a b h

  -- ---- functions of windows

  by_keeps : (f : Window) (t : ℤ) (scalar : Step) (w : Windows) → Overflows w.marks → Lost (windowed_by f t scalar w)
  by_keeps function.Rate t scalar w h = windowed_keeps Overflows more noted function.Rate t zero_number w h
  by_keeps function.Increase t scalar w h = windowed_keeps Overflows more noted function.Increase t zero_number w h
  by_keeps function.Delta t scalar w h = windowed_keeps Overflows more noted function.Delta t zero_number w h
  by_keeps function.Irate t scalar w h = windowed_keeps Overflows more noted function.Irate t zero_number w h
  by_keeps function.Idelta t scalar w h = windowed_keeps Overflows more noted function.Idelta t zero_number w h
  by_keeps function.Deriv t scalar w h = windowed_keeps Overflows more noted function.Deriv t zero_number w h
  by_keeps function.PredictLinear t scalar w h = windows_keep Overflows more noted function.PredictLinear t scalar w (united_left unions w.marks scalar.marks h)
  by_keeps function.Changes t scalar w h = windowed_keeps Overflows more noted function.Changes t zero_number w h
  by_keeps function.Resets t scalar w h = windowed_keeps Overflows more noted function.Resets t zero_number w h
  by_keeps function.AvgOver t scalar w h = windowed_keeps Overflows more noted function.AvgOver t zero_number w h
  by_keeps function.MinOver t scalar w h = windowed_keeps Overflows more noted function.MinOver t zero_number w h
  by_keeps function.MaxOver t scalar w h = windowed_keeps Overflows more noted function.MaxOver t zero_number w h
  by_keeps function.SumOver t scalar w h = windowed_keeps Overflows more noted function.SumOver t zero_number w h
  by_keeps function.CountOver t scalar w h = windowed_keeps Overflows more noted function.CountOver t zero_number w h
  by_keeps function.StdvarOver t scalar w h = windowed_keeps Overflows more noted function.StdvarOver t zero_number w h
  by_keeps function.QuantileOver t scalar w h = windows_keep Overflows more noted function.QuantileOver t scalar w (united_left unions w.marks scalar.marks h)
  by_keeps function.LastOver t scalar w h = windowed_keeps Overflows more noted function.LastOver t zero_number w h
  by_keeps function.PresentOver t scalar w h = windowed_keeps Overflows more noted function.PresentOver t zero_number w h

  with_agrees : (f : Window) (t : ℤ) (w : Windows) (a b : Step) → Agree a b → Agree (windowed_with f t a w) (windowed_with f t b w)
  with_agrees f t w = one_agrees (λ (s : Step). windowed_with f t s w) (λ s h. windows_keep Overflows more noted f t s w (united_right unions w.marks s.marks h))

  by_agrees : (f : Window) (t : ℤ) (w : Windows) (a b : Step) → Agree a b → Agree (windowed_by f t a w) (windowed_by f t b w)
  by_agrees function.Rate t w a b h = inl refl
  by_agrees function.Increase t w a b h = inl refl
  by_agrees function.Delta t w a b h = inl refl
  by_agrees function.Irate t w a b h = inl refl
  by_agrees function.Idelta t w a b h = inl refl
  by_agrees function.Deriv t w a b h = inl refl
  by_agrees function.PredictLinear t w a b h = with_agrees function.PredictLinear t w a b h
  by_agrees function.Changes t w a b h = inl refl
  by_agrees function.Resets t w a b h = inl refl
  by_agrees function.AvgOver t w a b h = inl refl
  by_agrees function.MinOver t w a b h = inl refl
  by_agrees function.MaxOver t w a b h = inl refl
  by_agrees function.SumOver t w a b h = inl refl
  by_agrees function.CountOver t w a b h = inl refl
  by_agrees function.StdvarOver t w a b h = inl refl
  by_agrees function.QuantileOver t w a b h = with_agrees function.QuantileOver t w a b h
  by_agrees function.LastOver t w a b h = inl refl
  by_agrees function.PresentOver t w a b h = inl refl

  -- one given and other arguments
  over_agrees : (f : Window) (t : ℤ) (gs hs : List Given) (a : Given) → AllAgree gs hs → Agree (window_given f t gs a) (window_given f t hs a)
  over_agrees f t gs hs (given.Scalar step) z = inl refl
  over_agrees f t gs hs (given.Vector step) z = inl refl
  over_agrees f t gs hs (given.Selected selection) z = inl refl
  over_agrees f t gs hs (given.Windows w) z = by_agrees f t w (step_at gs 0) (step_at hs 0) (at_agrees gs hs 0 z)
  over_agrees f t gs hs (given.Words text) z = inl refl

  pub window_agrees : (f : Window) (t : ℤ) (gs hs : List Given) (a b : Given) → AllAgree gs hs → AgreeGivens a b → Agree (window_given f t gs a) (window_given f t hs b)
  window_agrees f t gs hs _ _ z (equal a b e) = subst (λ (g : Given). Agree (window_given f t gs a) (window_given f t hs g)) e (over_agrees f t gs hs a z)
  window_agrees f t gs hs _ _ z (scalars a b h) = inl refl
  window_agrees f t gs hs _ _ z (vectors a b h) = inl refl
  window_agrees f t gs hs _ _ z (ranges a b h k) = inr (by_keeps f t (step_at gs 0) a h, by_keeps f t (step_at hs 0) b k)

  -- ---- aggregations and histograms

  pub buckets_agree : (a b c d : Given) → AgreeGivens a c → AgreeGivens b d
      → Agree (with_scalar bucket_quantiles (step_of a) (step_of b)) (with_scalar bucket_quantiles (step_of c) (step_of d))
  buckets_agree a b c d h k = scalar_agrees unions bucket_quantiles (buckets_keep Overflows more noted) (step_of a) (step_of b) (step_of c) (step_of d) (steps_agree a c h) (steps_agree b d k)

  summary_agrees : (f : Aggregate) (grouping : Grouping) (gs hs : List Given) → AllAgree gs hs → Agree (summarised f grouping zero_number (step_at gs 0)) (summarised f grouping zero_number (step_at hs 0))
  summary_agrees f grouping gs hs z = one_agrees (summarised f grouping zero_number) (summarised_keeps Overflows more noted f grouping zero_number) (step_at gs 0) (step_at hs 0) (at_agrees gs hs 0 z)

  parameter_agrees : (F : XFrac → Step → Step) → ((a : XFrac) (s : Step) → Lost s → Lost (F a s)) → (gs hs : List Given) → AllAgree gs hs → Agree (with_scalar F (step_at gs 0) (step_at gs 1)) (with_scalar F (step_at hs 0) (step_at hs 1))
  parameter_agrees F keeps gs hs z = scalar_agrees unions F keeps (step_at gs 0) (step_at gs 1) (step_at hs 0) (step_at hs 1) (at_agrees gs hs 0 z) (at_agrees gs hs 1 z)

  pub group_agrees : (f : Aggregate) (grouping : Grouping) (label : List ℕ) (gs hs : List Given) → AllAgree gs hs → Agree (group_given f grouping label gs) (group_given f grouping label hs)
  group_agrees aggregate.Sum grouping label gs hs z = summary_agrees aggregate.Sum grouping gs hs z
  group_agrees aggregate.Avg grouping label gs hs z = summary_agrees aggregate.Avg grouping gs hs z
  group_agrees aggregate.Min grouping label gs hs z = summary_agrees aggregate.Min grouping gs hs z
  group_agrees aggregate.Max grouping label gs hs z = summary_agrees aggregate.Max grouping gs hs z
  group_agrees aggregate.Count grouping label gs hs z = summary_agrees aggregate.Count grouping gs hs z
  group_agrees aggregate.Group grouping label gs hs z = summary_agrees aggregate.Group grouping gs hs z
  group_agrees aggregate.Stdvar grouping label gs hs z = summary_agrees aggregate.Stdvar grouping gs hs z
  group_agrees aggregate.TopK grouping label gs hs z = parameter_agrees (λ k. aggregated aggregate.TopK grouping k []) (ranked_keeps Overflows more noted true grouping) gs hs z
  group_agrees aggregate.BottomK grouping label gs hs z = parameter_agrees (λ k. aggregated aggregate.BottomK grouping k []) (ranked_keeps Overflows more noted false grouping) gs hs z
  group_agrees aggregate.Quantile grouping label gs hs z = parameter_agrees (λ q. aggregated aggregate.Quantile grouping q []) (summarised_keeps Overflows more noted aggregate.Quantile grouping) gs hs z
  group_agrees aggregate.CountValues grouping label gs hs z = one_agrees (counted grouping label) (counted_keeps Overflows more noted grouping label) (step_at gs 0) (step_at hs 0) (at_agrees gs hs 0 z)

  -- ---- operators

  operated_keeps : (op : PairOp) (left : Bool) (a : XFrac) (s : Step) → Lost s → Lost (operated_rows op left a s)
  operated_keeps op left a = rows_stay (operator_outcome op left a)

  paired_agree : (op : PairOp) (pairing : Pairing) (a b c d : Step) → Agree a c → Agree b d → Agree (paired a b op pairing) (paired c d op pairing)
  paired_agree op pairing = united_agree unions (λ (l r : Step). paired l r op pairing) (paired_keeps Overflows more noted op pairing)

  pub combined_agree : (op : SetOp) (pairing : Pairing) (a b c d : Step) → Agree a c → Agree b d → Agree (combined a b op pairing) (combined c d op pairing)
  combined_agree op pairing = united_agree unions (λ (l r : Step). combined l r op pairing) (combined_keeps Overflows more noted op pairing)

  pub ratio_agrees : (a b c d : Step) → Agree a c → Agree b d → Agree (ratio a b) (ratio c d)
  ratio_agrees = united_agree unions ratio (ratio_keeps Overflows more noted)

  same_side : (a b : Given) → AgreeGivens a b → is_scalar a ≡ is_scalar b
  same_side _ _ (equal a b e) = ap is_scalar e
  same_side _ _ (scalars a b h) = refl
  same_side _ _ (vectors a b h) = refl
  same_side _ _ (ranges a b h k) = refl

  sides_agree : (op : PairOp) (pairing : Pairing) (left right : Bool) (a b c d : Step) → Agree a c → Agree b d → AgreeGivens (sides op pairing left right a b) (sides op pairing left right c d)
  sides_agree op pairing true true a b c d h k = scalars _ _ (scalar_agrees unions (operated_rows op false) (operated_keeps op false) b a d c k h)
  sides_agree op pairing true false a b c d h k = vectors _ _ (scalar_agrees unions (operated_rows op true) (operated_keeps op true) a b c d h k)
  sides_agree op pairing false true a b c d h k = vectors _ _ (scalar_agrees unions (operated_rows op false) (operated_keeps op false) b a d c k h)
  sides_agree op pairing false false a b c d h k = vectors _ _ (paired_agree op pairing a b c d h k)

  pub operation_agrees : (op : PairOp) (pairing : Pairing) (a b c d : Given) → AgreeGivens a c → AgreeGivens b d → AgreeGivens (operation op pairing a b) (operation op pairing c d)
  operation_agrees op pairing a b c d h k =
      subst (λ (g : Given). AgreeGivens g (operation op pairing c d)) (sym (operation_is op pairing a b))
      (subst (λ (g : Given). AgreeGivens (sides op pairing (is_scalar a) (is_scalar b) (step_of a) (step_of b)) g) (sym (operation_is op pairing c d))
      (subst (λ (left : Bool). AgreeGivens (sides op pairing (is_scalar a) (is_scalar b) (step_of a) (step_of b)) (sides op pairing left (is_scalar d) (step_of c) (step_of d))) (same_side a c h)
      (subst (λ (right : Bool). AgreeGivens (sides op pairing (is_scalar a) (is_scalar b) (step_of a) (step_of b)) (sides op pairing (is_scalar a) right (step_of c) (step_of d))) (same_side b d k)
      (sides_agree op pairing (is_scalar a) (is_scalar b) (step_of a) (step_of b) (step_of c) (step_of d) (steps_agree a c h) (steps_agree b d k)))))

  -- ---- subqueries

  -- the steps at some instants are the same, or have Overflow among their marks on both sides
  over_instants : (f g : ℤ → Step) (times : List Ms) → ((t : ℤ) → Agree (f t) (g t))
      → (steps_over f times ≡ steps_over g times) ⊎ (((marks : Marks) → Overflows (marks_of_steps marks (steps_over f times))) × ((marks : Marks) → Overflows (marks_of_steps marks (steps_over g times))))
  over_instants f g [] h = inl refl
  over_instants f g (t ∷ times) h = by (h t.0) (over_instants f g times h)
    where
      by : Agree (f t.0) (g t.0)
          → (steps_over f times ≡ steps_over g times) ⊎ (((marks : Marks) → Overflows (marks_of_steps marks (steps_over f times))) × ((marks : Marks) → Overflows (marks_of_steps marks (steps_over g times))))
          → (steps_over f (t ∷ times) ≡ steps_over g (t ∷ times)) ⊎ (((marks : Marks) → Overflows (marks_of_steps marks (steps_over f (t ∷ times)))) × ((marks : Marks) → Overflows (marks_of_steps marks (steps_over g (t ∷ times)))))
      by (inl e) (inl rest) = inl (ap₂ (λ (s : Step) (steps : List StepAt). record { at = t; step = s } ∷ steps) e rest)
      by (inl e) (inr rest) = inr (λ marks. rest.0 (united marks (f t.0).marks), λ marks. rest.1 (united marks (g t.0).marks))
      by (inr k) rest =
          inr (
            λ marks. instants_keep unions (united marks (f t.0).marks) (steps_over f times) (united_right unions marks (f t.0).marks k.0),
            λ marks. instants_keep unions (united marks (g t.0).marks) (steps_over g times) (united_right unions marks (g t.0).marks k.1),
          )

  pub points_agree : (closed : Bool) (f g : ℤ → Step) (range step : Ms) (m : ℤ) → ((t : ℤ) → Agree (f t) (g t)) → AgreeGivens (given.Windows (points_of closed f range step m)) (given.Windows (points_of closed g range step m))
  points_agree closed f g range step m h = by (as_times (multiples closed m range.0 step.0)) (over_instants f g (as_times (multiples closed m range.0 step.0)) h)
    where
      by : (times : List Ms) → (steps_over f times ≡ steps_over g times) ⊎ (((marks : Marks) → Overflows (marks_of_steps marks (steps_over f times))) × ((marks : Marks) → Overflows (marks_of_steps marks (steps_over g times))))
          → AgreeGivens (given.Windows (points_of_steps range m (steps_over f times))) (given.Windows (points_of_steps range m (steps_over g times)))
      by times (inl e) = equal _ _ (ap (λ (steps : List StepAt). given.Windows (points_of_steps range m steps)) e)
      by times (inr k) = ranges (points_of_steps range m (steps_over f times)) (points_of_steps range m (steps_over g times)) (k.0 no_marks) (k.1 no_marks)
