-- What is shown of what is given: each rule over what is shown gives what is shown of the rule.
use Rattle.std.proofs.Common.{◌≡◌, ◌∙◌, ℕ, zero, suc, List, [], ◌∷◌, map, drop, ap, ap₂, refl, Bool, true, false}
use Rattle.std.specs.Prelude.{ℤ, ◌&&◌, ⊤}
use Rattle.func_table.specs.declared.table.Element.{Element as ElementFunction}
use Rattle.func_table.specs.declared.table.Element.TheVariants as element
use Rattle.func_table.specs.declared.table.Window.{Window as WindowFunction}
use Rattle.func_table.specs.declared.table.Window.TheVariants as window
use Rattle.func_table.specs.declared.table.Aggregate.{Aggregate as AggregateFunction}
use Rattle.func_table.specs.declared.table.Aggregate.TheVariants as aggregate
use Rattle.label_set.specs.declared.rules.Grouping.{Grouping}
use Rattle.label_set.specs.declared.rules.Pairing.{Pairing}
use Rattle.xfrac.specs.declared.value.PairOp.{PairOp}
use Rattle.xfrac.specs.declared.value.XFrac.{XFrac}
use Rattle.step_table.specs.Outcomes.{settled, taken}
use Rattle.step_table.specs.Unions.{united}
use Rattle.step_table.specs.declared.step.Step.{Step}
use Rattle.promql_meaning.specs.Absences.{absence, absence_under, absent_labels}
use Rattle.promql_meaning.specs.Elements.{at_instant, mapped, timestamps}
use Rattle.promql_meaning.specs.Givens.{by_value, no_marks, step_of, unstamped, value_in, words_of, with_scalar, with_scalars}
use Rattle.promql_meaning.specs.Meaning.{absent, aggregation, applied, argument, negation, operation, over_windows, over_windows_with, rounding, step_at, windowed_by, windowed_with, zero_number}
use Rattle.promql_meaning.specs.Outcomes.{with_notes}
use Rattle.promql_meaning.specs.Aggregations.{aggregated}
use Rattle.promql_meaning.specs.Ranges.{window_notes, window_outcome, windowed}
use Rattle.promql_meaning.specs.declared.given.Given.{Given}
use Rattle.promql_meaning.specs.declared.given.Given.TheVariants as given
use Rattle.promql_meaning.specs.declared.given.Stamped.{Stamped}
use Rattle.promql_meaning.specs.declared.given.Windows.{Windows}
use Rattle.logical_plan.specs.PlanMeaning.{window_given}
use Rattle.logical_plan.specs.PlanRules.{absent_under}
use Rattle.logical_plan.specs.Shown.{shown, rules_of}

pub step_shown : (g : Given) → step_of (shown g) ≡ step_of g
step_shown (given.Scalar step) = refl
step_shown (given.Vector step) = refl
step_shown (given.Selected selection) = refl
step_shown (given.Windows windows) = refl
step_shown (given.Words text) = refl

-- neither a selector nor words
abbrev pub IsPlain : Given → ℤ → Type 0
IsPlain g t = (rules_of g ≡ []) × (words_of g ≡ []) × (timestamps g t ≡ at_instant t (step_of g))

pub negation_shown : (g : Given) → negation (shown g) ≡ shown (negation g)
negation_shown (given.Scalar step) = refl
negation_shown (given.Vector step) = refl
negation_shown (given.Selected selection) = refl
negation_shown (given.Windows windows) = refl
negation_shown (given.Words text) = refl

pub negation_plain : (g : Given) (t : ℤ) → IsPlain (negation g) t
negation_plain (given.Scalar step) t = (refl, refl, refl)
negation_plain (given.Vector step) t = (refl, refl, refl)
negation_plain (given.Selected selection) t = (refl, refl, refl)
negation_plain (given.Windows windows) t = (refl, refl, refl)
negation_plain (given.Words text) t = (refl, refl, refl)

-- ---- what is no scalar

abbrev pub IsUnscalar : Given → Type 0
IsUnscalar (given.Scalar step) = ⊥
IsUnscalar (given.Vector step) = ⊤
IsUnscalar (given.Selected selection) = ⊤
IsUnscalar (given.Windows windows) = ⊤
IsUnscalar (given.Words text) = ⊤

pub negation_unscalar : (g : Given) → IsUnscalar g → negation g ≡ given.Vector (mapped element.Neg zero_number zero_number (step_of g))
negation_unscalar (given.Scalar step) is = absurd is
negation_unscalar (given.Vector step) is = refl
negation_unscalar (given.Selected selection) is = refl
negation_unscalar (given.Windows windows) is = refl
negation_unscalar (given.Words text) is = refl

pub unscalar_negation : (g : Given) → IsUnscalar g → IsUnscalar (negation g)
unscalar_negation (given.Scalar step) is = absurd is
unscalar_negation (given.Vector step) is = record {}
unscalar_negation (given.Selected selection) is = record {}
unscalar_negation (given.Windows windows) is = record {}
unscalar_negation (given.Words text) is = record {}

unscalar_left : (op : PairOp) (p : Pairing) (l r : Given) → IsUnscalar l → IsUnscalar (operation op p l r)
unscalar_left op p (given.Scalar a) r is = absurd is
unscalar_left op p (given.Vector a) (given.Scalar b) is = record {}
unscalar_left op p (given.Vector a) (given.Vector b) is = record {}
unscalar_left op p (given.Vector a) (given.Selected b) is = record {}
unscalar_left op p (given.Vector a) (given.Windows b) is = record {}
unscalar_left op p (given.Vector a) (given.Words b) is = record {}
unscalar_left op p (given.Selected a) (given.Scalar b) is = record {}
unscalar_left op p (given.Selected a) (given.Vector b) is = record {}
unscalar_left op p (given.Selected a) (given.Selected b) is = record {}
unscalar_left op p (given.Selected a) (given.Windows b) is = record {}
unscalar_left op p (given.Selected a) (given.Words b) is = record {}
unscalar_left op p (given.Windows a) (given.Scalar b) is = record {}
unscalar_left op p (given.Windows a) (given.Vector b) is = record {}
unscalar_left op p (given.Windows a) (given.Selected b) is = record {}
unscalar_left op p (given.Windows a) (given.Windows b) is = record {}
unscalar_left op p (given.Windows a) (given.Words b) is = record {}
unscalar_left op p (given.Words a) (given.Scalar b) is = record {}
unscalar_left op p (given.Words a) (given.Vector b) is = record {}
unscalar_left op p (given.Words a) (given.Selected b) is = record {}
unscalar_left op p (given.Words a) (given.Windows b) is = record {}
unscalar_left op p (given.Words a) (given.Words b) is = record {}

unscalar_right : (op : PairOp) (p : Pairing) (l r : Given) → IsUnscalar r → IsUnscalar (operation op p l r)
unscalar_right op p l (given.Scalar b) is = absurd is
unscalar_right op p (given.Scalar a) (given.Vector b) is = record {}
unscalar_right op p (given.Scalar a) (given.Selected b) is = record {}
unscalar_right op p (given.Scalar a) (given.Windows b) is = record {}
unscalar_right op p (given.Scalar a) (given.Words b) is = record {}
unscalar_right op p (given.Vector a) (given.Vector b) is = record {}
unscalar_right op p (given.Vector a) (given.Selected b) is = record {}
unscalar_right op p (given.Vector a) (given.Windows b) is = record {}
unscalar_right op p (given.Vector a) (given.Words b) is = record {}
unscalar_right op p (given.Selected a) (given.Vector b) is = record {}
unscalar_right op p (given.Selected a) (given.Selected b) is = record {}
unscalar_right op p (given.Selected a) (given.Windows b) is = record {}
unscalar_right op p (given.Selected a) (given.Words b) is = record {}
unscalar_right op p (given.Windows a) (given.Vector b) is = record {}
unscalar_right op p (given.Windows a) (given.Selected b) is = record {}
unscalar_right op p (given.Windows a) (given.Windows b) is = record {}
unscalar_right op p (given.Windows a) (given.Words b) is = record {}
unscalar_right op p (given.Words a) (given.Vector b) is = record {}
unscalar_right op p (given.Words a) (given.Selected b) is = record {}
unscalar_right op p (given.Words a) (given.Windows b) is = record {}
unscalar_right op p (given.Words a) (given.Words b) is = record {}

pub unscalar_operation : (op : PairOp) (p : Pairing) (a b : Bool) (l r : Given) → (a ≡ false → IsUnscalar l) → (b ≡ false → IsUnscalar r) → (a && b) ≡ false
    → IsUnscalar (operation op p l r)
unscalar_operation op p false b l r left right off = unscalar_left op p l r (left refl)
unscalar_operation op p true false l r left right off = unscalar_right op p l r (right refl)
unscalar_operation op p true true l r left right off = absurd (cc)

pub operation_shown : (op : PairOp) (p : Pairing) (l r : Given) → operation op p (shown l) (shown r) ≡ shown (operation op p l r)
operation_shown op p (given.Scalar a) (given.Scalar b) = refl
operation_shown op p (given.Scalar a) (given.Vector b) = refl
operation_shown op p (given.Scalar a) (given.Selected b) = refl
operation_shown op p (given.Scalar a) (given.Windows b) = refl
operation_shown op p (given.Scalar a) (given.Words b) = refl
operation_shown op p (given.Vector a) (given.Scalar b) = refl
operation_shown op p (given.Vector a) (given.Vector b) = refl
operation_shown op p (given.Vector a) (given.Selected b) = refl
operation_shown op p (given.Vector a) (given.Windows b) = refl
operation_shown op p (given.Vector a) (given.Words b) = refl
operation_shown op p (given.Selected a) (given.Scalar b) = refl
operation_shown op p (given.Selected a) (given.Vector b) = refl
operation_shown op p (given.Selected a) (given.Selected b) = refl
operation_shown op p (given.Selected a) (given.Windows b) = refl
operation_shown op p (given.Selected a) (given.Words b) = refl
operation_shown op p (given.Windows a) (given.Scalar b) = refl
operation_shown op p (given.Windows a) (given.Vector b) = refl
operation_shown op p (given.Windows a) (given.Selected b) = refl
operation_shown op p (given.Windows a) (given.Windows b) = refl
operation_shown op p (given.Windows a) (given.Words b) = refl
operation_shown op p (given.Words a) (given.Scalar b) = refl
operation_shown op p (given.Words a) (given.Vector b) = refl
operation_shown op p (given.Words a) (given.Selected b) = refl
operation_shown op p (given.Words a) (given.Windows b) = refl
operation_shown op p (given.Words a) (given.Words b) = refl

pub operation_plain : (op : PairOp) (p : Pairing) (l r : Given) (t : ℤ) → IsPlain (operation op p l r) t
operation_plain op p (given.Scalar a) (given.Scalar b) t = (refl, refl, refl)
operation_plain op p (given.Scalar a) (given.Vector b) t = (refl, refl, refl)
operation_plain op p (given.Scalar a) (given.Selected b) t = (refl, refl, refl)
operation_plain op p (given.Scalar a) (given.Windows b) t = (refl, refl, refl)
operation_plain op p (given.Scalar a) (given.Words b) t = (refl, refl, refl)
operation_plain op p (given.Vector a) (given.Scalar b) t = (refl, refl, refl)
operation_plain op p (given.Vector a) (given.Vector b) t = (refl, refl, refl)
operation_plain op p (given.Vector a) (given.Selected b) t = (refl, refl, refl)
operation_plain op p (given.Vector a) (given.Windows b) t = (refl, refl, refl)
operation_plain op p (given.Vector a) (given.Words b) t = (refl, refl, refl)
operation_plain op p (given.Selected a) (given.Scalar b) t = (refl, refl, refl)
operation_plain op p (given.Selected a) (given.Vector b) t = (refl, refl, refl)
operation_plain op p (given.Selected a) (given.Selected b) t = (refl, refl, refl)
operation_plain op p (given.Selected a) (given.Windows b) t = (refl, refl, refl)
operation_plain op p (given.Selected a) (given.Words b) t = (refl, refl, refl)
operation_plain op p (given.Windows a) (given.Scalar b) t = (refl, refl, refl)
operation_plain op p (given.Windows a) (given.Vector b) t = (refl, refl, refl)
operation_plain op p (given.Windows a) (given.Selected b) t = (refl, refl, refl)
operation_plain op p (given.Windows a) (given.Windows b) t = (refl, refl, refl)
operation_plain op p (given.Windows a) (given.Words b) t = (refl, refl, refl)
operation_plain op p (given.Words a) (given.Scalar b) t = (refl, refl, refl)
operation_plain op p (given.Words a) (given.Vector b) t = (refl, refl, refl)
operation_plain op p (given.Words a) (given.Selected b) t = (refl, refl, refl)
operation_plain op p (given.Words a) (given.Windows b) t = (refl, refl, refl)
operation_plain op p (given.Words a) (given.Words b) t = (refl, refl, refl)

-- ---- windows

abbrev ruleless : Windows → Windows
ruleless windows = record windows { rules = [] }

notes_shown : (f : WindowFunction) (t : ℤ) (arg : XFrac) (w : Windows) → window_notes f t arg (ruleless w) ≡ window_notes f t arg w
notes_shown window.Rate t arg w = refl
notes_shown window.Increase t arg w = refl
notes_shown window.Delta t arg w = refl
notes_shown window.Irate t arg w = refl
notes_shown window.Idelta t arg w = refl
notes_shown window.Deriv t arg w = refl
notes_shown window.PredictLinear t arg w = refl
notes_shown window.Changes t arg w = refl
notes_shown window.Resets t arg w = refl
notes_shown window.AvgOver t arg w = refl
notes_shown window.MinOver t arg w = refl
notes_shown window.MaxOver t arg w = refl
notes_shown window.SumOver t arg w = refl
notes_shown window.CountOver t arg w = refl
notes_shown window.StdvarOver t arg w = refl
notes_shown window.QuantileOver t arg w = refl
notes_shown window.LastOver t arg w = refl
notes_shown window.PresentOver t arg w = refl

windowed_shown : (f : WindowFunction) (t : ℤ) (arg : XFrac) (w : Windows) → windowed f t arg (ruleless w) ≡ windowed f t arg w
windowed_shown f t arg w = ap (λ notes. settled (taken (with_notes w.marks notes) (map (window_outcome f t arg w) w.rows))) (notes_shown f t arg w)

with_shown : (f : WindowFunction) (t : ℤ) (scalar : Step) (w : Windows) → windowed_with f t scalar (ruleless w) ≡ windowed_with f t scalar w
with_shown f t scalar w =
    let marks = united w.marks scalar.marks in
    ap (by_value (value_in scalar) marks) (λ i. λ (arg : XFrac). windowed_shown f t arg (record w { marks = marks }) i)

-- a function of windows, as a node of a plan has it, where it takes no scalar, and where it takes one
pub over_shown : (f : WindowFunction) (t : ℤ) (arguments : List Given) (g : Given)
    → ((w : Windows) → windowed_by f t (step_at arguments 0) w ≡ windowed f t zero_number w) → window_given f t arguments (shown g) ≡ over_windows f t g
over_shown f t arguments (given.Scalar step) is = refl
over_shown f t arguments (given.Vector step) is = refl
over_shown f t arguments (given.Selected selection) is = refl
over_shown f t arguments (given.Windows w) is = is (ruleless w) ∙ windowed_shown f t zero_number w
over_shown f t arguments (given.Words text) is = refl

pub over_with_shown : (f : WindowFunction) (t : ℤ) (arguments : List Given) (g : Given)
    → ((w : Windows) → windowed_by f t (step_at arguments 0) w ≡ windowed_with f t (step_at arguments 0) w)
    → window_given f t arguments (shown g) ≡ over_windows_with f t (step_at arguments 0) g
over_with_shown f t arguments (given.Scalar step) is = refl
over_with_shown f t arguments (given.Vector step) is = refl
over_with_shown f t arguments (given.Selected selection) is = refl
over_with_shown f t arguments (given.Windows w) is = is (ruleless w) ∙ with_shown f t (step_at arguments 0) w
over_with_shown f t arguments (given.Words text) is = refl

-- ---- absent

pub absent_shown : (g : Given) → absent_under (absent_labels (rules_of g)) (shown g) ≡ absent g
absent_shown (given.Scalar step) = refl
absent_shown (given.Vector step) = refl
absent_shown (given.Selected s) = of_rows s.rows
  where
    of_rows : (rows : List Stamped) → absence_under (absent_labels s.rules) (map unstamped rows) no_marks ≡ absence s.rules rows no_marks
    of_rows [] = refl
    of_rows (row ∷ rows) = refl
absent_shown (given.Windows w) = refl
absent_shown (given.Words text) = refl

-- ---- arguments

pub at_shown : (gs : List Given) (i : ℕ) → argument (map shown gs) i ≡ shown (argument gs i)
at_shown [] zero = refl
at_shown [] (suc i) = refl
at_shown (g ∷ gs) zero = refl
at_shown (g ∷ gs) (suc i) = at_shown gs i

pub step_at_shown : (gs : List Given) (i : ℕ) → step_at (map shown gs) i ≡ step_at gs i
step_at_shown gs i = ap step_of (at_shown gs i) ∙ step_shown (argument gs i)

rounding_shown : (gs : List Given) → rounding (map shown gs) ≡ rounding gs
rounding_shown [] = refl
rounding_shown (g ∷ []) = refl
rounding_shown (g ∷ h ∷ gs) = step_shown h

pub applied_shown : (f : ElementFunction) (gs : List Given) → applied f (map shown gs) ≡ applied f gs
applied_shown element.Abs gs = ap (mapped element.Abs zero_number zero_number) (step_at_shown gs 0)
applied_shown element.Ceil gs = ap (mapped element.Ceil zero_number zero_number) (step_at_shown gs 0)
applied_shown element.Floor gs = ap (mapped element.Floor zero_number zero_number) (step_at_shown gs 0)
applied_shown element.Sgn gs = ap (mapped element.Sgn zero_number zero_number) (step_at_shown gs 0)
applied_shown (element.Calendar part) gs = ap (mapped (element.Calendar part) zero_number zero_number) (step_at_shown gs 0)
applied_shown element.Neg gs = ap (mapped element.Neg zero_number zero_number) (step_at_shown gs 0)
applied_shown element.Round gs = ap₂ (λ to s. with_scalar (λ (n : XFrac). mapped element.Round n zero_number) to s) (rounding_shown gs) (step_at_shown gs 0)
applied_shown element.Clamp gs =
    ap₂ (λ a b. with_scalars (mapped element.Clamp) a b (step_at (map shown gs) 0)) (step_at_shown gs 1) (step_at_shown gs 2)
    ∙ ap (λ s. with_scalars (mapped element.Clamp) (step_at gs 1) (step_at gs 2) s) (step_at_shown gs 0)
applied_shown element.ClampMin gs = ap₂ (λ a s. with_scalar (λ (n : XFrac). mapped element.ClampMin n zero_number) a s) (step_at_shown gs 1) (step_at_shown gs 0)
applied_shown element.ClampMax gs = ap₂ (λ a s. with_scalar (λ (n : XFrac). mapped element.ClampMax n zero_number) a s) (step_at_shown gs 1) (step_at_shown gs 0)

pub applied_first : (f : ElementFunction) (gs : List Given) → applied f (argument gs 0 ∷ drop 1 gs) ≡ applied f gs
applied_first element.Abs [] = refl
applied_first element.Ceil [] = refl
applied_first element.Floor [] = refl
applied_first element.Round [] = refl
applied_first element.Sgn [] = refl
applied_first (element.Calendar part) [] = refl
applied_first element.Neg [] = refl
applied_first element.Clamp [] = refl
applied_first element.ClampMin [] = refl
applied_first element.ClampMax [] = refl
applied_first element.Abs (g ∷ gs) = refl
applied_first element.Ceil (g ∷ gs) = refl
applied_first element.Floor (g ∷ gs) = refl
applied_first element.Round (g ∷ gs) = refl
applied_first element.Sgn (g ∷ gs) = refl
applied_first (element.Calendar part) (g ∷ gs) = refl
applied_first element.Neg (g ∷ gs) = refl
applied_first element.Clamp (g ∷ gs) = refl
applied_first element.ClampMin (g ∷ gs) = refl
applied_first element.ClampMax (g ∷ gs) = refl

pub aggregation_shown : (f : AggregateFunction) (by : Grouping) (gs : List Given) → ((f ≡ aggregate.CountValues) → ⊥) → aggregation f by (map shown gs) ≡ aggregation f by gs
aggregation_shown aggregate.Sum by gs other = ap (aggregated aggregate.Sum by zero_number []) (step_at_shown gs 0)
aggregation_shown aggregate.Avg by gs other = ap (aggregated aggregate.Avg by zero_number []) (step_at_shown gs 0)
aggregation_shown aggregate.Min by gs other = ap (aggregated aggregate.Min by zero_number []) (step_at_shown gs 0)
aggregation_shown aggregate.Max by gs other = ap (aggregated aggregate.Max by zero_number []) (step_at_shown gs 0)
aggregation_shown aggregate.Count by gs other = ap (aggregated aggregate.Count by zero_number []) (step_at_shown gs 0)
aggregation_shown aggregate.Group by gs other = ap (aggregated aggregate.Group by zero_number []) (step_at_shown gs 0)
aggregation_shown aggregate.Stdvar by gs other = ap (aggregated aggregate.Stdvar by zero_number []) (step_at_shown gs 0)
aggregation_shown aggregate.TopK by gs other = ap₂ (λ k s. with_scalar (λ (n : XFrac). aggregated aggregate.TopK by n []) k s) (step_at_shown gs 0) (step_at_shown gs 1)
aggregation_shown aggregate.BottomK by gs other = ap₂ (λ k s. with_scalar (λ (n : XFrac). aggregated aggregate.BottomK by n []) k s) (step_at_shown gs 0) (step_at_shown gs 1)
aggregation_shown aggregate.Quantile by gs other = ap₂ (λ k s. with_scalar (λ (n : XFrac). aggregated aggregate.Quantile by n []) k s) (step_at_shown gs 0) (step_at_shown gs 1)
aggregation_shown aggregate.CountValues by gs other = absurd (other refl)
