-- Scalars have one row at most, and marks are sets.
use Rattle.std.proofs.Common.{Bool, true, false, List, Option, None, Some, refl, arith}
use Rattle.std.specs.Prelude.{IsTrue, ◌&&◌, ◌||◌}
use Rattle.std.specs.List.Sorted.{IsStrictlySortedBy}
use Rattle.label_set.specs.declared.rules.Rule.{Rule}
use Rattle.op_small.specs.Rules.{small}
use Rattle.op_labels.specs.Rules.{Kept}
use Rattle.op_window.specs.Rules.{windows_of_lent, windows_of_series}
use Rattle.promql_meaning.specs.Givens.{barren, no_marks}
use Rattle.promql_meaning.specs.Subqueries.{points_of}
use Rattle.step_kernels.specs.Laws.{BinariesKeepSets, BinariesStayScalars, ElementsKeepSets, PointsKeepSets, UnariesKeepSets, UnariesMakeScalars, UnariesStayScalars, WindowsKeepSets, binary_keeps_scalars, unary_keeps_scalars, unary_makes_scalars}
use Rattle.step_kernels.specs.declared.unary.UnaryRule.TheVariants as unary
use Rattle.step_batch.specs.LentWindows.{WindowsAt}
use Rattle.step_table.specs.WellFormed.{AreSets}
use Rattle.ticks.specs.Walks.{moment_at}
use Rattle.plan_tree.specs.Laws.{MarksAreSets, ScalarsHaveOneRow}
use Rattle.plan_tree.specs.Shapes.{BinaryOf, ClampOf, GatherOf, InstantsOf, OnceOf, PointsOf, SelectOf, SeriesOf, UnaryOf, WindowsOf, is_scalar, passing, rule}

first_of : (a b : Bool) → IsTrue (a && b) → IsTrue a
first_of true b h = refl
first_of false b h = absurd (cc)

second_of : (a b : Bool) → IsTrue (a && b) → IsTrue b
second_of true b h = h
second_of false b h = absurd (cc)

by_either : {P : Type 0} (a b : Bool) → (IsTrue a → P) → (IsTrue b → P) → IsTrue (a || b) → P
by_either true b f g h = f refl
by_either false b f g h = g h

pub one_row : UnariesStayScalars → BinariesStayScalars → UnariesMakeScalars → ScalarsHaveOneRow
one_row stay both make w kept (InstantsOf one) t h = stay kept (unary.Small one) t (barren no_marks) refl (omega arith)
one_row stay both make w kept (SelectOf series moment stamped) t h = absurd (cc)
one_row stay both make w kept (SeriesOf series f moment range scalar) t h = absurd (cc)
one_row stay both make w kept (UnaryOf one rows) t h =
    by_either (unary_makes_scalars one) (unary_keeps_scalars one && is_scalar rows) (make kept one t (rule w kept rows t))
    (λ k. stay kept one t (rule w kept rows t) (first_of (unary_keeps_scalars one) (is_scalar rows) k) (one_row stay both make w kept rows t (second_of (unary_keeps_scalars one) (is_scalar rows) k))) h
one_row stay both make w kept (BinaryOf one rows beside) t h =
    both one (rule w kept rows t) (rule w kept beside t) (first_of (binary_keeps_scalars one) (is_scalar rows) h)
    (one_row stay both make w kept rows t (second_of (binary_keeps_scalars one) (is_scalar rows) h))
one_row stay both make w kept (ClampOf one rows low high) t h = absurd (cc)
one_row stay both make w kept (PointsOf f walk moment range step inner scalar) t h = absurd (cc)
one_row stay both make w kept (OnceOf first child) t h = one_row stay both make w kept child first.0 h
one_row stay both make w kept (GatherOf place) t h = absurd (cc)
one_row stay both make w kept (WindowsOf place f moment range rules scalar) t h = absurd (cc)

no_sets : AreSets no_marks
unfolding IsStrictlySortedBy
no_sets = record { fatal = tt; notes = tt }

-- windows that pass keep their marks
passing_sets : (kept : Kept) (rules : Option (List Rule)) (windows : WindowsAt) → AreSets windows.marks → AreSets (passing kept rules windows).marks
passing_sets kept None windows h = h
passing_sets kept (Some rules) windows h = h

pub are_sets : UnariesKeepSets → BinariesKeepSets → ElementsKeepSets → WindowsKeepSets → PointsKeepSets → MarksAreSets
are_sets one two three four five w kept (InstantsOf small) t h = one kept (unary.Small small) t (barren no_marks) no_sets
are_sets one two three four five w kept (SelectOf series moment stamped) t h = no_sets
are_sets one two three four five w kept (SeriesOf series f moment range scalar) t h =
    four f t (rule w kept scalar t) (windows_of_series w.samples series moment range (record { 0 = t })) (are_sets one two three four five w kept scalar t h) no_sets
are_sets one two three four five w kept (UnaryOf made rows) t h = one kept made t (rule w kept rows t) (are_sets one two three four five w kept rows t h)
are_sets one two three four five w kept (BinaryOf made rows beside) t h =
    two made (rule w kept rows t) (rule w kept beside t) (are_sets one two three four five w kept rows t h) (are_sets one two three four five w kept beside t h)
are_sets one two three four five w kept (ClampOf made rows low high) t h =
    three made (rule w kept low t) (rule w kept high t) (rule w kept rows t) (are_sets one two three four five w kept low t h) (are_sets one two three four five w kept high t h) (are_sets one two three four five w kept rows t h)
are_sets one two three four five w kept (PointsOf f walk moment range step inner scalar) t h =
    four f t (rule w kept scalar t) (points_of moment.closed (rule w kept inner) range step (moment_at moment t)) (are_sets one two three four five w kept scalar t h)
    (five moment.closed (rule w kept inner) range step (moment_at moment t) (λ u. are_sets one two three four five w kept inner u h))
are_sets one two three four five w kept (OnceOf first child) t h = are_sets one two three four five w kept child first.0 h
are_sets one two three four five w kept (GatherOf place) t h = (h place t).step
are_sets one two three four five w kept (WindowsOf place f moment range rules scalar) t h =
    four f t (rule w kept scalar t) (windows_of_lent (passing kept rules (w.gathers place t).windows) moment range (record { 0 = t })) (are_sets one two three four five w kept scalar t h)
    (passing_sets kept rules (w.gathers place t).windows (h place t).windows)
