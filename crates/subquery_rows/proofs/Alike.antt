-- What a function gives of windows doesn't depend on their order.
use Rattle.std.proofs.Common.{◌≡◌, ◌∙◌, List, [], map, refl, ap}
use Rattle.std.specs.Prelude.{ℤ}
use Rattle.std.specs.List.{AllByRecursion, filter_map}
use Rattle.func_table.specs.declared.table.Window.{Window}
use Rattle.func_table.specs.declared.table.Window.TheVariants.{PredictLinear, QuantileOver}
use Rattle.promql_meaning.specs.Givens.{by_value, value_in}
use Rattle.promql_meaning.specs.Meaning.{windowed_by, windowed_with, zero_number}
use Rattle.promql_meaning.specs.Outcomes.{range_notes_of, with_notes}
use Rattle.promql_meaning.specs.Ranges.{counter_note, window_notes, window_outcome, windowed}
use Rattle.promql_meaning.specs.declared.given.Windows.{Windows}
use Rattle.step_table.specs.Outcomes.{settled, taken}
use Rattle.step_table.specs.Shuffles.{OutcomesIgnoreOrder, Shuffled, none, kept, swapped, joined}
use Rattle.step_table.specs.Shuffling.{chosen_shuffled, mapped_shuffled, notes_shuffled}
use Rattle.step_table.specs.Unions.{united}
use Rattle.step_table.specs.declared.marks.Marks.{Marks}
use Rattle.step_table.specs.declared.marks.Note.{Note}
use Rattle.step_table.specs.declared.step.Step.{Step}
use Rattle.step_table.specs.declared.windows.WindowRow.{WindowRow}
use Rattle.ticks.specs.declared.moment.Ms.{Ms}
use Rattle.xfrac.specs.declared.value.XFrac.{XFrac}

-- what holds of windows holds of them in another order
pub all_shuffled : (P : WindowRow → Type 0) (xs ys : List WindowRow) → Shuffled xs ys → AllByRecursion P ys → AllByRecursion P xs
all_shuffled P _ _ none a = tt
all_shuffled P _ _ (kept x xs ys s) a = (a.0, all_shuffled P xs ys s a.1)
all_shuffled P _ _ (swapped x y xs) a = (a.1.0, (a.0, a.1.1))
all_shuffled P _ _ (joined xs ys zs s t) a = all_shuffled P xs ys s (all_shuffled P ys zs t a)

-- whether there is a window
quantile_notes : (arg : XFrac) (xs ys : List WindowRow) → Shuffled xs ys → range_notes_of arg xs ≡ range_notes_of arg ys
quantile_notes arg _ _ none = refl
quantile_notes arg _ _ (kept x xs ys s) = refl
quantile_notes arg _ _ (swapped x y xs) = refl
quantile_notes arg _ _ (joined xs ys zs s t) = quantile_notes arg xs ys s ∙ quantile_notes arg ys zs t

module _ (moment range : Ms) where
  -- windows at a moment
  abbrev pub windows_with : List WindowRow → Marks → Windows
  windows_with rows marks = record { moment = moment; range = range; rules = []; rows = rows; marks = marks }

  module _ (t : ℤ) (xs ys : List WindowRow) (s : Shuffled xs ys) where
    notes_alike : (f : Window) (arg : XFrac) (marks : Marks) → with_notes marks (window_notes f t arg (windows_with xs marks)) ≡ with_notes marks (window_notes f t arg (windows_with ys marks))
    notes_alike QuantileOver arg marks = ap (with_notes marks) (quantile_notes arg xs ys s)
    notes_alike f arg marks =
        ap (λ (ns : List Note). united marks (record { fatal = []; notes = ns }))
        (notes_shuffled (filter_map (counter_note f t arg (windows_with xs marks)) xs) (filter_map (counter_note f t arg (windows_with ys marks)) ys) (chosen_shuffled (counter_note f t arg (windows_with ys marks)) xs ys s))

    windowed_alike : OutcomesIgnoreOrder → (f : Window) (arg : XFrac) (marks : Marks) → windowed f t arg (windows_with xs marks) ≡ windowed f t arg (windows_with ys marks)
    windowed_alike law f arg marks =
        ap (λ (ms : Marks). settled (taken ms (map (window_outcome f t arg (windows_with xs marks)) xs))) (notes_alike f arg marks)
        ∙ law (with_notes marks (window_notes f t arg (windows_with ys marks))) (map (window_outcome f t arg (windows_with xs marks)) xs) (map (window_outcome f t arg (windows_with ys marks)) ys)
        (mapped_shuffled (window_outcome f t arg (windows_with ys marks)) xs ys s)

    scalar_alike : OutcomesIgnoreOrder → (f : Window) (scalar : Step) (marks : Marks) → windowed_with f t scalar (windows_with xs marks) ≡ windowed_with f t scalar (windows_with ys marks)
    scalar_alike law f scalar marks =
        let all = united marks scalar.marks in
        ap (λ (give : XFrac → Step). by_value (value_in scalar) all give) (λ i arg. windowed_alike law f arg all i)

    -- a function of windows in another order
    pub by_alike : OutcomesIgnoreOrder → (f : Window) (scalar : Step) (marks : Marks) → windowed_by f t scalar (windows_with xs marks) ≡ windowed_by f t scalar (windows_with ys marks)
    by_alike law PredictLinear scalar marks = scalar_alike law PredictLinear scalar marks
    by_alike law QuantileOver scalar marks = scalar_alike law QuantileOver scalar marks
    by_alike law f scalar marks = windowed_alike law f zero_number marks
