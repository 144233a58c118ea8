-- The values of selectors and subqueries.
use Rattle.std.proofs.Common.{ℕ, Bool, List, [], ◌∷◌, Option, Some, None, inl}
use Rattle.std.specs.Prelude.{ℤ, ◌-ℤ◌, IfSome, ◌&&◌, int_le}
use Rattle.std.specs.List.{AllByRecursion, last_or}
use Rattle.std.specs.Option.{option_and_then, option_map}
use Rattle.label_set.specs.Entries.{all_insert, recursion_filter}
use Rattle.label_set.specs.LabelOrder.{by_labels}
use Rattle.label_set.specs.Labels.{labels_cmp}
use Rattle.label_set.specs.declared.rules.Rule.{Rule}
use Rattle.match_rule.specs.Patterns.{labels_pass}
use Rattle.step_table.specs.Groups.{Names, gathered}
use Rattle.step_table.specs.Timed.{rows_of_steps, steps_over, timed}
use Rattle.step_table.specs.declared.step.Row.{Row}
use Rattle.step_table.specs.declared.step.Step.{Step}
use Rattle.step_table.specs.declared.windows.WindowRow.{WindowRow}
use Rattle.ticks.specs.Edges.{is_from}
use Rattle.ticks.specs.declared.moment.Ms.{Ms}
use Rattle.xfrac.specs.declared.value.Held.{Held}
use Rattle.xfrac.specs.declared.value.Held.TheVariants.{Value, Stale}
use Rattle.xfrac.specs.declared.value.XFrac.{XFrac}
use Rattle.promql_meaning.specs.declared.given.Stamped.{Stamped}
use Rattle.promql_meaning.specs.Selecting.{AllSeries, Samples, between, fresh_sample, lookback, newest, newest_row, newest_rows, passing, series_window, window, window_row, window_rows}
use Rattle.promql_meaning.specs.Subqueries.{gathered_windows, group_window}
use Rattle.meaning_laws.specs.ValueLaws.{HasValues, HaveSamples, IsSample}
use Rattle.meaning_laws.proofs.Operations.{V}
use Rattle.meaning_laws.proofs.Rows.{R, gathered_all, joined_all, made_all, mapped_all}

abbrev IsSeries : Names × Samples → Type 0
IsSeries series = AllByRecursion IsSample series.1

abbrev pub IsWindow : WindowRow → Type 0
IsWindow row = AllByRecursion V row.values

abbrev IsFresh : Ms × XFrac → Type 0
IsFresh sample = V sample.1

in_order : (all : AllSeries) → HaveSamples all → HaveSamples (by_labels all)
in_order [] h = tt
in_order (series ∷ all) h = all_insert labels_cmp IsSeries series.0 series.1 (by_labels all) h.0 (λ e k. h.0) (in_order all h.1)

pub passing_have : (all : AllSeries) (kept : List (Bool × List ℕ)) (rules : List Rule) → HaveSamples all → HaveSamples (passing all kept rules)
passing_have all kept rules h = recursion_filter IsSeries (λ (s : Names × Samples). labels_pass kept rules s.0) (by_labels all) (in_order all h)

fresh_is : (sample : Ms × Held) → IsSample sample → IfSome (fresh_sample sample) IsFresh
fresh_is (at, Value value) h = inl h
fresh_is (at, Stale) h = tt

between_are : (closed : Bool) (edge m : ℤ) (samples : Samples) → AllByRecursion IsSample samples → AllByRecursion IsSample (between closed edge m samples)
between_are closed edge m samples h = recursion_filter IsSample (λ (s : Ms × Held). is_from closed edge s.0.0 && int_le s.0.0 m) samples h

last_is : (o : Option (Ms × Held)) (samples : Samples) → IfSome o IsSample → AllByRecursion IsSample samples → IfSome (last_or o samples) IsSample
last_is o [] h k = h
last_is o (s ∷ samples) h k = last_is (Some s) samples k.0 k.1

newest_is : (closed : Bool) (m : ℤ) (samples : Samples) → AllByRecursion IsSample samples → IfSome (newest closed m samples) IsFresh
newest_is closed m samples h = by (last_or None (between closed (m -ℤ lookback) m samples)) (last_is None (between closed (m -ℤ lookback) m samples) tt (between_are closed (m -ℤ lookback) m samples h))
  where
    by : (o : Option (Ms × Held)) → IfSome o IsSample → IfSome (option_and_then fresh_sample o) IsFresh
    by None k = tt
    by (Some s) k = fresh_is s k

pub newest_have : (closed : Bool) (m : ℤ) (all : AllSeries) → HaveSamples all → AllByRecursion (λ (row : Stamped). V row.value) (newest_rows closed m all)
newest_have closed m all h = made_all (λ (row : Stamped). V row.value) IsSeries (newest_row closed m) (λ series k. by series (newest closed m series.1) (newest_is closed m series.1 k)) all h
  where
    by : (series : Names × Samples) (o : Option (Ms × XFrac)) → IfSome o IsFresh → IfSome (option_map (λ (s : Ms × XFrac). record { labels = series.0; at = s.0; value = s.1 }) o) (λ (row : Stamped). V row.value)
    by series None k = tt
    by series (Some s) k = k

window_is : (names : Names) (samples : List (Ms × XFrac)) → AllByRecursion IsFresh samples → IfSome (window_row names samples) IsWindow
window_is names [] h = tt
window_is names (s ∷ samples) h = (h.0, mapped_all V IsFresh (λ (x : Ms × XFrac). x.1) (λ x k. k) samples h.1)

pub windows_have : (closed : Bool) (m range : ℤ) (all : AllSeries) → HaveSamples all → AllByRecursion IsWindow (window_rows closed m range all)
windows_have closed m range all h =
    made_all IsWindow IsSeries (series_window closed m range)
    (λ series k. window_is series.0 (window closed m range series.1) (made_all IsFresh IsSample fresh_sample fresh_is (between closed (m -ℤ range) m series.1) (between_are closed (m -ℤ range) m series.1 k))) all h

-- ---- subqueries

abbrev IsTimed : Names × (Ms × XFrac) → Type 0
IsTimed row = V row.1.1

rows_have : (inner : ℤ → Step) → ((u : ℤ) → HasValues (inner u)) → (us : List Ms) → AllByRecursion IsTimed (rows_of_steps (steps_over inner us))
rows_have inner each [] = tt
rows_have inner each (u ∷ us) =
    joined_all IsTimed (timed u (inner u.0)) (rows_of_steps (steps_over inner us)) (mapped_all IsTimed R (λ (row : Row). (row.labels, (u, row.value))) (λ row k. k) (inner u.0).table.rows (each u.0)) (rows_have inner each us)

pub points_have : (inner : ℤ → Step) → ((u : ℤ) → HasValues (inner u)) → (us : List Ms) → AllByRecursion IsWindow (gathered_windows (rows_of_steps (steps_over inner us)))
points_have inner each us =
    made_all IsWindow (λ (g : Names × List (Ms × XFrac)). AllByRecursion IsFresh g.1) group_window (λ g k. window_is g.0 g.1 k) (gathered (rows_of_steps (steps_over inner us)))
    (gathered_all IsFresh (rows_of_steps (steps_over inner us)) (rows_have inner each us))
