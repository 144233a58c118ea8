-- What selectors give. (Prometheus querying, "Time series selectors", "Offset modifier", "@ modifier" and "Staleness"; ranges
-- are open on the left as from Prometheus 3 on, or closed as before.)
use Rattle.std.specs.Prelude.{ℕ, Bool, ◌&&◌, List, [], ◌∷◌, filter, map, Option, None, Some, ℤ, pos, ◌-ℤ◌, int_le}
use Rattle.std.specs.List.{filter_map, last_or}
use Rattle.std.specs.Option.{option_map, option_and_then}
use Rattle.label_set.specs.LabelOrder.{by_labels}
use Rattle.label_set.specs.declared.rules.Rule.{Rule}
use Rattle.match_rule.specs.Patterns.{labels_pass}
use Rattle.promql_ast.specs.declared.tree.Fixed.{Fixed}
use Rattle.promql_ast.specs.declared.tree.Fixed.TheVariants.{At, Start, End}
use Rattle.promql_ast.specs.declared.tree.Moment.{Moment}
use Rattle.promql_ast.specs.declared.tree.Selector.{Selector}
use Rattle.step_table.specs.Groups.{Names}
use Rattle.step_table.specs.declared.windows.WindowRow.{WindowRow}
use Rattle.ticks.specs.Edges.{is_from}
use Rattle.ticks.specs.declared.grid.Grid.{Grid}
use Rattle.ticks.specs.declared.moment.Ms.{Ms}
use Rattle.xfrac.specs.declared.value.Held.{Held}
use Rattle.xfrac.specs.declared.value.Held.TheVariants.{Value, Stale}
use Rattle.xfrac.specs.declared.value.XFrac.{XFrac}
use Rattle.promql_meaning.specs.declared.given.Stamped.{Stamped}

-- the samples of a series in rising time, and all series with their labels, no two with equal labels
abbrev pub Samples : Type 0
Samples = List (Ms × Held)

abbrev pub AllSeries : Type 0
AllSeries = List (Names × Samples)

-- what a query is asked over: the samples, the patterns by their numbers, and the ends of the query's own grid; and where engines hold
-- the samples in parts, what each of them holds
pub record Asked : Type 0 where
  pub samples : AllSeries
  pub kept : List (Bool × List ℕ)
  pub start : ℤ
  pub end : ℤ
  pub engines : List AllSeries

abbrev pub asked_over : AllSeries → List (Bool × List ℕ) → Grid → Asked
asked_over samples kept grid = record { samples = samples; kept = kept; start = grid.start.0; end = grid.end.0; engines = [] }

-- ---- the moment

-- the fixed time of `@`, if there is one, or the instant
abbrev pub base_of : ℤ → ℤ → ℤ → Option Fixed → ℤ
base_of start end t None = t
base_of start end t (Some (At at)) = at.0
base_of start end t (Some Start) = start
base_of start end t (Some End) = end

-- that, less the offset, wherever the offset stands
abbrev pub moment_of : Asked → Moment → ℤ → ℤ
moment_of asked moment t = base_of asked.start asked.end t moment.fixed -ℤ moment.offset.0

-- ---- one series

-- how far an instant selector looks back: five minutes, in milliseconds
abbrev pub lookback : ℤ
lookback = pos 300000

-- the samples later than a left edge, or on it where it is closed, and not later than a moment
abbrev pub between : Bool → ℤ → ℤ → Samples → Samples
between closed edge m samples = filter (λ (s : Ms × Held). is_from closed edge s.0.0 && int_le s.0.0 m) samples

-- the value of a sample that is no marker of staleness
abbrev pub fresh : Held → Option XFrac
fresh (Value value) = Some value
fresh Stale = None

abbrev pub fresh_sample : Ms × Held → Option (Ms × XFrac)
fresh_sample sample = option_map (λ (value : XFrac). (sample.0, value)) (fresh sample.1)

-- the last sample in the five minutes up to a moment; there is none where that last one is a marker of staleness
abbrev pub newest : Bool → ℤ → Samples → Option (Ms × XFrac)
newest closed m samples = option_and_then fresh_sample (last_or None (between closed (m -ℤ lookback) m samples))

-- the samples in the range up to a moment that are no markers of staleness
abbrev pub window : Bool → ℤ → ℤ → Samples → List (Ms × XFrac)
window closed m range samples = filter_map fresh_sample (between closed (m -ℤ range) m samples)

-- ---- all series that pass

-- the series whose labels pass all rules, in the order of their labels
abbrev pub passing : AllSeries → List (Bool × List ℕ) → List Rule → AllSeries
passing samples kept rules = filter (λ (s : Names × Samples). labels_pass kept rules s.0) (by_labels samples)

-- a series' newest sample at a moment, under the labels of the series
abbrev pub newest_row : Bool → ℤ → Names × Samples → Option Stamped
newest_row closed m series = option_map (λ (s : Ms × XFrac). record { labels = series.0; at = s.0; value = s.1 }) (newest closed m series.1)

-- the newest samples of some series at a moment
abbrev pub newest_rows : Bool → ℤ → AllSeries → List Stamped
newest_rows closed m series = filter_map (newest_row closed m) series

-- an instant selector: the newest sample of each series that passes and has one
abbrev pub selected : Asked → Selector → ℤ → List Stamped
selected asked selector t =
    newest_rows selector.moment.closed (moment_of asked selector.moment t) (passing asked.samples asked.kept selector.rules)

-- the times of samples, and their values
abbrev pub sample_times : List (Ms × XFrac) → List Ms
sample_times samples = map (λ (s : Ms × XFrac). s.0) samples

abbrev pub sample_values : List (Ms × XFrac) → List XFrac
sample_values samples = map (λ (s : Ms × XFrac). s.1) samples

-- samples under their labels, their times beside their values; there is no window of no samples
abbrev pub window_row : Names → List (Ms × XFrac) → Option WindowRow
window_row names [] = None
window_row names (sample ∷ samples) =
    Some (record { labels = names; times = sample_times (sample ∷ samples); values = sample_values (sample ∷ samples) })

abbrev pub series_window : Bool → ℤ → ℤ → Names × Samples → Option WindowRow
series_window closed m range series = window_row series.0 (window closed m range series.1)

-- the windows of some series at a moment
abbrev pub window_rows : Bool → ℤ → ℤ → AllSeries → List WindowRow
window_rows closed m range series = filter_map (series_window closed m range) series

-- a range selector: the window of each series that passes and has a sample in it
abbrev pub selected_windows : Asked → Selector → ℤ → ℤ → List WindowRow
selected_windows asked selector range t =
    window_rows selector.moment.closed (moment_of asked selector.moment t) range (passing asked.samples asked.kept selector.rules)
