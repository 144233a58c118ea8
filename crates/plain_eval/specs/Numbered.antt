-- The rows of series by their numbers. (Our own.)
use Rattle.std.specs.Prelude.{ℕ, ℤ, Bool, not, List, Option, slice_get, int_lt, filter}
use Rattle.std.specs.List.{filter_map}
use Rattle.std.specs.Option.{option_and_then}
use Rattle.step_table.specs.declared.windows.WindowRow.{WindowRow}
use Rattle.ticks.specs.declared.moment.Ms.{Ms}
use Rattle.xfrac.specs.declared.value.Held.{Held}
use Rattle.xfrac.specs.declared.value.XFrac.{XFrac}
use Rattle.promql_meaning.specs.Selecting.{AllSeries, Samples, fresh_sample, newest_row, series_window}
use Rattle.promql_meaning.specs.declared.given.Stamped.{Stamped}

-- the samples that are not later than a time
abbrev pub until : ℤ → Samples → Samples
until m samples = filter (λ (s : Ms × Held). not (int_lt m s.0.0)) samples

-- those of them that are no markers of staleness
abbrev pub fresh_until : ℤ → Samples → List (Ms × XFrac)
fresh_until m samples = filter_map fresh_sample (until m samples)

-- the row of the series with a number, and its window
abbrev pub row_numbered : Bool → ℤ → AllSeries → ℕ → Option Stamped
row_numbered closed m all number = option_and_then (newest_row closed m) (slice_get all number)

abbrev pub window_numbered : Bool → ℤ → ℤ → AllSeries → ℕ → Option WindowRow
window_numbered closed m range all number = option_and_then (series_window closed m range) (slice_get all number)
