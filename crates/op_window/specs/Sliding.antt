-- Windows whose samples come once and go once, in two columns. (This project's own.)
use Rattle.std.specs.Prelude.{◌≡◌, ◌<ℤ◌, ◌++◌, ℕ, ℤ, pos, Bool, List, [], ◌∷◌, map, int_lt, Some, None, if◌then◌else◌}
use Rattle.op_window.specs.declared.renew.SeriesWindow.{SeriesWindow}
use Rattle.op_window.specs.declared.renew.Span.{Span}
use Rattle.promql_meaning.specs.Selecting.{sample_times, sample_values, window}
use Rattle.sample_store.specs.Samples.{AllSeries, Samples, labels_at, samples_at}
use Rattle.series_marks.specs.Reaches.{edge_at, moment_of, window_edge}
use Rattle.series_marks.specs.Reads.{Reached, mark_of}
use Rattle.step_batch.specs.Columns.{Columns}
use Rattle.step_table.specs.Groups.{Names}
use Rattle.ticks.specs.declared.moment.Ms.{Ms}
use Rattle.ticks.specs.declared.walk.WalkMoment.{WalkMoment}
use Rattle.xfrac.specs.declared.value.XFrac.{XFrac}

-- samples that are no markers
abbrev pub Fresh : Type 0
Fresh = List (Ms × XFrac)

abbrev pub columns_of : Fresh → Columns
columns_of fresh = record { times = sample_times fresh; values = sample_values fresh }

-- columns with samples more at their ends
abbrev pub with_samples : Columns → Fresh → Columns
with_samples columns fresh = record { times = columns.times ++ sample_times fresh; values = columns.values ++ sample_values fresh }

-- the samples that are later than an edge, where times rise
abbrev pub behind : ℤ → Fresh → Fresh
behind edge [] = []
behind edge (s ∷ fresh) = if int_lt edge s.0.0 then s ∷ fresh else behind edge fresh

-- ---- spans

-- the window of an instant
abbrev pub span_at : WalkMoment → Ms → Ms → Span
span_at moment range t = record { moment = moment_of moment t; range = range; closed = moment.closed; edge = edge_at range.0 moment t }

-- the edge of a span is the last time before it, and it has a length
pub record IsSpan (span : Span) : Type 0 where
  pub edge : span.edge.0 ≡ window_edge span.closed span.range.0 span.moment.0
  pub range : pos 0 <ℤ span.range.0

-- ---- where a kernel has come to

-- the window of a series at the moment that was reached
abbrev pub window_of : Bool → ℤ → Reached → Samples → Fresh
window_of closed range None samples = []
window_of closed range (Some r) samples = window closed r.1.0 range samples

abbrev pub walked_at : Bool → ℤ → Reached → Samples → SeriesWindow
walked_at closed range reached samples = record { mark = mark_of reached samples; samples = columns_of (window_of closed range reached samples) }

-- of all series
abbrev pub all_walked : Bool → ℤ → Reached → AllSeries → List ℕ → List SeriesWindow
all_walked closed range reached store series = map (λ s. walked_at closed range reached (samples_at store s)) series

-- the windows of all series, and the labels that they were named by
pub record Walked : Type 0 where
  pub windows : List SeriesWindow
  pub named : List Names

-- before the first instant no labels count
abbrev pub named_once : Reached → List Names → List Names
named_once None names = []
named_once (Some r) names = names

abbrev pub walked_of : Bool → ℤ → Reached → AllSeries → List ℕ → Walked
walked_of closed range reached store series = record { windows = all_walked closed range reached store series; named = named_once reached (map (labels_at store) series) }
