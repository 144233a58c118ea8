-- What a kernel over the store lends: at each instant the newest rows of its series. (The rule is that of the meaning; what a
-- kernel has come to is this project's own.)
use Rattle.std.specs.Prelude.{◌≡◌, ℕ, ℤ, Bool, List, [], ◌∷◌, map, Option, None, Some, int_lt, option_and_then, if◌then◌else◌, ⊤}
use Rattle.std.specs.List.{AllByRecursion, filter_map}
use Rattle.std.specs.Option.{option_map}
use Rattle.std.specs.Result.{result_ok}
use Rattle.promql_meaning.specs.Selecting.{fresh_sample, newest_rows}
use Rattle.promql_meaning.specs.declared.given.Stamped.{Stamped}
use Rattle.sample_store.specs.Samples.{AllSeries, Names, labels_at, samples_at}
use Rattle.series_marks.specs.Reaches.{numbered}
use Rattle.series_marks.specs.Reads.{Reached, Sample, mark_of}
use Rattle.series_marks.specs.declared.mark.Mark.{Mark}
use Rattle.step_batch.specs.Lent.{IsLater, Lent, no_marks, step_of}
use Rattle.step_batch.specs.LentWindows.{TimesRise}
use Rattle.step_table.specs.Timed.{StepAt}
use Rattle.ticks.specs.Walks.{moment_at}
use Rattle.ticks.specs.declared.moment.Ms.{Ms}
use Rattle.ticks.specs.declared.walk.WalkMoment.{WalkMoment}
use Rattle.window_fn.specs.Points.{in_seconds, milliseconds}
use Rattle.xfrac.specs.declared.value.XFrac.{XFrac}

-- ---- the rule

-- a sample's value, or where it is stamped its time in seconds
abbrev pub told : Bool → Ms × XFrac → Option XFrac
told stamped sample = if stamped then result_ok (in_seconds (milliseconds sample.0.0)) else Some sample.1

abbrev pub entry_under : Names → Option XFrac → Option (Names × XFrac)
entry_under names value = option_map (λ (v : XFrac). (names, v)) value

abbrev pub entry_told : Bool → Stamped → Option (Names × XFrac)
entry_told stamped row = entry_under row.labels (told stamped (row.at, row.value))

-- the step of an instant: the newest row of each series at its moment, in the order of labels
abbrev pub selected : AllSeries → List ℕ → WalkMoment → Bool → Ms → StepAt
selected store series moment stamped t =
    record { at = t; step = step_of (filter_map (entry_told stamped) (newest_rows moment.closed (moment_at moment t.0) (numbered store series))) no_marks }

-- ---- conditions

-- no number stands twice
abbrev pub AreOnce : List ℕ → Type 0
AreOnce [] = ⊤
AreOnce (s ∷ series) = AllByRecursion (λ (u : ℕ). s ≡ u → ⊥) series × AreOnce series

-- ---- what a kernel has come to

abbrev pub marks_of : Reached → AllSeries → List ℕ → List Mark
marks_of reached store series = map (λ s. mark_of reached (samples_at store s)) series

abbrev pub names_of : AllSeries → List ℕ → List Names
names_of store series = map (labels_at store) series

-- once it has begun, the labels of its series stand at their places
abbrev pub AreNamed : Reached → List Names → AllSeries → List ℕ → Type 0
AreNamed None labels store series = ⊤
AreNamed (Some r) labels store series = labels ≡ names_of store series

-- ---- one instant

-- the value that a mark shows, if its last sample is later than an edge and is no marker
abbrev pub shown : Bool → ℤ → Option Sample → Option XFrac
shown stamped edge None = None
shown stamped edge (Some x) = if int_lt edge x.0.0 then option_and_then (told stamped) (fresh_sample x) else None

abbrev pub entry_shown : AllSeries → Bool → Reached → ℤ → ℕ → Option (Names × XFrac)
entry_shown store stamped reached edge s = entry_under (labels_at store s) (shown stamped edge (mark_of reached (samples_at store s)).last)

-- ---- instants that rise, behind those of a buffer

abbrev pub InstantsFrom : Lent → List Ms → Type 0
InstantsFrom lent [] = ⊤
InstantsFrom lent (t ∷ ts) = IsLater lent t × TimesRise (t ∷ ts)
