-- How far a kernel over the store has come when it was fed instants, each with a window that reaches back from its moment by a
-- length; how much it has read by then, and the bound of that. (This project's own.)
use Rattle.std.specs.Prelude.{◌+◌, ◌*◌, ◌<◌, ◌≤◌, ◌≤ℤ◌, ◌-ℤ◌, ℕ, ℤ, Bool, List, [], ◌∷◌, ◌++◌, length, slice_get, sum_by, None, Some, ⊤}
use Rattle.std.specs.List.{AllByRecursion, filter_map}
use Rattle.sample_store.specs.Samples.{AllSeries, samples_at}
use Rattle.series_marks.specs.Reads.{AreRising, IsNoEarlier, Reached, edge_of, probes_of, read_of, span_bound}
use Rattle.ticks.specs.Edges.{before}
use Rattle.ticks.specs.Walks.{IsTime, moment_at}
use Rattle.ticks.specs.declared.moment.Ms.{Ms}
use Rattle.ticks.specs.declared.walk.WalkMoment.{WalkMoment}

-- the series with some numbers
abbrev pub numbered : AllSeries → List ℕ → AllSeries
numbered store series = filter_map (slice_get store) series

-- ---- what a kernel has come to

-- the last time before the window that reaches back from a moment
abbrev pub window_edge : Bool → ℤ → ℤ → ℤ
window_edge closed back m = before closed (m -ℤ back)

-- the moment of an instant
abbrev pub moment_of : WalkMoment → Ms → Ms
moment_of moment t = record { 0 = moment_at moment t.0 }

-- the last time before the window of an instant
abbrev pub edge_at : ℤ → WalkMoment → Ms → Ms
edge_at back moment t = record { 0 = window_edge moment.closed back (moment_at moment t.0) }

-- an instant more: the edge of the first one's window stays, and the moment goes on
abbrev pub reach : ℤ → Reached → WalkMoment → Ms → Reached
reach back reached moment t = Some (edge_of reached (edge_at back moment t), moment_of moment t)

abbrev pub reach_all : ℤ → Reached → WalkMoment → List Ms → Reached
reach_all back reached moment [] = reached
reach_all back reached moment (t ∷ ts) = reach_all back (reach back reached moment t) moment ts

-- the first window's edge isn't behind that of the last moment's window
abbrev pub IsReached : Bool → ℤ → Reached → Type 0
IsReached closed back None = ⊤
IsReached closed back (Some r) = r.0.0 ≤ℤ window_edge closed back r.1.0

-- ---- conditions

abbrev pub AreThere : AllSeries → List ℕ → Type 0
AreThere store series = AllByRecursion (λ (s : ℕ). s < length store) series

-- the moment of an instant isn't before those that were reached, and its window lies within the times
abbrev pub IsSoon : ℤ → Reached → WalkMoment → Ms → Type 0
IsSoon back reached moment t = IsNoEarlier reached (moment_of moment t) × IsTime (moment_at moment t.0) × IsTime (moment_at moment t.0 -ℤ back)

abbrev pub Follow : ℤ → Reached → WalkMoment → List Ms → Type 0
Follow back reached moment [] = ⊤
Follow back reached moment (t ∷ ts) = IsSoon back reached moment t × Follow back (reach back reached moment t) moment ts

-- ---- how much was read

-- how many samples of all series were read at most, and how many times were looked at
abbrev pub reads_of : Reached → AllSeries → List ℕ → ℕ
reads_of reached store series = sum_by (λ s. read_of reached (samples_at store s)) series

abbrev pub searches_of : Reached → List ℕ → ℕ
searches_of reached series = probes_of reached * length series

-- ---- the bound of a leaf of a plan

-- the last of some instants
abbrev pub last_instant : Ms → List Ms → Ms
last_instant t [] = t
last_instant t (u ∷ ts) = last_instant u ts

-- the samples in the span from the left edge of the first instant's window to the last moment, and for each series one more where
-- none stands at the span's right end; of no instants none
abbrev pub fetched_bound : ℤ → AllSeries → List ℕ → WalkMoment → List Ms → ℕ
fetched_bound back store series moment [] = 0
fetched_bound back store series moment (t ∷ ts) =
    sum_by (λ s. span_bound (edge_at back moment t).0 (moment_at moment (last_instant t ts).0) (samples_at store s)) series

abbrev pub probed_bound : List ℕ → ℕ
probed_bound series = 64 * length series

-- the instants of all feeds
abbrev pub fed : List (List Ms) → List Ms
fed [] = []
fed (at ∷ feeds) = at ++ fed feeds

-- a count rises from feed to feed by no more than what a kernel has read, or looked at, more; the last feed may have failed
abbrev pub RisesBy : (Reached → ℕ) → ℤ → WalkMoment → Reached → List (List Ms) → ℕ → ℕ → Type 0
RisesBy spent back moment reached [] was now = now ≤ was
RisesBy spent back moment reached (at ∷ feeds) was now =
    (mid : ℕ) × (mid + spent reached ≤ was + spent (reach_all back reached moment at)) × RisesBy spent back moment (reach_all back reached moment at) feeds mid now

-- over any list of feeds no more is read, or looked at, than the bound says
abbrev pub FetchedIsBounded : ℤ → Type 0
FetchedIsBounded back =
    (store : AllSeries) (series : List ℕ) (moment : WalkMoment) (feeds : List (List Ms)) (was now : ℕ) → AreRising store → Follow back None moment (fed feeds)
    → RisesBy (λ (r : Reached). reads_of r store series) back moment None feeds was now → now ≤ was + fetched_bound back store series moment (fed feeds)

abbrev pub ProbedIsBounded : ℤ → Type 0
ProbedIsBounded back =
    (series : List ℕ) (moment : WalkMoment) (feeds : List (List Ms)) (was now : ℕ)
    → RisesBy (λ (r : Reached). searches_of r series) back moment None feeds was now → now ≤ was + probed_bound series
