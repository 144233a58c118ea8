-- How many samples are given, to the last one, to a kernel that keeps the newest sample of each series alone. (This project's own.)
use Rattle.std.specs.Prelude.{◌≡◌, ◌+◌, ◌≤ℤ◌, ℕ, ℤ, List, [], ◌∷◌, length, sum_by, None, Some, ⊤}
use Rattle.std.specs.Option.{option_to_list}
use Rattle.sample_store.specs.Samples.{AllSeries, Samples, samples_at}
use Rattle.series_marks.specs.Reaches.{moment_of}
use Rattle.series_marks.specs.Reads.{Reached, after, ahead_of, last_of, until}
use Rattle.ticks.specs.declared.moment.Ms.{Ms}
use Rattle.ticks.specs.declared.walk.WalkMoment.{WalkMoment}

-- of a series where the newest sample was sought behind an edge at a first moment, and it has come to a later one: the newest one at the
-- first moment, if there is one, those later than it up to the last moment, and one more where none stands there and a later one is there
abbrev pub picked_at : (edge first m : ℤ) → Samples → ℕ
picked_at e a m samples =
    length (option_to_list (last_of a (after e samples) None)) + length (until m (after a (after e samples)))
    + length (option_to_list (ahead_of m (last_of m (after e samples) None) (after m (after e samples))))

abbrev pub picked_of : (first : ℤ) → Reached → Samples → ℕ
picked_of a None samples = 0
picked_of a (Some r) samples = picked_at r.0.0 a r.1.0 samples

-- of all series
abbrev pub picks_of : (first : ℤ) → Reached → AllSeries → List ℕ → ℕ
picks_of a reached store series = sum_by (λ s. picked_of a reached (samples_at store s)) series

-- a kernel that goes on to a moment began at a first one: at this one, if it hasn't begun
abbrev pub BeginsAt : (first : ℤ) → Reached → Ms → Type 0
BeginsAt a None m = a ≡ m.0
BeginsAt a (Some r) m = a ≤ℤ r.1.0

-- a kernel that is fed instants: at the moment of the first of them, if it hasn't begun
abbrev pub BeginsWith : (first : ℤ) → Reached → WalkMoment → List Ms → Type 0
BeginsWith a reached moment [] = ⊤
BeginsWith a reached moment (t ∷ ts) = BeginsAt a reached (moment_of moment t)
