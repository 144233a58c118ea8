-- Where a series' mark stands when it has come to a moment, and how many samples it has read.
use Rattle.std.specs.Prelude.{ℕ, ◌+◌, ◌-◌, Bool, false, [], ◌∷◌, ◌++◌, length, drop, Option, None, Some, ℤ, ◌<ℤ◌, ◌≤ℤ◌, ◌&&◌, filter, int_le, int_lt, if◌then◌else◌, ⊤}
use Rattle.std.specs.Option.{option_to_list}
use Rattle.std.specs.List.{list_any}
use Rattle.std.specs.Ordering.{int_eq}
use Rattle.sample_store.specs.Samples.{AllSeries, Samples, samples_at}
use Rattle.series_marks.specs.declared.mark.Mark.{Mark}
use Rattle.ticks.specs.declared.moment.Ms.{Ms}
use Rattle.xfrac.specs.declared.value.Held.{Held}

-- the samples from the first one that is later than a time
abbrev pub after : ℤ → Samples → Samples
after m [] = []
after m (x ∷ xs) = if int_lt m x.0.0 then x ∷ xs else after m xs

abbrev pub Sample : Type 0
Sample = Ms × Held

-- times rise, from that of a sample on, if there is one
abbrev pub Rises : Option Sample → Samples → Type 0
Rises last [] = ⊤
Rises None (x ∷ xs) = Rises (Some x) xs
Rises (Some p) (x ∷ xs) = (p.0.0 <ℤ x.0.0) × Rises (Some x) xs

abbrev pub AreRising : AllSeries → Type 0
AreRising series = (s : ℕ) → Rises None (samples_at series s)

-- the last sample up to a moment, or the one before all of these
abbrev pub last_of : ℤ → Samples → Option Sample → Option Sample
last_of m [] last = last
last_of m (x ∷ xs) last = if int_lt m x.0.0 then last else last_of m xs (Some x)

-- a moment, or an edge that is later
abbrev pub later_of : Ms → Ms → Ms
later_of edge m = if int_lt m.0 edge.0 then edge else m

-- the samples up to a moment
abbrev pub until : ℤ → Samples → Samples
until m [] = []
until m (x ∷ xs) = if int_lt m x.0.0 then [] else x ∷ until m xs

-- whether a sample stands at a moment
abbrev pub stands_at : ℤ → Option Sample → Bool
stands_at m None = false
stands_at m (Some x) = int_eq x.0.0 m

abbrev pub head_of : Samples → Option Sample
head_of [] = None
head_of (x ∷ xs) = Some x

-- the sample that is fetched past a moment: none where one stands at the moment
abbrev pub ahead_of : ℤ → Option Sample → Samples → Option Sample
ahead_of m last coming = if stands_at m last then None else head_of coming

-- the samples that are still to come, behind a mark
abbrev pub coming : Samples → Mark → Samples
coming samples mark = option_to_list mark.ahead ++ drop mark.place samples

-- no sample is kept where one stands at the moment
abbrev pub Spares : ℤ → Option Sample → Option Sample → Type 0
Spares m last None = ⊤
Spares m None (Some a) = ⊤
Spares m (Some x) (Some a) = x.0.0 <ℤ m

-- the mark of a series which was sought at an edge and has come to a moment
abbrev pub mark_with : ℕ → ℕ → Option Sample → Option Sample → Mark
mark_with all rest last ahead = record { place = all + length (option_to_list ahead) - rest; last = last; ahead = ahead }

abbrev pub mark_at : ℤ → ℤ → Samples → Mark
mark_at e m samples =
    mark_with (length samples) (length (after m (after e samples))) (last_of m (after e samples) None)
    (ahead_of m (last_of m (after e samples) None) (after m (after e samples)))

-- the samples in a span, and one more where none stands at its right end and a later one is there
abbrev pub read_at : ℤ → ℤ → Samples → ℕ
read_at e m samples =
    length (until m (after e samples)) + length (option_to_list (ahead_of m (last_of m (after e samples) None) (after m (after e samples))))

-- ---- a kernel: which edge and moment its series have come to, if it has begun

abbrev pub Reached : Type 0
Reached = Option (Ms × Ms)

abbrev pub blank : Mark
blank = record { place = 0; last = None; ahead = None }

abbrev pub mark_of : Reached → Samples → Mark
mark_of None samples = blank
mark_of (Some r) samples = mark_at r.0.0 r.1.0 samples

abbrev pub read_of : Reached → Samples → ℕ
read_of None samples = 0
read_of (Some r) samples = read_at r.0.0 r.1.0 samples

-- how many times may have been looked at for a series: 64 at its one search
abbrev pub probes_of : Reached → ℕ
probes_of None = 0
probes_of (Some r) = 64

abbrev pub edge_of : Reached → Ms → Ms
edge_of None edge = edge
edge_of (Some r) edge = r.0

abbrev pub IsNoEarlier : Reached → Ms → Type 0
IsNoEarlier None m = ⊤
IsNoEarlier (Some r) m = r.1.0 ≤ℤ m.0

-- ---- the bound of a series: the samples of a span, and one more where none stands at its right end

-- the samples of a span, its left edge excluded
abbrev pub in_span : ℤ → ℤ → Samples → Samples
in_span e m samples = filter (λ (x : Sample). int_lt e x.0.0 && int_le x.0.0 m) samples

-- a sample stands at a time
abbrev pub has_at : ℤ → Samples → Bool
has_at m samples = list_any (λ (x : Sample). int_eq x.0.0 m) samples

abbrev pub span_bound : ℤ → ℤ → Samples → ℕ
span_bound e m samples = length (in_span e m samples) + (if has_at m samples then 0 else 1)
