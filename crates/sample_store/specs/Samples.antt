-- What a store holds: series in the order of their first samples, each with its samples in rising time (Prometheus, "Data
-- model"). That an equal sample is taken twice and another one refused, and the limits, are this project's own.
use Rattle.std.specs.Prelude.{Bool, true, false, ◌&&◌, ◌==◌, nat_le, is_none, if◌then◌else◌, ◌≡◌, ◌≢◌, ◌<◌, ◌≤◌, ◌+◌, ◌++◌, slice_get, slice_set, insert, ℕ, List, [], ◌∷◌, length, min, bytes_eq, Option, None, Some, int_lt, ◌≤ℤ◌, ◌⊎◌, unwrap_or, filter, Result, Ok, Err, MatchOption, map, Contains, ◌↔◌}
use Rattle.std.specs.BTreeMap.{insert_entry, is_at}
use Rattle.std.specs.List.{AllByRecursion, IsDistinct}
pub use Rattle.indexmap.specs.IndexMap.{insert_entry as put_entry}
use Rattle.indexmap.specs.Layout.{set_value_at}
use Rattle.label_set.specs.LabelEquality.{labels_eq}
use Rattle.std.specs.List.Sorted.{IsStrictlySortedBy, IsPermutation}
use Rattle.std.specs.Option.{option_map}
use Rattle.std.specs.Map.{keys_of, lookup}
use Rattle.std.specs.Ordering.{int_cmp, int_eq, on}
use Rattle.std.specs.declared.cmp.Ordering.{Ordering}
use Rattle.label_set.specs.Labels.{IsLabelSet, labels_cmp, value_of}
use Rattle.label_set.specs.LabelOrder.{by_labels}
use Rattle.label_set.specs.declared.rules.Rule.{Rule}
use Rattle.label_set.specs.declared.rules.RuleKind.{RuleKind}
use Rattle.label_set.specs.declared.rules.RuleKind.TheVariants.{Eq}
use Rattle.match_rule.specs.Patterns.{kind_passes, labels_pass}
use Rattle.sample_store.specs.declared.refusal.StoreRefusal.{StoreRefusal}
use Rattle.sample_store.specs.declared.refusal.StoreRefusal.TheVariants.{Conflict, TooManySamples, TooManySeries, Memory}
use Rattle.ticks.specs.declared.moment.Ms.{Ms}
use Rattle.xfrac.specs.Order.{rank}
use Rattle.xfrac.specs.declared.value.Held.{Held}
use Rattle.xfrac.specs.declared.value.Held.TheVariants.{Value, Stale}
use Rattle.xfrac.specs.declared.value.XFrac.{XFrac}
use Rattle.xfrac.specs.declared.value.XFrac.TheVariants.{Fin}

-- the pairs that name a series, the samples of one series, and all series
abbrev pub Names : Type 0
Names = List (List ℕ × List ℕ)

abbrev pub Samples : Type 0
Samples = List (Ms × Held)

abbrev pub AllSeries : Type 0
AllSeries = List (Names × Samples)

abbrev pub time_cmp : Ms → Ms → Ordering
time_cmp = on (λ t. t.0) int_cmp

-- no two samples of a series have one time, and the times rise
abbrev pub IsRising : Samples → Type 0
IsRising samples = IsStrictlySortedBy time_cmp (keys_of samples)

-- the samples of all series together
abbrev pub sample_count : AllSeries → ℕ
sample_count [] = 0
sample_count (s ∷ series) = length s.1 + sample_count series

-- a label with its value
abbrev pub Pair : Type 0
Pair = List ℕ × List ℕ

abbrev pub pair_eq : Pair → Pair → Bool
pair_eq p q = bytes_eq p.0 q.0 && bytes_eq p.1 q.1

-- whether labels have a pair; a label that is missing reads as the empty text
abbrev pub has_pair : Pair → Names → Bool
has_pair pair names = bytes_eq (value_of names pair.0) pair.1

-- the rising numbers of the series that have a pair, where the first of these series has this number
abbrev pub numbers_with : Pair → ℕ → AllSeries → List ℕ
numbers_with pair number [] = []
numbers_with pair number (s ∷ series) =
    if has_pair pair s.0 then number ∷ numbers_with pair (number + 1) series else numbers_with pair (number + 1) series

-- numbers of series, each list under one pair
abbrev pub Postings : Type 0
Postings = List (Pair × List ℕ)

-- the numbers under a pair, none where there is no such list
abbrev pub posted : Postings → Pair → List ℕ
posted lists pair = unwrap_or (lookup (pair_eq pair) lists) []

-- each pair with a value has the numbers of its series
pub record ArePostings (series : AllSeries) (lists : Postings) : Type 0 where
  pub exact : (pair : Pair) → pair.1 ≢ [] → posted lists pair ≡ numbers_with pair 0 series

-- series in the order of their first samples: the labels of each are a label set, no two have equal labels, the times of each
-- rise, the limits are kept, the samples are counted, and each pair has the numbers of its series
pub record IsStore (series : AllSeries) (samples : ℕ) (lists : Postings) : Type 0 where
  pub labelled : AllByRecursion (λ s. IsLabelSet s.0) series
  pub distinct : IsDistinct labels_eq (keys_of series)
  pub rising : AllByRecursion (λ s. IsRising s.1) series
  pub counted : samples ≡ sample_count series
  pub few_series : length series ≤ 100000
  pub few_samples : samples ≤ 2000000
  pub listed : ArePostings series lists

-- the samples under some labels, none where there is no such series
abbrev pub samples_of : AllSeries → Names → Samples
samples_of series names = unwrap_or (lookup (labels_eq names) series) []

-- what a series holds at a time
abbrev pub held_in : Samples → Ms → Option Held
held_in samples at = lookup (is_at (time_cmp at)) samples

-- the store with one more sample, in its place by time; a new series comes last; an equal sample changes nothing
abbrev pub with_sample : AllSeries → Names → Ms → Held → AllSeries
with_sample series names at held = put_entry labels_eq series names (insert_entry time_cmp (samples_of series names) at held)

-- the samples of a series that are later than a time
abbrev pub later_than : Ms → Samples → Samples
later_than after samples = filter (λ s. int_lt after.0 s.0.0) samples

-- two numbers are the same: one fraction in lowest terms, one infinity, or NaN and NaN
abbrev pub is_same_number : XFrac → XFrac → Bool
is_same_number (Fin f) (Fin g) = int_eq f.0 g.0 && f.1 == g.1
is_same_number x y = rank x == rank y

-- two samples hold the same: equal numbers, NaN and NaN, or two markers
abbrev pub is_same : Held → Held → Bool
is_same (Value x) (Value y) = is_same_number x y
is_same Stale Stale = true
is_same a b = false

-- which limit one more sample would break: a new series beyond 100,000, or a sample beyond 2,000,000
abbrev pub limit_broken : AllSeries → Names → Option StoreRefusal
limit_broken series names =
    if is_none (lookup (labels_eq names) series) && nat_le 100000 (length series) then Some TooManySeries
    else if nat_le 2000000 (sample_count series) then Some TooManySamples
    else None

-- why a sample is refused beside what stands at its time: another value does; where nothing does, the limit it breaks
abbrev pub refusal_beside : Option Held → Option StoreRefusal → Held → Option StoreRefusal
refusal_beside (Some kept) broken held = if is_same kept held then None else Some (Conflict kept held)
refusal_beside None broken held = broken

-- why a sample is refused; nothing where it is taken. Want of memory is no part of it
abbrev pub refusal_of : AllSeries → Names → Ms → Held → Option StoreRefusal
refusal_of series names at held = refusal_beside (held_in (samples_of series names) at) (limit_broken series names) held

-- the place of the series with some labels
pub record IsFoundAt (series : AllSeries) (names : Names) (place : ℕ) : Type 0 where
  pub samples : Samples
  pub there : slice_get series place ≡ Some (names, samples)
  pub known : lookup (labels_eq names) series ≡ Some samples
  pub changed : (more : Samples) → put_entry labels_eq series names more ≡ set_value_at series place more

-- the place of the sample at a time
pub record IsTimeAt (samples : Samples) (at : Ms) (place : ℕ) : Type 0 where
  pub within : place < length samples
  pub held : Held
  pub there : slice_get samples place ≡ Some (at, held)
  pub known : held_in samples at ≡ Some held
  pub changed : (more : Held) → insert_entry time_cmp samples at more ≡ slice_set samples place (at, more)

-- the place where a sample at a time would stand
pub record IsTimeGapAt (samples : Samples) (at : Ms) (place : ℕ) : Type 0 where
  pub within : place ≤ length samples
  pub absent : held_in samples at ≡ None
  pub added : (more : Held) → insert_entry time_cmp samples at more ≡ insert samples place (at, more)

-- where a sample goes into a series: nowhere, where an equal one is there, or a gap, where there is room
abbrev pub IsRoomIn : Samples → Ms → Held → ℕ → Option ℕ → Type 0
IsRoomIn samples at held count None = (held_in samples at ≡ Some held) × (insert_entry time_cmp samples at held ≡ samples)
IsRoomIn samples at held count (Some place) = IsTimeGapAt samples at place × (count < 2000000)

-- why a sample is refused by a series that is there
abbrev pub refusal_in : Samples → Ms → Held → ℕ → Option StoreRefusal
refusal_in samples at held count = refusal_beside (held_in samples at) (if nat_le 2000000 count then Some TooManySamples else None) held

-- what an answer to a sample says of the samples of its series, before and after, where there were `count` samples in all; it
-- answers how many there are then
abbrev pub Puts : Samples → Samples → Ms → Held → ℕ → Result ℕ StoreRefusal → Type 0
Puts old new at held count (Ok total) = (refusal_in old at held count ≡ None) × (new ≡ insert_entry time_cmp old at held) × (length new + count ≡ length old + total) × (total ≤ 2000000) × IsRising new × (count ≤ total)
Puts old new at held count (Err e) = (new ≡ old) × MatchOption (refusal_in old at held count) ((e ≡ Memory) × (held_in old at ≡ None)) (λ r. e ≡ r)

-- the same where the series stands at a place of the store
pub record PutsAt (old new : AllSeries) (place : ℕ) (at : Ms) (held : Held) (count : ℕ) (result : Result ℕ StoreRefusal) : Type 0 where
  pub names : Names
  pub before : Samples
  pub after : Samples
  pub there : slice_get old place ≡ Some (names, before)
  pub changed : new ≡ set_value_at old place after
  pub puts : Puts before after at held count result

-- the same of the store
abbrev pub Appends : AllSeries → AllSeries → Names → Ms → Held → Result (Unit {0}) StoreRefusal → Type 0
Appends old new names at held (Ok done) = (refusal_of old names at held ≡ None) × (new ≡ with_sample old names at held)
Appends old new names at held (Err e) = (new ≡ old) × MatchOption (refusal_of old names at held) ((e ≡ Memory) × (held_in (samples_of old names) at ≡ None)) (λ r. e ≡ r)

-- the labels of a series that passes with its number, where the first of these series has this number
abbrev pub passing : List (Bool × List ℕ) → List Rule → ℕ → AllSeries → List (Names × ℕ)
passing kept rules number [] = []
passing kept rules number (s ∷ series) =
    if labels_pass kept rules s.0 then (s.0, number) ∷ passing kept rules (number + 1) series else passing kept rules (number + 1) series

-- the labels of the series with a number
abbrev pub labels_at : AllSeries → ℕ → Names
labels_at series s = unwrap_or (option_map (λ (one : Names × Samples). one.0) (slice_get series s)) []

-- the samples of the series with a number, none where there is no such series
abbrev pub samples_at : AllSeries → ℕ → Samples
samples_at series s = unwrap_or (option_map (λ (one : Names × Samples). one.1) (slice_get series s)) []

-- a series with these labels has this number
abbrev pub IsNumberOf : AllSeries → Names → ℕ → Type 0
IsNumberOf series names s = (s < length series) × (labels_at series s ≡ names)

-- a series with this number is there, and passes
abbrev pub Passes : List (Bool × List ℕ) → List Rule → AllSeries → ℕ → Type 0
Passes kept rules series s = (s < length series) × (labels_pass kept rules (labels_at series s) ≡ true)

-- exactly the numbers of the series that pass, with their labels strictly rising, so each once
pub record IsSelected (kept : List (Bool × List ℕ)) (rules : List Rule) (series : AllSeries) (places : List ℕ) : Type 0 where
  pub exact : (s : ℕ) → Contains places s ↔ Passes kept rules series s
  pub rising : IsStrictlySortedBy labels_cmp (map (labels_at series) places)

-- the series that pass, in the order of their labels
abbrev pub chosen : List (Bool × List ℕ) → List Rule → AllSeries → AllSeries
chosen kept rules series = filter (λ s. labels_pass kept rules s.0) (by_labels series)

-- of the series with some numbers those that pass, by labels and number
abbrev pub passing_at : List (Bool × List ℕ) → List Rule → AllSeries → List ℕ → List (Names × ℕ)
passing_at kept rules series [] = []
passing_at kept rules series (n ∷ ns) =
    if labels_pass kept rules (labels_at series n) then (labels_at series n, n) ∷ passing_at kept rules series ns else passing_at kept rules series ns

-- the pair that a rule asks for: `=` with a text that isn't empty
abbrev pub asked_under : List ℕ → RuleKind → Option Pair
asked_under label (Eq text) = if length text == 0 then None else Some (label, text)
asked_under label kind = None

abbrev pub asked : Rule → Option Pair
asked rule = asked_under rule.label rule.kind

-- the least of a number and of what some rules' pairs count
abbrev pub fewer : (Pair → ℕ) → ℕ → Option Pair → ℕ
fewer count most None = most
fewer count most (Some pair) = min (count pair) most

abbrev pub fewest : (Pair → ℕ) → ℕ → List Rule → ℕ
fewest count most [] = most
fewest count most (rule ∷ rules) = fewest count (fewer count most (asked rule)) rules

-- how many series a selection looks at: as many as have the rarest of the pairs that its rules ask for, or all
abbrev pub looked_at : List Rule → AllSeries → ℕ
looked_at rules series = fewest (λ pair. length (numbers_with pair 0 series)) (length series) rules

-- the rule at a place is an `=`, and some numbers are those of its pair
pub record IsListed (rules : List Rule) (series : AllSeries) (place : ℕ) (numbers : List ℕ) : Type 0 where
  pub label : List ℕ
  pub text : List ℕ
  pub asks : slice_get rules place ≡ Some (record { label = label; kind = Eq text })
  pub exact : numbers ≡ numbers_with (label, text) 0 series

-- they are those of the rarest pair that the rules ask for
abbrev pub IsShortest : List Rule → AllSeries → ℕ → List ℕ → Type 0
IsShortest rules series place numbers = IsListed rules series place numbers × (length numbers ≡ looked_at rules series)

-- labels pass the rule at a place
abbrev pub PassRule : List (Bool × List ℕ) → List Rule → ℕ → Names → Type 0
PassRule kept rules place names = option_map (λ rule. kind_passes kept rule.kind (value_of names rule.label)) (slice_get rules place) ≡ Some true

-- some pairs in the order of their labels
pub record IsInOrder (pairs : List (Names × ℕ)) (places : List ℕ) : Type 0 where
  pub sorted : List (Names × ℕ)
  pub moved : IsPermutation pairs sorted
  pub numbers : places ≡ map (λ (p : Names × ℕ). p.1) sorted
  pub rising : IsDistinct labels_eq (keys_of pairs) → IsStrictlySortedBy labels_cmp (keys_of sorted)

-- what a cursor stands between
pub record Between : Type 0 where
  pub before : Samples
  pub rest : Samples

-- a sample is the last of some
abbrev pub EndsWith : Samples → Ms × Held → Type 0
EndsWith samples sample = (front : Samples) × (samples ≡ front ++ sample ∷ [])

-- there is none, or the last one isn't later than a time
abbrev pub EndsBy : Ms → Samples → Type 0
EndsBy after samples = (samples ≡ []) ⊎ ((sample : Ms × Held) × EndsWith samples sample × (sample.0.0 ≤ℤ after.0))
