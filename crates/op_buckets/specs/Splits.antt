-- The buckets of each histogram of a step, by the places of their histograms. (This project's own.)
use Rattle.std.specs.Prelude.{◌≡◌, ◌≤◌, ◌==◌, ℕ, zero, suc, Bool, true, false, not, List, [], ◌∷◌, length, map, slice_get, slice_index_or, Option, None, Some, if◌then◌else◌, ⊤}
use Rattle.std.specs.List.{AllByRecursion, filter_map}
use Rattle.std.specs.List.Sorted.{IsPermutation}
use Rattle.std.specs.Option.{option_map}
use Rattle.label_set.specs.Labels.{value_of}
use Rattle.promql_meaning.specs.Buckets.{bucket_label, fixed_note, histogram_quantile}
use Rattle.promql_meaning.specs.Outcomes.{range_notes, with_notes}
use Rattle.promql_meaning.specs.declared.buckets.Bucket.{Bucket}
use Rattle.step_batch.specs.declared.steps.Slot.{Slot}
use Rattle.step_put.specs.declared.placed.PlacedOutcome.{PlacedOutcome}
use Rattle.step_table.specs.Groups.{Names}
use Rattle.step_table.specs.Operators.{some_value}
use Rattle.step_table.specs.declared.marks.Marks.{Marks}
use Rattle.step_table.specs.declared.marks.Note.{Note}
use Rattle.step_table.specs.declared.marks.Note.TheVariants.{BadBucket}
use Rattle.xfrac.specs.Laws.{IsNumber}
use Rattle.xfrac.specs.declared.value.XFrac.{XFrac}
use Rattle.op_buckets.specs.declared.split.Entry.{Entry}

-- ---- rows as buckets

-- the place of a slot's histogram
abbrev pub group_at : List ℕ → Slot → ℕ
group_at groups slot = slice_index_or groups slot.place 0

abbrev pub bound_there : Option (Option XFrac) → Option XFrac
bound_there None = None
bound_there (Some bound) = bound

-- the bound of a slot's labels, where it is a number
abbrev pub bound_at : List (Option XFrac) → Slot → Option XFrac
bound_at bounds slot = bound_there (slice_get bounds slot.place)

-- a bucket beside the place of its histogram
abbrev pub entry_with : ℕ → XFrac → XFrac → Entry
entry_with group count bound = record { group = group; bucket = record { bound = bound; count = count } }

abbrev pub entry_of : List ℕ → List (Option XFrac) → Slot → Option Entry
entry_of groups bounds slot = option_map (entry_with (group_at groups slot) slot.value) (bound_at bounds slot)

-- the note of a bound that is no number
abbrev pub text_note : List ℕ → Option XFrac → Option Note
text_note text None = Some (BadBucket text)
text_note text (Some bound) = None

abbrev pub note_at : List Names → List (Option XFrac) → Slot → Option Note
note_at fed bounds slot = text_note (value_of (slice_index_or fed slot.place []) bucket_label) (bound_at bounds slot)

abbrev pub IsNumberEntry : Entry → Type 0
IsNumberEntry e = IsNumber e.bucket.bound × IsNumber e.bucket.count

abbrev pub AreNumberEntries : List Entry → Type 0
AreNumberEntries entries = AllByRecursion IsNumberEntry entries

-- ---- histograms

-- the histograms don't fall
abbrev pub GroupsRise : List Entry → Type 0
GroupsRise [] = ⊤
GroupsRise (e ∷ entries) = AllByRecursion (λ (o : Entry). e.group ≤ o.group) entries × GroupsRise entries

-- the buckets of a histogram
abbrev pub buckets_in : ℕ → List Entry → List Bucket
buckets_in group [] = []
buckets_in group (e ∷ entries) = if group == e.group then e.bucket ∷ buckets_in group entries else buckets_in group entries

-- whether an entry is the last of its histogram where others follow
abbrev pub is_end : Entry → List Entry → Bool
is_end e [] = true
is_end e (o ∷ entries) = not (o.group == e.group)

-- whether the entry at a place is
abbrev pub is_end_at : ℕ → List Entry → Bool
is_end_at i [] = false
is_end_at zero (e ∷ entries) = is_end e entries
is_end_at (suc i) (e ∷ entries) = is_end_at i entries

-- the histograms that end among the first so many entries
abbrev pub ended : ℕ → List Entry → List ℕ
ended zero entries = []
ended (suc i) [] = []
ended (suc i) (e ∷ entries) = if is_end e entries then e.group ∷ ended i entries else ended i entries

-- what is made of a histogram, and its note where its counts were raised
abbrev pub group_made : XFrac → List Entry → ℕ → PlacedOutcome
group_made q entries group = record { place = group; value = some_value (histogram_quantile q (buckets_in group entries)) }

abbrev pub group_noted : XFrac → List Entry → ℕ → Option Note
group_noted q entries group = fixed_note q ([], buckets_in group entries)

-- the same of the histograms that end among the first so many entries
abbrev pub made_until : XFrac → ℕ → List Entry → List PlacedOutcome
made_until q i entries = map (group_made q entries) (ended i entries)

abbrev pub noted_until : XFrac → ℕ → List Entry → List Note
noted_until q i entries = filter_map (group_noted q entries) (ended i entries)

-- ---- the quantile

-- the quantile that is asked for; there is none where its row is lost
abbrev pub value_asked : List Slot → Option XFrac
value_asked [] = None
value_asked (slot ∷ slots) = Some slot.value

-- buckets sorted by the places of their histograms, what is made of these, and the marks and notes with those that came
pub record AreSplit (q : XFrac) (groups : List ℕ) (fed : List Names) (bounds : List (Option XFrac)) (slots : List Slot) (marks : Marks) (placed : List PlacedOutcome) (noted : Marks) : Type 0 where
  pub entries : List Entry
  pub made : placed ≡ made_until q (length entries) entries
  pub notes : noted ≡ with_notes (with_notes (with_notes marks (range_notes q)) (filter_map (note_at fed bounds) slots)) (noted_until q (length entries) entries)
  pub rise : GroupsRise entries
  pub numbers : AreNumberEntries entries
  pub moved : IsPermutation (filter_map (entry_of groups bounds) slots) entries

-- what is made of slots as a quantile is asked for
abbrev pub AreMade : Option XFrac → List ℕ → List Names → List (Option XFrac) → List Slot → Marks → List PlacedOutcome → Marks → Type 0
AreMade None groups fed bounds slots marks placed noted = (placed ≡ []) × (noted ≡ marks)
AreMade (Some q) groups fed bounds slots marks placed noted = AreSplit q groups fed bounds slots marks placed noted
