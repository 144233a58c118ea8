-- count_values over steps, and how many rows come to have each labels. (Prometheus querying, "Aggregation operators": the rule is
-- that of the meaning. How rows are brought together is this project's own.)
use Rattle.std.specs.Prelude.{◌≡◌, ◌≤◌, ◌<◌, ◌+◌, ◌^◌, ◌==◌, ℕ, Bool, false, not, List, [], ◌∷◌, ◌++◌, length, map, replicate, slice_get, slice_index_or, Option, None, Some, is_none, if◌then◌else◌, ⊤}
use Rattle.std.specs.List.{AllByRecursion, filter_map, list_any}
use Rattle.std.specs.List.Sorted.{IsPermutation}
use Rattle.std.specs.Option.{option_map}
use Rattle.frac_text.specs.Spellings.{spelling}
use Rattle.label_set.specs.declared.rules.Grouping.{Grouping}
use Rattle.promql_meaning.specs.Countings.{counted, is_left_out, with_label}
use Rattle.promql_meaning.specs.Ranks.{kept_labels}
use Rattle.step_batch.specs.declared.steps.Slot.{Slot}
use Rattle.step_put.specs.Puts.{AreAt}
use Rattle.step_table.specs.Groups.{Names}
use Rattle.step_table.specs.Timed.{StepAt}
use Rattle.step_table.specs.declared.marks.Mark.{Mark}
use Rattle.step_table.specs.declared.marks.Mark.TheVariants.{Overflow}
use Rattle.xfrac.specs.Arithmetic.{whole_number}
use Rattle.xfrac.specs.declared.value.XFrac.{XFrac}
use Rattle.op_rank.specs.Entries.{entry_of}
use Rattle.op_rank.specs.declared.entries.Entry.{Entry}
use Rattle.op_rank.specs.declared.value_counts.Count.{Count}
use Rattle.op_rank.specs.declared.value_counts.Run.{Run}
use Rattle.op_rank.specs.declared.value_labels.Counting.{Counting}

-- ---- the rule

-- what count_values makes of a step, at the step's instant
abbrev pub counted_at : Grouping → List ℕ → StepAt → StepAt
counted_at by label s = record { at = s.at; step = counted by label s.step }

-- the same beside a parameter, which isn't read
abbrev pub counted_beside : Grouping → List ℕ → StepAt → StepAt → StepAt
counted_beside by label parameter s = counted_at by label s

abbrev pub values_counted : Grouping → List ℕ → List StepAt → List StepAt
values_counted by label steps = map (counted_at by label) steps

-- ---- labels

-- the labels that a value of a group is counted under: those of the group, with the value's text under the label, where that is set
abbrev pub value_labels : Bool → List ℕ → Names → XFrac → Option Names
value_labels is_set label group value = if is_set then with_label group label (spelling value) else Some group

abbrev pub labels_of : Counting → Entry → Option Names
labels_of c e = value_labels c.is_set c.label.now (slice_index_or c.groups.now e.group []) e.value

-- values are counted by a grouping of labels that are fed
pub record IsCounting (by : Grouping) (fed : List Names) (c : Counting) : Type 0 where
  pub placed : AreAt c.groups.now (map (kept_labels by) fed) c.places.now
  pub set : c.is_set ≡ not (is_left_out by c.label.now)

-- ---- runs of equal values

-- the values of runs, one for each row
abbrev pub rolled_out : List Run → List Entry
rolled_out [] = []
rolled_out (r ∷ runs) = replicate r.rows r.entry ++ rolled_out runs

-- how many rows a run has, under its labels
abbrev pub run_under : Counting → Run → Option (Names × ℕ)
run_under c r = option_map (λ (names : Names). (names, r.rows)) (labels_of c r.entry)

abbrev pub runs_under : Counting → List Run → List (Names × ℕ)
runs_under c runs = filter_map (run_under c) runs

abbrev pub rows_in_runs : List Run → ℕ
rows_in_runs [] = 0
rows_in_runs (r ∷ runs) = r.rows + rows_in_runs runs

-- a run is lost where its labels would pass the limits of labels
abbrev pub is_lost : Counting → Run → Bool
is_lost c r = is_none (labels_of c r.entry)

abbrev pub has_lost : Counting → List Run → Bool
has_lost c runs = list_any (is_lost c) runs

-- the mark of values that are lost, if some are
abbrev pub overflow_if : Bool → List Mark
overflow_if lost = if lost then Overflow ∷ [] else []

-- ---- counts by places

-- how many rows each count has, under the labels at its place
abbrev pub counts_under : List Names → List Count → List (Names × ℕ)
counts_under labels counts = map (λ (n : Count). (slice_index_or labels n.place [], n.rows)) counts

-- one count more where there are labels
abbrev pub IsCounted : List Names → Option Names → ℕ → List Count → List Count → Type 0
IsCounted labels None rows old new = new ≡ old
IsCounted labels (Some names) rows old new = (place : ℕ) × (slice_get labels place ≡ Some names) × (new ≡ old ++ record { place = place; rows = rows } ∷ [])

abbrev pub rows_in : List Count → ℕ
rows_in [] = 0
rows_in (n ∷ counts) = n.rows + rows_in counts

-- the places don't fall
abbrev pub CountsRise : List Count → Type 0
CountsRise [] = ⊤
CountsRise (n ∷ counts) = AllByRecursion (λ (m : Count). n.place ≤ m.place) counts × CountsRise counts

-- whether the first of some counts, if there is one, is of a place
abbrev pub is_next : List Count → ℕ → Bool
is_next [] place = false
is_next (n ∷ counts) place = n.place == place

-- for each place how many rows its counts have, which stand together, and those before them
abbrev pub slots_counted : ℕ → List Count → List Slot
slots_counted rows [] = []
slots_counted rows (n ∷ counts) =
    if is_next counts n.place then slots_counted (rows + n.rows) counts
    else record { place = n.place; value = whole_number (rows + n.rows) } ∷ slots_counted 0 counts

-- ---- a step

-- the values of slots are counted by the places of their labels, in the order of places
pub record AreTallied (c : Counting) (slots : List Slot) (labels : List Names) (counts : List Count) (lost : Bool) : Type 0 where
  pub runs : List Run
  pub moved : IsPermutation (map (entry_of c.places.now) slots) (rolled_out runs)
  pub some : AllByRecursion (λ (r : Run). 0 < r.rows) runs
  pub found : List Count
  pub under : counts_under labels found ≡ runs_under c runs
  pub sorted : IsPermutation found counts
  pub some_lost : lost ≡ has_lost c runs
  pub rise : CountsRise counts
  pub within : AllByRecursion (λ (n : Count). n.place < length labels) counts
  pub few : rows_in counts < 2 ^ 64
