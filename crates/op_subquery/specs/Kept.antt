-- Steps that were fed and wait, and the samples that windows have of steps. (This project's own.)
use Rattle.std.specs.Prelude.{◌≡◌, ◌<◌, ◌++◌, ℕ, ℤ, int_lt, int_le, ◌&&◌, List, [], ◌∷◌, filter, map, slice_index_or, if◌then◌else◌, ⊤}
use Rattle.std.specs.List.{AllByRecursion, IsDistinct}
use Rattle.std.specs.Map.{keys_of}
use Rattle.label_set.specs.LabelEquality.{labels_eq}
use Rattle.op_subquery.specs.declared.waiting.WaitingStep.{WaitingStep}
use Rattle.promql_meaning.specs.Selecting.{sample_times, sample_values}
use Rattle.step_batch.specs.Columns.{Columns}
use Rattle.step_batch.specs.Lent.{Lent, entries_of}
use Rattle.step_batch.specs.LentWindows.{columns_in}
use Rattle.step_batch.specs.declared.steps.PlacedStep.{PlacedStep}
use Rattle.step_batch.specs.declared.steps.Slot.{Slot}
use Rattle.step_put.specs.Placed.{IsPlaced, Naming}
use Rattle.step_put.specs.declared.labels_left.Left.TheVariants as kind
use Rattle.step_table.specs.Groups.{Names, items_of}
use Rattle.step_table.specs.Timed.{StepAt, rows_of_steps, timed}
use Rattle.step_table.specs.declared.marks.Marks.{Marks}
use Rattle.step_table.specs.declared.windows.WindowRow.{WindowRow}
use Rattle.ticks.specs.declared.moment.Ms.{Ms}
use Rattle.xfrac.specs.declared.value.XFrac.{XFrac}

-- ---- steps that wait

-- a step that was fed: values under labels, no two equal, in the order in which they were fed
pub record KeptStep : Type 0 where
  pub at : Ms
  pub entries : List (Names × XFrac)
  pub marks : Marks

abbrev pub kept_of : List Names → WaitingStep → KeptStep
kept_of labels step = record { at = step.at; entries = entries_of labels step.slots.items; marks = step.marks }

-- the same of a step that is fed
abbrev pub kept_in : List Names → PlacedStep → KeptStep
kept_in labels step = record { at = step.at; entries = entries_of labels step.slots; marks = step.marks }

-- a value at the place of its labels, which stands in a list by the place at which they were fed
abbrev pub moved : List ℕ → Slot → Slot
moved places slot = record { place = slice_index_or places slot.place 0; value = slot.value }

-- the places of values are below a number
abbrev pub AreWithin : ℕ → List Slot → Type 0
AreWithin high slots = AllByRecursion (λ (s : Slot). s.place < high) slots

abbrev pub StepsWithin : ℕ → List WaitingStep → Type 0
StepsWithin high steps = AllByRecursion (λ (s : WaitingStep). AreWithin high s.slots.items) steps

-- all labels that were fed stand at their places
abbrev pub AllPlaced : Lent → Naming → Type 0
AllPlaced lent naming = (naming.left ≡ kind.All) × IsPlaced lent naming

-- values at an instant, each beside it
abbrev pub timed_entries : Ms → List (Names × XFrac) → List (Names × (Ms × XFrac))
timed_entries at entries = map (λ (e : Names × XFrac). (e.0, (at, e.1))) entries

-- a step is kept: the same instant, marks and notes, and under each labels the same value
pub record IsKept (kept : KeptStep) (step : StepAt) : Type 0 where
  pub at : kept.at ≡ step.at
  pub rows : (names : Names) → items_of (timed_entries kept.at kept.entries) names ≡ items_of (timed step.at step.step) names
  pub marks : kept.marks ≡ step.step.marks
  pub distinct : IsDistinct labels_eq (keys_of kept.entries)

abbrev pub AreKept : List KeptStep → List StepAt → Type 0
AreKept [] [] = ⊤
AreKept (kept ∷ all) (step ∷ steps) = IsKept kept step × AreKept all steps
AreKept _ _ = ⊥

-- ---- steps by their instants

abbrev pub instants_of : List StepAt → List Ms
instants_of steps = map (λ (s : StepAt). s.at) steps

-- of steps whose instants rise, those up to a time
abbrev pub due : ℤ → List StepAt → List StepAt
due m [] = []
due m (s ∷ steps) = if int_lt m s.at.0 then [] else s ∷ due m steps

-- and the later ones
abbrev pub later : ℤ → List StepAt → List StepAt
later m [] = []
later m (s ∷ steps) = if int_lt m s.at.0 then s ∷ steps else later m steps

-- the steps of a window, which begins behind an edge and ends at a moment
abbrev pub steps_in : ℤ → ℤ → List StepAt → List StepAt
steps_in edge m steps = filter (λ (s : StepAt). int_lt edge s.at.0 && int_le s.at.0 m) steps

-- ---- the samples of windows

-- those under some labels, none where there is no such window
abbrev pub samples_under : Names → List WindowRow → Columns
samples_under names [] = record { times = []; values = [] }
samples_under names (w ∷ rows) = if labels_eq names w.labels then columns_in w else samples_under names rows

abbrev pub columns_of : List (Ms × XFrac) → Columns
columns_of samples = record { times = sample_times samples; values = sample_values samples }

-- columns with samples more at their ends
abbrev pub with_samples : Columns → List (Ms × XFrac) → Columns
with_samples columns samples = record { times = columns.times ++ sample_times samples; values = columns.values ++ sample_values samples }

-- under each labels windows have the values that steps have under these labels
abbrev pub AreWindowsOf : List WindowRow → List StepAt → Type 0
AreWindowsOf rows steps = (names : Names) → samples_under names rows ≡ columns_of (items_of (rows_of_steps steps) names)
