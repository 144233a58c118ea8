-- What is lent: values at the places of their labels, and the steps that these stand for.
use Rattle.std.specs.Prelude.{◌<◌, ◌≤◌, ◌+◌, ◌<ℤ◌, ℕ, nat_lt, ◌/◌, sum_by, Bool, false, ◌==◌, ◌||◌, List, [], ◌∷◌, ◌++◌, length, map, slice_get, Option, if◌then◌else◌, ⊤}
use Rattle.std.specs.List.{AllByRecursion, IsDistinct, filter_map}
use Rattle.std.specs.Option.{option_map}
use Rattle.label_set.specs.LabelEquality.{labels_eq}
use Rattle.step_table.specs.Groups.{Names}
use Rattle.step_table.specs.Timed.{StepAt}
use Rattle.step_table.specs.Unions.{united}
use Rattle.step_table.specs.declared.marks.Marks.{Marks}
use Rattle.step_table.specs.declared.step.Row.{Row}
use Rattle.step_table.specs.declared.step.Step.{Step}
use Rattle.ticks.specs.declared.moment.Ms.{Ms}
use Rattle.xfrac.specs.declared.value.XFrac.{XFrac}
use Rattle.step_batch.specs.Tables.{in_order, put_into}
use Rattle.step_batch.specs.declared.steps.Slot.{Slot}
use Rattle.step_batch.specs.declared.steps.PlacedStep.{PlacedStep}

-- labels by their places, and steps whose values name them by these
pub record Lent : Type 0 where
  pub labels : List Names
  pub steps : List PlacedStep

-- the places of slots rise, from one on and below another
abbrev pub SlotsRise : ℕ → ℕ → List Slot → Type 0
SlotsRise low high [] = ⊤
SlotsRise low high (s ∷ slots) = (low ≤ s.place) × (s.place < high) × SlotsRise (s.place + 1) high slots

-- the slots of each step rise, and each has labels
abbrev pub ArePlaced : ℕ → List PlacedStep → Type 0
ArePlaced high steps = AllByRecursion (λ (s : PlacedStep). SlotsRise 0 high s.slots) steps

-- a step is before those that follow
abbrev pub IsBefore : PlacedStep → List PlacedStep → Type 0
IsBefore s [] = ⊤
IsBefore s (t ∷ steps) = s.at.0 <ℤ t.at.0

-- the instants of steps rise
abbrev pub InstantsRise : List PlacedStep → Type 0
InstantsRise [] = ⊤
InstantsRise (s ∷ steps) = IsBefore s steps × InstantsRise steps

-- what a reader may rely on: no two labels are equal, the slots of each step rise in place and have labels, and the instants rise
pub record IsLent (lent : Lent) : Type 0 where
  pub distinct : IsDistinct labels_eq lent.labels
  pub placed : ArePlaced (length lent.labels) lent.steps
  pub rising : InstantsRise lent.steps

-- ---- the steps that are lent

-- what a slot stands for: its value under its labels
abbrev pub entry_of : List Names → Slot → Option (Names × XFrac)
entry_of labels slot = option_map (λ (names : Names). (names, slot.value)) (slice_get labels slot.place)

abbrev pub entries_of : List Names → List Slot → List (Names × XFrac)
entries_of labels slots = filter_map (entry_of labels) slots

abbrev pub row_of : Names × XFrac → Row
row_of entry = record { labels = entry.0; value = entry.1 }

-- values under labels as a step: its rows are in the order of labels
abbrev pub step_of : List (Names × XFrac) → Marks → Step
step_of entries marks = record { table = record { rows = map row_of (in_order entries) }; marks = marks }

abbrev pub stage_of : List Names → PlacedStep → StepAt
stage_of labels step = record { at = step.at; step = step_of (entries_of labels step.slots) step.marks }

-- the steps that are lent, at their instants
abbrev pub stages : Lent → List StepAt
stages lent = map (stage_of lent.labels) lent.steps

-- ---- what the calls change

abbrev pub no_marks : Marks
no_marks = record { fatal = []; notes = [] }

-- a step without rows, marks and notes
abbrev pub blank : Ms → PlacedStep
blank at = record { at = at; slots = []; marks = no_marks }

abbrev pub begun : Lent → Ms → Lent
begun lent at = record { labels = lent.labels; steps = lent.steps ++ blank at ∷ [] }

-- the last one is changed
abbrev pub on_last : {A : Type 0} → (A → A) → List A → List A
on_last f [] = []
on_last f (s ∷ []) = f s ∷ []
on_last f (s ∷ t ∷ ss) = s ∷ on_last f (t ∷ ss)

-- a slot goes before the first one with a later place
abbrev pub insert_slot : List Slot → ℕ → XFrac → List Slot
insert_slot [] place value = record { place = place; value = value } ∷ []
insert_slot (s ∷ slots) place value =
    if nat_lt s.place place then s ∷ insert_slot slots place value else record { place = place; value = value } ∷ s ∷ slots

abbrev pub with_slot : ℕ → XFrac → PlacedStep → PlacedStep
with_slot place value step = record { at = step.at; slots = insert_slot step.slots place value; marks = step.marks }

abbrev pub put : Lent → ℕ → XFrac → Lent
put lent place value = record { labels = lent.labels; steps = on_last (with_slot place value) lent.steps }

abbrev pub with_marks : Marks → PlacedStep → PlacedStep
with_marks marks step = record { at = step.at; slots = step.slots; marks = united step.marks marks }

abbrev pub united_last : Lent → Marks → Lent
united_last lent marks = record { labels = lent.labels; steps = on_last (with_marks marks) lent.steps }

-- the same of the steps that are lent

abbrev pub entry_in : Row → Names × XFrac
entry_in row = (row.labels, row.value)

-- a step with one row more
abbrev pub stage_with_row : Names → XFrac → StepAt → StepAt
stage_with_row names value stage = record {
  at = stage.at;
  step = record { table = record { rows = map row_of (put_into (map entry_in stage.step.table.rows) (names, value)) }; marks = stage.step.marks };
}

-- a step with more marks and notes
abbrev pub stage_with_marks : Marks → StepAt → StepAt
stage_with_marks marks stage = record { at = stage.at; step = record { table = stage.step.table; marks = united stage.step.marks marks } }

-- ---- what the calls ask for

-- an instant is later than the last step's
abbrev pub LaterThanLast : List PlacedStep → Ms → Type 0
LaterThanLast [] at = ⊤
LaterThanLast (s ∷ []) at = s.at.0 <ℤ at.0
LaterThanLast (s ∷ t ∷ steps) at = LaterThanLast (t ∷ steps) at

abbrev pub IsLater : Lent → Ms → Type 0
IsLater lent at = LaterThanLast lent.steps at

-- the slots of the last step
abbrev pub last_slots : List PlacedStep → List Slot
last_slots [] = []
last_slots (s ∷ []) = s.slots
last_slots (s ∷ t ∷ steps) = last_slots (t ∷ steps)

abbrev pub has_slot : ℕ → List Slot → Bool
has_slot place [] = false
has_slot place (s ∷ slots) = (place == s.place) || has_slot place slots

-- a step was begun, and all its slots stand before a place
abbrev pub IsFreeFrom : ℕ → Lent → Type 0
IsFreeFrom low lent = (0 < length lent.steps) × AllByRecursion (λ (s : Slot). s.place < low) (last_slots lent.steps)

-- ---- how many rows there are

abbrev pub count_of_slots : List PlacedStep → ℕ
count_of_slots steps = sum_by (λ (s : PlacedStep). length s.slots) steps

-- there are fewer rows than half as many as labels
abbrev pub has_few_rows : Lent → Bool
has_few_rows lent = nat_lt (count_of_slots lent.steps) (length lent.labels / 2)
