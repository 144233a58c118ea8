-- What holds of steps that are lent, wherever their labels have their places.
use Rattle.std.specs.Prelude.{◌≡◌, ◌≤◌, ℕ, false, List, length, map}
use Rattle.std.specs.List.Sorted.{IsStrictlySortedBy}
use Rattle.std.specs.Map.{keys_of}
use Rattle.label_set.specs.Labels.{labels_cmp}
use Rattle.step_table.specs.Groups.{Names}
use Rattle.step_table.specs.Shuffles.{Shuffled}
use Rattle.step_table.specs.WellFormed.{IsTable}
use Rattle.step_table.specs.declared.step.Row.{Row}
use Rattle.xfrac.specs.declared.value.XFrac.{XFrac}
use Rattle.step_batch.specs.Lent.{IsFreeFrom, IsLent, Lent, SlotsRise, entries_of, has_slot, last_slots, row_of, stage_of}
use Rattle.step_batch.specs.Tables.{in_order}
use Rattle.step_batch.specs.declared.steps.PlacedStep.{PlacedStep}

-- the rows that the slots of a step stand for, in the order of places
abbrev pub rows_at : List Names → PlacedStep → List Row
rows_at labels s = map row_of (entries_of labels s.slots)

-- the rows of a lent step are a table
abbrev pub LentRowsAreTables : Type 0
LentRowsAreTables = (labels : List Names) (s : PlacedStep) → IsTable (stage_of labels s).step.table.rows

-- and they are those that its slots stand for, in another order
abbrev pub LentRowsAreThoseOfSlots : Type 0
LentRowsAreThoseOfSlots =
    (lent : Lent) (s : PlacedStep) → IsLent lent → SlotsRise 0 (length lent.labels) s.slots → Shuffled (rows_at lent.labels s) (stage_of lent.labels s).step.table.rows

-- values that are in the order of their labels are their own table
abbrev pub SortedRowsAreTables : Type 0
SortedRowsAreTables = (entries : List (Names × XFrac)) → IsStrictlySortedBy labels_cmp (keys_of entries) → in_order entries ≡ entries

-- two lent steps of one instant, with the same marks and notes and the same rows at other places, are one step
abbrev pub PlacesAreNotSeen : Type 0
PlacesAreNotSeen =
    (a b : Lent) (s t : PlacedStep) → IsLent a → IsLent b → SlotsRise 0 (length a.labels) s.slots → SlotsRise 0 (length b.labels) t.slots →
    s.at ≡ t.at → s.marks ≡ t.marks → Shuffled (rows_at a.labels s) (rows_at b.labels t) → stage_of a.labels s ≡ stage_of b.labels t

-- from a place on that is behind all slots of the last step, each place is free for a row
abbrev pub FreePlacesAreFree : Type 0
FreePlacesAreFree = (lent : Lent) (low place : ℕ) → low ≤ place → IsFreeFrom low lent → has_slot place (last_slots lent.steps) ≡ false
