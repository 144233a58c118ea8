-- Values that come to one place, in any order. (This project's own.)
use Rattle.std.specs.Prelude.{◌≡◌, ◌<◌, ◌+◌, ◌==◌, ℕ, zero, suc, Bool, true, false, List, [], ◌∷◌, length, set, filter, Option, None, Some, Result, Ok, Err, slice_get, slice_index_or, if◌then◌else◌}
use Rattle.std.specs.List.{cons_option, filter_map}
use Rattle.std.specs.Option.{option_map}
use Rattle.step_batch.specs.declared.steps.Slot.{Slot}
use Rattle.step_put.specs.declared.cells.Cell.{Cell}
use Rattle.step_put.specs.declared.cells.Cell.TheVariants.{Empty, One, Several}
use Rattle.step_put.specs.declared.owners.Owners.{Owners}
use Rattle.step_put.specs.declared.owners.Owners.TheVariants as owner
use Rattle.step_table.specs.Groups.{Names}
use Rattle.step_table.specs.declared.marks.Mark.{Mark}
use Rattle.step_table.specs.declared.marks.Mark.TheVariants.{SameLabelset}
use Rattle.xfrac.specs.declared.value.NumFault.{NumFault}
use Rattle.xfrac.specs.declared.value.XFrac.{XFrac}

-- ---- what came to places

-- nothing, a value, or several
abbrev pub cell_of : List Slot → Cell
cell_of [] = Empty
cell_of (s ∷ []) = One s.value
cell_of (s ∷ t ∷ slots) = Several

-- one value more
abbrev pub joined_by : Cell → XFrac → Cell
joined_by Empty value = One value
joined_by (One one) value = Several
joined_by Several value = Several

-- the slots at a place
abbrev pub slots_at : ℕ → List Slot → List Slot
slots_at place slots = filter (λ (s : Slot). s.place == place) slots

-- what came to so many places, from one on
abbrev pub cells_from : ℕ → ℕ → List Slot → List Cell
cells_from place zero slots = []
cells_from place (suc count) slots = cell_of (slots_at place slots) ∷ cells_from (place + 1) count slots

abbrev pub cells_of : ℕ → List Slot → List Cell
cells_of count slots = cells_from 0 count slots

-- where a value is made, it comes to its place
abbrev pub taken_by : List Cell → ℕ → Result (Option XFrac) NumFault → List Cell
taken_by cells place (Ok (Some value)) = set cells place (joined_by (slice_index_or cells place Empty) value)
taken_by cells place (Ok None) = cells
taken_by cells place (Err x) = cells

-- ---- alone and together

abbrev pub lone_slot : ℕ → Cell → Option Slot
lone_slot place Empty = None
lone_slot place (One value) = Some (record { place = place; value = value })
lone_slot place Several = None

-- the values that came alone to their places, from one on
abbrev pub lone_slots : ℕ → List Cell → List Slot
lone_slots place [] = []
lone_slots place (cell ∷ cells) = cons_option (lone_slot place cell) (lone_slots (place + 1) cells)

abbrev pub is_shared : Cell → Bool
is_shared Empty = false
is_shared (One value) = false
is_shared Several = true

-- the places to which several values came, from one on
abbrev pub shared_places : ℕ → List Cell → List ℕ
shared_places place [] = []
shared_places place (cell ∷ cells) = if is_shared cell then place ∷ shared_places (place + 1) cells else shared_places (place + 1) cells

-- the mark of labels that rows share, at a place
abbrev pub mark_at : List Names → ℕ → Option Mark
mark_at labels place = option_map SameLabelset (slice_get labels place)

abbrev pub marks_at : List Names → List ℕ → List Mark
marks_at labels places = filter_map (mark_at labels) places

-- ---- places that one of the labels that are fed has alone

abbrev pub with_owner : Owners → Owners
with_owner owner.Nobody = owner.One
with_owner owner.One = owner.Several
with_owner owner.Several = owner.Several

abbrev pub is_single : Owners → Bool
is_single owner.Nobody = false
is_single owner.One = true
is_single owner.Several = false

-- whether a place is noted as that of one labels alone; of a place that isn't noted nothing is known
abbrev pub is_single_at : List Owners → ℕ → Bool
is_single_at owners place = is_single (slice_index_or owners place owner.Several)

-- a place that stands twice in a list isn't noted so
abbrev pub AreApart : List Owners → List ℕ → Type 0
AreApart owners places =
    (i j : ℕ) → i < j → j < length places → slice_index_or places i 0 ≡ slice_index_or places j 0 → is_single_at owners (slice_index_or places j 0) ≡ false
