-- Rows that are brought into the order of their places.
use Rattle.std.specs.Prelude.{◌≡◌, ◌<◌, ◌+◌, ℕ, List, [], ◌∷◌, length, slice_index_or, ⊤}
use Rattle.std.specs.List.{AllByRecursion}
use Rattle.step_batch.specs.declared.steps.Slot.{Slot}

-- no two rows have one place
abbrev pub AreApart : List Slot → Type 0
AreApart [] = ⊤
AreApart (s ∷ slots) = AllByRecursion (λ (t : Slot). s.place ≡ t.place → ⊥) slots × AreApart slots

-- the places of rows are below a number
abbrev pub AreWithin : ℕ → List Slot → Type 0
AreWithin high slots = AllByRecursion (λ (s : Slot). s.place < high) slots

-- each row stands behind the place of the one before it
abbrev pub DoRise : List Slot → Type 0
DoRise slots = (k : ℕ) (d : Slot) → k + 1 < length slots → (slice_index_or slots k d).place < (slice_index_or slots (k + 1) d).place
