-- Labels by their numbers, the count that is noted under a number, and the quotients of rows by these.
use Rattle.std.specs.Prelude.{◌≡◌, ◌<◌, ◌⊎◌, ℕ, List, [], ◌∷◌, length, slice_index_or, Option, None, Some, ⊤}
use Rattle.std.specs.List.{AllByRecursion}
use Rattle.logical_plan.specs.PlanRules.{divided_by}
use Rattle.step_batch.specs.declared.steps.Slot.{Slot}
use Rattle.step_put.specs.Placed.{IsPlaced}
use Rattle.step_put.specs.declared.labels_left.Left.TheVariants as kind
use Rattle.step_put.specs.declared.placed.PlacedOutcome.{PlacedOutcome}
use Rattle.xfrac.specs.declared.value.XFrac.{XFrac}
use Rattle.op_ratio.specs.declared.numbering.Numbering.{Numbering}

-- ---- numbers

-- each labels of both sides have their number, which is their place among the labels that were fed
pub record IsNumbered (n : Numbering) : Type 0 where
  pub sums_left : n.sums.left ≡ kind.All
  pub counts_left : n.counts.left ≡ kind.All
  pub sums : IsPlaced n.names n.sums
  pub counts : IsPlaced n.names n.counts

-- the numbers are below another
abbrev pub AreBelow : ℕ → List ℕ → Type 0
AreBelow high numbers = (i : ℕ) → i < length numbers → slice_index_or numbers i 0 < high

-- the number of a row's labels
abbrev pub number_of : List ℕ → Slot → ℕ
number_of numbers slot = slice_index_or numbers slot.place 0

-- ---- counts

-- what is noted under a number is the place of a row with this number
abbrev pub IsNoted : List ℕ → List ℕ → List Slot → ℕ → Type 0
IsNoted at numbers slots number =
    (slice_index_or at number 0 < length slots) × ((d : Slot) → number_of numbers (slice_index_or slots (slice_index_or at number 0) d) ≡ number)

-- this holds of the numbers of the first so many rows
abbrev pub AreNoted : ℕ → List ℕ → List ℕ → List Slot → Type 0
AreNoted count at numbers slots = (k : ℕ) (d : Slot) → k < count → IsNoted at numbers slots (number_of numbers (slice_index_or slots k d))

-- one of some rows has a number, and a value
abbrev pub HasCount : List ℕ → ℕ → XFrac → List Slot → Type 0
HasCount numbers number value [] = ⊥
HasCount numbers number value (s ∷ slots) = ((number_of numbers s ≡ number) × (s.value ≡ value)) ⊎ HasCount numbers number value slots

-- the count under a number is the value of a row that has it; there is none where no row has it
abbrev pub IsCount : List ℕ → List Slot → ℕ → Option XFrac → Type 0
IsCount numbers counts number None = AllByRecursion (λ (s : Slot). number_of numbers s ≡ number → ⊥) counts
IsCount numbers counts number (Some value) = HasCount numbers number value counts

-- ---- quotients

-- at the place of a row of the sum stands its quotient by the count under its number
pub record IsQuotient (sum_numbers count_numbers : List ℕ) (counts : List Slot) (s : Slot) (p : PlacedOutcome) : Type 0 where
  pub place : p.place ≡ s.place
  pub count : Option XFrac
  pub found : IsCount count_numbers counts (number_of sum_numbers s) count
  pub value : p.value ≡ divided_by count s.value

-- one for each row, in the order of rows
abbrev pub AreQuotients : List ℕ → List ℕ → List Slot → List Slot → List PlacedOutcome → Type 0
AreQuotients sum_numbers count_numbers counts [] [] = ⊤
AreQuotients sum_numbers count_numbers counts (s ∷ sums) (p ∷ placed) = IsQuotient sum_numbers count_numbers counts s p × AreQuotients sum_numbers count_numbers counts sums placed
AreQuotients sum_numbers count_numbers counts _ _ = ⊥
