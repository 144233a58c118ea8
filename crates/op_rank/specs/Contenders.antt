-- The rows of a step by numbers alone: each has the place of its group, and the rank of its labels among all that are fed.
-- (This project's own.)
use Rattle.std.specs.Prelude.{◌≡◌, ℕ, zero, suc, ◌+◌, ◌<◌, Bool, ◌==◌, ◌&&◌, nat_lt, List, [], ◌∷◌, length, filter, count_by, slice_get, slice_index_or, Some, Ok, if◌then◌else◌}
use Rattle.std.specs.List.{AllByRecursion, list_any}
use Rattle.std.specs.Ordering.{is_lt, nat_cmp, ordering_then}
use Rattle.std.specs.declared.cmp.Ordering.{Ordering}
use Rattle.label_set.specs.Labels.{labels_cmp}
use Rattle.promql_meaning.specs.NumberOrder.{tidy}
use Rattle.promql_meaning.specs.Ranks.{value_order}
use Rattle.step_batch.specs.declared.steps.Slot.{Slot}
use Rattle.step_put.specs.declared.placed.PlacedOutcome.{PlacedOutcome}
use Rattle.step_table.specs.Groups.{Names}
use Rattle.xfrac.specs.Laws.{IsNumber}
use Rattle.op_rank.specs.declared.best.Best.{Best}
use Rattle.op_rank.specs.declared.best.Contender.{Contender}

-- ---- slots

-- the number at the place of a slot
abbrev pub number_at : List ℕ → Slot → ℕ
number_at numbers slot = slice_index_or numbers slot.place 0

-- by value, those of equal values by the ranks of their labels
abbrev pub slot_order : Bool → List ℕ → Slot → Slot → Ordering
slot_order down ranks a b = ordering_then (value_order down a.value b.value) (nat_cmp (number_at ranks a) (number_at ranks b))

-- another slot of the same group comes before a slot
abbrev pub goes_ahead : Bool → List ℕ → List ℕ → Slot → Slot → Bool
goes_ahead down groups ranks slot other = (number_at groups slot == number_at groups other) && is_lt (slot_order down ranks other slot)

-- fewer than k slots of its group come before a slot
abbrev pub is_chosen : Bool → List ℕ → List ℕ → ℕ → List Slot → Slot → Bool
is_chosen down groups ranks k slots slot = nat_lt (count_by (goes_ahead down groups ranks slot) slots) k

-- the first k slots of each group
abbrev pub chosen : Bool → List ℕ → List ℕ → ℕ → List Slot → List Slot
chosen down groups ranks k slots = filter (is_chosen down groups ranks k slots) slots

-- a slot as what is made of it
abbrev pub as_made : Slot → PlacedOutcome
as_made slot = record { place = slot.place; value = Ok (Some slot.value) }

-- ranks stand to one another as the labels at their places
pub record AreRanks (labels : List Names) (ranks : List ℕ) : Type 0 where
  pub count : length ranks ≡ length labels
  pub order : (i j : ℕ) (a b : Names) → slice_get labels i ≡ Some a → slice_get labels j ≡ Some b → nat_cmp (slice_index_or ranks i 0) (slice_index_or ranks j 0) ≡ labels_cmp a b

-- no rank stands twice
abbrev pub AreApart : List ℕ → Type 0
AreApart ranks = (i j : ℕ) → i < length ranks → j < length ranks → slice_index_or ranks i 0 ≡ slice_index_or ranks j 0 → i ≡ j

-- ---- contenders

-- a slot by numbers alone
abbrev pub contender_of : List ℕ → ℕ → Slot → Contender
contender_of ranks at slot = record { at = at; value = slot.value; rank = number_at ranks slot }

-- the slots of a group, where slots are numbered from one on
abbrev pub contenders_in : List ℕ → List ℕ → ℕ → ℕ → List Slot → List Contender
contenders_in groups ranks group at [] = []
contenders_in groups ranks group at (slot ∷ slots) =
    if group == number_at groups slot then contender_of ranks at slot ∷ contenders_in groups ranks group (at + 1) slots
    else contenders_in groups ranks group (at + 1) slots

-- by value, those of equal values by rank
abbrev pub contender_order : Bool → Contender → Contender → Ordering
contender_order down a b = ordering_then (value_order down a.value b.value) (nat_cmp a.rank b.rank)

-- the same order, of all that look like numbers
abbrev pub tidied : Contender → Contender
tidied c = record { at = c.at; value = tidy c.value; rank = c.rank }

unfoldable pub tidied_order : Bool → Contender → Contender → Ordering
tidied_order down a b = contender_order down (tidied a) (tidied b)

-- a contender comes before another
abbrev pub before : Bool → Contender → Contender → Bool
before down a b = is_lt (tidied_order down a b)

abbrev pub AreNumbers : List Slot → Type 0
AreNumbers slots = AllByRecursion (λ (slot : Slot). IsNumber slot.value) slots

-- what is kept of a group; nothing where there is no such group
abbrev pub kept_in : List Best → ℕ → List Contender
kept_in [] group = []
kept_in (b ∷ best) zero = b.kept.items
kept_in (b ∷ best) (suc group) = kept_in best group

-- ---- marks

-- one of some contenders has a number
abbrev pub has_at : ℕ → List Contender → Bool
has_at at some = list_any (λ (c : Contender). c.at == at) some

-- one that is kept of some group has it
abbrev pub is_in_some : ℕ → List Best → Bool
is_in_some at best = list_any (λ (b : Best). has_at at b.kept.items) best

-- the slots that have a mark
abbrev pub marked : List Bool → List Slot → List Slot
marked (mark ∷ marks) (slot ∷ slots) = if mark then slot ∷ marked marks slots else marked marks slots
marked _ _ = []
