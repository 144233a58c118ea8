-- The values of rows by the places of their groups. (This project's own.)
use Rattle.std.specs.Prelude.{◌≡◌, ◌<◌, ◌==◌, ℕ, Bool, true, List, [], ◌∷◌, ◌++◌, map, fold, filter, length, slice_get, slice_index_or, Option, Some, None, if◌then◌else◌, ⊤}
use Rattle.std.specs.List.{AllByRecursion, filter_map, list_any}
use Rattle.std.specs.Map.{keys_of, values_of}
use Rattle.std.specs.Option.{option_map}
use Rattle.func_table.specs.declared.table.Aggregate.{Aggregate}
use Rattle.step_batch.specs.declared.steps.Slot.{Slot}
use Rattle.step_table.specs.Groups.{Names}
use Rattle.step_table.specs.Shuffles.{Shuffled}
use Rattle.step_table.specs.declared.marks.Mark.{Mark}
use Rattle.step_table.specs.declared.marks.Mark.TheVariants.{Overflow}
use Rattle.step_table.specs.declared.outcomes.Outcome.{Outcome}
use Rattle.xfrac.specs.Laws.{IsNumber}
use Rattle.xfrac.specs.declared.value.XFrac.{XFrac}
use Rattle.op_aggregate.specs.Tallies.{HasNumbers, group_of, group_value, or_overflow}
use Rattle.op_aggregate.specs.declared.groups.Groups.{Groups}
use Rattle.op_aggregate.specs.declared.tally.Group.{Group}

-- ---- places

abbrev pub has_place : ℕ → List ℕ → Bool
has_place place places = list_any (λ p. place == p) places

-- a place behind others, unless it is among them
abbrev pub with_place : List ℕ → ℕ → List ℕ
with_place places place = if has_place place places then places else places ++ place ∷ []

-- the places of values, each once, in the order in which they come
abbrev pub places_of : List (ℕ × XFrac) → List ℕ
places_of items = fold with_place [] (keys_of items)

-- no place stands twice
abbrev pub AreApart : List ℕ → Type 0
AreApart [] = ⊤
AreApart (p ∷ places) = ((has_place p places ≡ true) → ⊥) × AreApart places

-- ---- values

-- the values at a place
abbrev pub values_at : List (ℕ × XFrac) → ℕ → List XFrac
values_at items place = values_of (filter (λ (e : ℕ × XFrac). place == e.0) items)

-- the values of slots, each at the place of its group, which stands in a list by the place of the slot
abbrev pub items_at : List ℕ → List Slot → List (ℕ × XFrac)
items_at places slots = map (λ (s : Slot). (slice_index_or places s.place 0, s.value)) slots

-- ---- groups

-- the groups keep of each place what is kept of its values, and know which places have some
pub record AreTallied (items : List (ℕ × XFrac)) (groups : Groups) : Type 0 where
  pub numbers : AllByRecursion IsNumber (values_of items)
  pub within : AllByRecursion (λ (e : ℕ × XFrac). e.0 < length groups.all.items) items
  pub kept : (q : ℕ) → q < length groups.all.items → slice_get groups.all.items q ≡ Some (group_of groups.f (values_at items q))
  pub filled : Shuffled (places_of items) groups.filled.items

-- a group is there, and what is kept in it is of one value at least
abbrev pub IsReady : Option Group → Type 0
IsReady None = ⊥
IsReady (Some group) = HasNumbers group.tally

abbrev pub AreReady : List Group → List ℕ → Type 0
AreReady all places = AllByRecursion (λ q. IsReady (slice_get all q)) places

-- what is made of the group at a place, under its labels
abbrev pub group_made : Aggregate → List Names → List Group → ℕ → Option Outcome
group_made f labels all q = option_map (λ (g : Group). record { labels = slice_index_or labels q []; value = or_overflow (group_value f g) }) (slice_get all q)

abbrev pub groups_made : Aggregate → List Names → List Group → List ℕ → List Outcome
groups_made f labels all places = filter_map (group_made f labels all) places

-- the mark of an overflow, if there was one
abbrev pub overflow_if : Bool → List Mark
overflow_if b = if b then Overflow ∷ [] else []
