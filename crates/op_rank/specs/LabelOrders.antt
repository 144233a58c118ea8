-- The order of labels that are fed, as numbers: the places of labels in their order, and the rank of each place among these.
-- (This project's own.)
use Rattle.std.specs.Prelude.{◌≡◌, ℕ, ◌+◌, ◌<◌, List, [], ◌∷◌, length, map, slice_index_or, ⊤}
use Rattle.std.specs.List.{All, Contains}
use Rattle.std.specs.List.Sorted.{IsStrictlySortedBy}
use Rattle.label_set.specs.Labels.{labels_cmp}
use Rattle.step_table.specs.Groups.{Names}
use Rattle.op_rank.specs.declared.label_order.LabelAt.{LabelAt}

-- the labels at a place
abbrev pub names_at : List Names → ℕ → Names
names_at labels place = slice_index_or labels place []

-- labels rise from each of some places to the next
abbrev pub LabelsRise : List Names → List ℕ → Type 0
LabelsRise labels places = IsStrictlySortedBy labels_cmp (map (names_at labels) places)

-- labels beside their places, from one on
abbrev pub AreListed : ℕ → List Names → List LabelAt → Type 0
AreListed place [] [] = ⊤
AreListed place (names ∷ labels) (one ∷ all) = (one.place ≡ place) × (one.labels.now ≡ names) × AreListed (place + 1) labels all
AreListed place _ _ = ⊥

-- the places of labels in the order of labels
pub record ArePlaces (labels : List Names) (places : List ℕ) : Type 0 where
  pub count : length places ≡ length labels
  pub within : All (λ (place : ℕ). place < length labels) places
  pub rise : LabelsRise labels places
  pub all : (place : ℕ) → place < length labels → Contains places place

-- each rank tells where its place stands among places
pub record AreInverse (places ranks : List ℕ) : Type 0 where
  pub count : length ranks ≡ length places
  pub within : All (λ (place : ℕ). place < length places) places
  pub below : (place : ℕ) → place < length places → slice_index_or ranks place 0 < length places
  pub back : (place : ℕ) → place < length places → slice_index_or places (slice_index_or ranks place 0) 0 ≡ place
