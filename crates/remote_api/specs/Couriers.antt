-- Which of some engines is picked. (This project's own.)
use Rattle.std.specs.Prelude.{◌≡◌, ◌⊎◌, ◌<◌, ◌≤◌, ℕ, Bool, true, List, [], ◌∷◌, slice_get, Some}

-- the first live place from one on
pub record IsFirstLive (live : List Bool) (from place : ℕ) : Type 0 where
  pub live_there : slice_get live place ≡ Some true
  pub behind : from ≤ place
  pub first : (k : ℕ) → from ≤ k → k < place → slice_get live k ≡ Some true → ⊥

-- no place is live from one on
abbrev pub NoneLive : List Bool → ℕ → Type 0
NoneLive live from = (k : ℕ) → from ≤ k → slice_get live k ≡ Some true → ⊥

-- the next live place from one on, and from the first place on where none is live behind it
abbrev pub IsNextLive : List Bool → ℕ → ℕ → Type 0
IsNextLive live from place = IsFirstLive live from place ⊎ (NoneLive live from × IsFirstLive live 0 place)

-- a pick of a list of numbers: the next live place from its first number on, which is used up; where no number is left, the first
-- live place
abbrev pub IsListedPick : List Bool → ℕ → List ℕ → List ℕ → Type 0
IsListedPick live place [] after = IsFirstLive live 0 place × (after ≡ [])
IsListedPick live place (number ∷ numbers) after = IsNextLive live number place × (after ≡ numbers)
