-- Which paths a library was asked for. This is this project's own.
use Rattle.std.specs.Prelude.{◌≡◌, ℕ, List, [], ◌∷◌, ◌++◌}

-- These paths were fetched, one after another, and nothing else: the library went from one state to the other by them.
abbrev pub Fetches : {L : Type 0} → (L → List ℕ → L → Type 0) → List (List ℕ) → L → L → Type 0
Fetches fetch [] before now = now ≡ before
Fetches {L} fetch (path ∷ paths) before now = (between : L) × fetch before path between × Fetches fetch paths between now

-- Of these paths the first were fetched, each once and in order, and nothing else.
pub record FetchesFront {L : Type 0} (fetch : L → List ℕ → L → Type 0) (paths : List (List ℕ)) (before now : L) : Type 0 where
  pub fetched : List (List ℕ)
  pub left : List (List ℕ)
  pub parts : fetched ++ left ≡ paths
  pub states : Fetches fetch fetched before now
