-- Counts that rise from a place on. Our own: so it is known how many samples lie before each chunk.
use Rattle.std.specs.Prelude.{ℕ, ◌+◌, ◌-◌, ◌≤◌, List, [], ◌∷◌, zero, suc, length}
use Rattle.std.specs.List.{AllByRecursion}

-- how many samples there are, and how many lie before each part but the first
pub record Counted : Type 0 where
  pub total : ℕ
  pub starts : List ℕ

-- the numbers from a place on are raised
abbrev pub raised : ℕ → ℕ → List ℕ → List ℕ
raised k more [] = []
raised zero more (n ∷ ns) = (n + more) ∷ raised zero more ns
raised (suc k) more (n ∷ ns) = n ∷ raised k more ns

-- up to an edge numbers are kept as they are, and behind it as what is left to a total
abbrev pub seen : ℕ → ℕ → List ℕ → List ℕ
seen edge total [] = []
seen zero total (n ∷ ns) = (total - n) ∷ seen zero total ns
seen (suc edge) total (n ∷ ns) = n ∷ seen edge total ns

-- kept numbers are within the total, and the edge is among them
pub record AreKept (edge total : ℕ) (kept : List ℕ) : Type 0 where
  pub within : edge ≤ length kept
  pub few : AllByRecursion (λ n. n ≤ total) kept
