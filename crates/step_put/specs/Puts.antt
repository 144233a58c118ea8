-- Labels at their places.
use Rattle.std.specs.Prelude.{◌≡◌, ℕ, List, [], ◌∷◌, map, slice_get, Some, ⊤}
use Rattle.step_table.specs.Groups.{Names}
use Rattle.step_table.specs.declared.step.Row.{Row}

abbrev pub names_in : List Row → List Names
names_in rows = map (λ (row : Row). row.labels) rows

-- there are as many places as labels, and each labels stand at their place
abbrev pub AreAt : List Names → List Names → List ℕ → Type 0
AreAt labels [] [] = ⊤
AreAt labels (n ∷ names) (p ∷ places) = (slice_get labels p ≡ Some n) × AreAt labels names places
AreAt labels _ _ = ⊥
