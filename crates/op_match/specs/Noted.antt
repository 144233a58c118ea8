-- Numbers of a list that are noted in a table by where they stand, which need not be cleared: an entry counts where the
-- list agrees. (Briggs and Torczon, "An efficient representation for sparse sets".)
use Rattle.std.specs.Prelude.{◌≡◌, ◌<◌, ℕ, List, slice_get, Some}
use Rattle.std.specs.List.{AllByRecursion}

-- at each number of the list stands its place
abbrev pub IsNoted : List ℕ → List ℕ → Type 0
IsNoted at keys = (j k : ℕ) → slice_get keys j ≡ Some k → slice_get at k ≡ Some j

-- all are below a bound
abbrev pub AreBelow : ℕ → List ℕ → Type 0
AreBelow bound keys = AllByRecursion (λ (k : ℕ). k < bound) keys
