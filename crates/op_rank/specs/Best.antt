-- The first k of a list by an order, in no order of their own. (This project's own.)
use Rattle.std.specs.Prelude.{◌≡◌, ◌≤◌, ◌+◌, ℕ, Bool, false, not, List, ◌∷◌, ◌++◌, length, count_by}
use Rattle.std.specs.List.{AllByRecursion}
use Rattle.std.specs.List.Sorted.{IsPermutation}

-- some of all are kept: each one that is left out has k at least of these that it doesn't come before
pub record HoldsBest {X : Type 0} (before : X → X → Bool) (k : ℕ) (all kept : List X) : Type 0 where
  pub left_out : List X
  pub parted : IsPermutation all (kept ++ left_out)
  pub ahead : AllByRecursion (λ (x : X). k ≤ count_by (λ (b : X). not (before x b)) kept) left_out

-- the k best of all: of those that are kept there are at most k
abbrev pub AreBest : {X : Type 0} → (X → X → Bool) → ℕ → List X → List X → Type 0
AreBest before k all best = HoldsBest before k all best × (length best ≤ k)

-- none of the first k of some comes behind the one at their end
pub record HasLast {X : Type 0} (before : X → X → Bool) (k : ℕ) (some : List X) : Type 0 where
  pub front : List X
  pub last : X
  pub more : List X
  pub is : some ≡ front ++ last ∷ more
  pub count : length front + 1 ≡ k
  pub behind : AllByRecursion (λ (x : X). before last x ≡ false) front

-- k or more that are kept have the last of the best at the place k - 1
abbrev pub Keeps : {X : Type 0} → (X → X → Bool) → ℕ → List X → List X → Type 0
Keeps before k all kept = HoldsBest before k all kept × (k ≤ length kept → HasLast before k kept)
