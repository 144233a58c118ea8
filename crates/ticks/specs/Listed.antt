-- The instants of a walk as a list, which is what is owed for a walk, one step an instant. (This project's own.)
use Rattle.std.specs.Prelude.{◌≡◌, ◌+◌, ⊤, ℕ, ℤ, ◌<ℤ◌, ◌≤ℤ◌, ◌↔◌, List, [], ◌∷◌, Option, Some, IfSome, IfNone, slice_get}
use Rattle.std.specs.List.{AllByRecursion, Contains}
use Rattle.ticks.specs.Walks.{IsInstant, LeadsToTimes}
use Rattle.ticks.specs.declared.moment.Ms.{Ms}
use Rattle.ticks.specs.declared.walk.Walk.{Walk}

-- each time is earlier than those behind it
abbrev pub AreRising : List Ms → Type 0
AreRising [] = ⊤
AreRising (t ∷ ts) = AllByRecursion (λ u. t.0 <ℤ u.0) ts × AreRising ts

-- the times are the instants of a walk, in rising order
pub record IsListed (walk : Walk) (times : List Ms) : Type 0 where
  pub rising : AreRising times
  pub instants : (t : Ms) → Contains times t ↔ IsInstant walk t.0

-- the least instant, where there is one
pub record IsFirst (walk : Walk) (first : Option Ms) : Type 0 where
  pub instant : IfSome first (λ at. IsInstant walk at.0)
  pub least : IfSome first (λ at. (t : ℤ) → IsInstant walk t → at.0 ≤ℤ t)
  pub none : IfNone first ((t : ℤ) → IsInstant walk t → ⊥)

-- the least instant that is later than a time, where there is one
pub record IsNext (walk : Walk) (t : ℤ) (next : Option Ms) : Type 0 where
  pub instant : IfSome next (λ at. IsInstant walk at.0)
  pub later : IfSome next (λ at. t <ℤ at.0)
  pub least : IfSome next (λ at. (u : ℤ) → IsInstant walk u → t <ℤ u → at.0 ≤ℤ u)
  pub none : IfNone next ((u : ℤ) → IsInstant walk u → t <ℤ u → ⊥)

-- ---- what users rely on

-- each walk that leads to times has a list of its instants, and only one
abbrev pub EachWalkIsListed : Type 0
EachWalkIsListed = (walk : Walk) → LeadsToTimes walk → (times : List Ms) × IsListed walk times

abbrev pub ListsAreOne : Type 0
ListsAreOne = (walk : Walk) (times others : List Ms) → IsListed walk times → IsListed walk others → times ≡ others

-- the first instant is the head of the list, and after an instant of the list comes the next one of it
abbrev pub FirstIsHead : Type 0
FirstIsHead = (walk : Walk) (times : List Ms) (first : Option Ms) → IsListed walk times → IsFirst walk first → first ≡ slice_get times 0

abbrev pub NextIsBehind : Type 0
NextIsBehind =
    (walk : Walk) (times : List Ms) (k : ℕ) (t : Ms) (next : Option Ms) → IsListed walk times → slice_get times k ≡ Some t → IsNext walk t.0 next →
    next ≡ slice_get times (k + 1)
