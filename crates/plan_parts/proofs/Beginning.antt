-- Where a walk begins.
use Rattle.std.proofs.Common.{◌≡◌, List, [], ◌∷◌, Option, Some, None, refl}
use Rattle.std.specs.Prelude.{pos, slice_get, unwrap_or}
use Rattle.plan_work.specs.PlanBounds.{first_of}
use Rattle.plan_work.specs.TreeBounds.{BeginsAt}
use Rattle.ticks.specs.Listed.{FirstIsHead, IsFirst}
use Rattle.ticks.specs.declared.moment.Ms.{Ms}
use Rattle.ticks.specs.declared.walk.Walk.{Walk}

-- the first of some instants, where there is one
first_found : (at : List Ms) (first : Option Ms) → first ≡ slice_get at 0 → unwrap_or first (record { 0 = pos 0 }) ≡ first_of at
first_found [] None e = refl
first_found [] (Some t) e = absurd (cc)
first_found (u ∷ at) None e = absurd (cc)
first_found (u ∷ at) (Some t) e = cc

pub begins : FirstIsHead → (walk : Walk) (first : Option Ms) → IsFirst walk first → BeginsAt walk (unwrap_or first (record { 0 = pos 0 }))
begins law walk first is at listed = first_found at first (law walk at first listed is)
