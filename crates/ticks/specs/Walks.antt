-- Walks: the instants that a part of a query is evaluated at, as a set of times in milliseconds. A subquery of PromQL is
-- evaluated at the multiples of its step in the range that ends at its moment (Prometheus, "Subquery"); the range is open or
-- closed on the left, as its moment says. How walks are put together is this project's own.
use Rattle.std.specs.Prelude.{◌≡◌, ◌^◌, ⊤, Bool, refl, ℤ, pos, neg_ℤ, ◌-ℤ◌, ◌<ℤ◌, ◌≤ℤ◌, Option, None, Some}
use Rattle.ticks.specs.Edges.{IsFrom}
use Rattle.ticks.specs.Grids.{IsOnGrid}
use Rattle.ticks.specs.Steps.{IsMultiple}
use denote.Hole.Carrier.{hidden}
use Rattle.ticks.specs.declared.moment.Ms.{Ms}
use Rattle.ticks.specs.declared.walk.Walk.{Walk}
use Rattle.ticks.specs.declared.walk.Walk.{Grid, Fixed, Multiples', end_of-Walk, more_of-Walk}
use Rattle.ticks.specs.declared.walk.Walk.TheBlock.{hidden-the_row-Walk-0}
use Rattle.ticks.specs.declared.walk.Walk.TheVariants.{Multiples}
use Rattle.ticks.specs.declared.walk.WalkMoment.{WalkMoment}

-- the multiples of a step in the range that ends at a moment; the range's left edge is taken where it is closed
pub record IsInWindow (closed : Bool) (moment range step t : ℤ) : Type 0 where
  pub from_edge : IsFrom closed (moment -ℤ range) t
  pub to_moment : t ≤ℤ moment
  pub on_step : IsMultiple step t

-- the least multiple that is later than a time, in the range that ends at a moment
pub record IsFirstInWindow (closed : Bool) (moment range step t at : ℤ) : Type 0 where
  pub in_window : IsInWindow closed moment range step at
  pub later : t <ℤ at
  pub least : (u : ℤ) → IsMultiple step u → t <ℤ u → IsFrom closed (moment -ℤ range) u → at ≤ℤ u

-- no multiple in the range that ends at a moment is later than a time
pub record IsBarren (closed : Bool) (moment range step t : ℤ) : Type 0 where
  pub none : (u : ℤ) → IsInWindow closed moment range step u → t <ℤ u → ⊥

-- the moment that belongs to an instant: the fixed time, if there is one, or the instant, less the offset
abbrev pub moment_at : WalkMoment → ℤ → ℤ
moment_at moment t = less_offset moment.fixed
  where
    less_offset : Option Ms → ℤ
    less_offset None = t -ℤ moment.offset.0
    less_offset (Some at) = at.0 -ℤ moment.offset.0

-- the instants of a walk
abbrev pub IsInstant : Walk → ℤ → Type 0
IsInstant (Grid g) t = IsOnGrid g.start.0 g.end.0 g.step.0 t
IsInstant (Fixed at) t = t ≡ at.0
IsInstant (Multiples' p (more_of-Walk outer end_of-Walk) moment range step) t =
    (o : ℤ) × IsInstant outer o × IsInWindow moment.closed (moment_at moment o) range.0 step.0 t

-- a time that is at most 2^60 in magnitude
pub record IsTime (t : ℤ) : Type 0 where
  pub low : neg_ℤ (pos (2 ^ 60)) ≤ℤ t
  pub high : t ≤ℤ pos (2 ^ 60)

-- the ranges that end at a moment lie within the times
pub record HasTimes (moment range : ℤ) : Type 0 where
  pub ends : IsTime moment
  pub begins : IsTime (moment -ℤ range)

-- each time that a walk leads to is at most 2^60 in magnitude, and its ranges and steps are positive
abbrev pub LeadsToTimes : Walk → Type 0
LeadsToTimes (Grid g) = ⊤
LeadsToTimes (Fixed at) = IsTime at.0
LeadsToTimes (Multiples' p (more_of-Walk outer end_of-Walk) moment range step) =
    LeadsToTimes outer × (pos 0 <ℤ range.0) × (pos 0 <ℤ step.0)
    × ((o : ℤ) → IsInstant outer o → HasTimes (moment_at moment o) range.0)

-- what the two say of the multiples in the ranges of an outer walk
pub multiples-instants : (outer : Walk) (moment : WalkMoment) (range step : Ms) (t : ℤ) → IsInstant (Multiples outer moment range step) t
    ≡ ((o : ℤ) × IsInstant outer o × IsInWindow moment.closed (moment_at moment o) range.0 step.0 t)
unfolding hidden-the_row-Walk-0 hidden
multiples-instants outer moment range step t = refl

pub multiples-times : (outer : Walk) (moment : WalkMoment) (range step : Ms) → LeadsToTimes (Multiples outer moment range step)
    ≡ (LeadsToTimes outer × (pos 0 <ℤ range.0) × (pos 0 <ℤ step.0) × ((o : ℤ) → IsInstant outer o → HasTimes (moment_at moment o) range.0))
unfolding hidden-the_row-Walk-0 hidden
multiples-times outer moment range step = refl
