-- The instants that a part of a plan is asked at, the times between which its windows lie, and how far from the time 0 these are.
-- (This project's own; the limits of times and of lengths are those of the language.)
use Rattle.std.specs.Prelude.{◌≡◌, ◌+◌, ◌*◌, ◌^◌, ℕ, ℤ, pos, ◌-ℤ◌, ◌<ℤ◌, ◌≤ℤ◌, Option, None, Some, IfSome, ⊤}
use Rattle.frac_text.specs.Times.{time_limit}
use Rattle.promql_ast.specs.Parts.{IsAtMost, IsFixedWithin}
use Rattle.promql_ast.specs.declared.tree.Moment.{Moment}
use Rattle.ticks.specs.Durations.{hundred_years}
use Rattle.ticks.specs.Near.{IsNear}
use Rattle.ticks.specs.Walks.{HasTimes, IsInstant, IsTime, moment_at}
use Rattle.ticks.specs.declared.moment.Ms.{Ms}
use Rattle.ticks.specs.declared.walk.Walk.{Walk, Grid, Fixed}
use Rattle.ticks.specs.declared.walk.WalkMoment.{WalkMoment}

-- a walk, and two times
pub record Courses : Type 0 where
  pub walk : Walk
  pub low : Ms
  pub high : Ms

abbrev pub IsBetween : ℤ → ℤ → ℤ → Type 0
IsBetween low high t = (low ≤ℤ t) × (t ≤ℤ high)

-- the instants of a walk lie between two times
abbrev pub LiesBetween : Walk → ℤ → ℤ → Type 0
LiesBetween walk low high = (t : ℤ) → IsInstant walk t → IsBetween low high t

-- the fixed time of a moment, if there is one, or the instant
abbrev pub base_at : WalkMoment → ℤ → ℤ
base_at moment t = base moment.fixed
  where
    base : Option Ms → ℤ
    base None = t
    base (Some at) = at.0

abbrev pub BasesLieBetween : Walk → WalkMoment → ℤ → ℤ → Type 0
BasesLieBetween walk moment low high = (t : ℤ) → IsInstant walk t → IsBetween low high (base_at moment t)

-- windows that reach back, by a range, from times between two others less an offset
pub record AreSpread (low high offset range first last : ℤ) : Type 0 where
  pub forward : pos 0 <ℤ range
  pub begins : first ≡ (low -ℤ offset) -ℤ range
  pub ends : last ≡ high -ℤ offset
  pub early : IsTime first
  pub late : IsTime last

-- a window reaches back from the moment of each instant; all of them lie between two times
pub record AreWindows (walk : Walk) (moment : WalkMoment) (range low high : ℤ) : Type 0 where
  pub early : IsTime low
  pub late : IsTime high
  pub forward : pos 0 <ℤ range
  pub times : (t : ℤ) → IsInstant walk t → HasTimes (moment_at moment t) range
  pub between : (t u : ℤ) → IsInstant walk t → (moment_at moment t -ℤ range) ≤ℤ u → u ≤ℤ moment_at moment t → IsBetween low high u

-- ---- how far courses lead

-- how far from the time 0 the instants lie that stand in so many subqueries: those of a query are at most 10^14 milliseconds from it, and
-- the offset and the range of each subquery lead at most a hundred years further back
abbrev pub reach : ℕ → ℕ
reach n = 10 ^ 14 + n * (2 * hundred_years)

-- a course leads no further than so many subqueries do
pub record IsCourseNear (n : ℕ) (course : Courses) : Type 0 where
  pub earliest : IsNear (reach n) course.low.0
  pub latest : IsNear (reach n) course.high.0

-- the same of the two times between which windows lie
pub record AreWindowsNear (n : ℕ) (low high : ℤ) : Type 0 where
  pub earliest : IsNear (reach n) low
  pub latest : IsNear (reach n) high

-- a fixed time is at most 10^14 milliseconds from the time 0, and the offset at most a hundred years long
pub record IsMomentNear (moment : WalkMoment) : Type 0 where
  pub at : IfSome moment.fixed (λ at. IsNear (10 ^ 14) at.0)
  pub back : IsNear hundred_years moment.offset.0

-- the times of a moment lie within the limits of the language; the ends of the query's grid do so too
abbrev pub IsMomentWithin : Moment → Type 0
IsMomentWithin moment = IsFixedWithin time_limit moment.fixed × IsAtMost hundred_years moment.offset

-- a length is positive, and at most a hundred years
abbrev pub IsLength : Ms → Type 0
IsLength length = (pos 0 <ℤ length.0) × (length.0 ≤ℤ pos hundred_years)

-- windows of this length reach back from the moments of a course that leads no further than so many subqueries do
pub record ReachBack (n : ℕ) (course : Courses) (moment : WalkMoment) (range : Ms) : Type 0 where
  pub near : IsCourseNear n course
  pub timed : IsMomentNear moment
  pub long : IsLength range

-- a walk that a query is asked at: a grid, or one instant at most 10^14 milliseconds from the time 0
abbrev pub IsAsked : Walk → Type 0
IsAsked (Grid g) = ⊤
IsAsked (Fixed at) = IsNear (10 ^ 14) at.0
IsAsked walk = ⊥
