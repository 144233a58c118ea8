-- Walks whose instants are near the time 0, so that walks over them lead to times. (This project's own.)
use Rattle.std.specs.Prelude.{◌+◌, ◌^◌, ◌≤◌, ℕ, ℤ, pos, ◌+ℤ◌, ◌<ℤ◌, ◌≤ℤ◌}
use Rattle.ticks.specs.Walks.{IsInstant, IsTime, LeadsToTimes, moment_at}
use Rattle.ticks.specs.declared.grid.Grid.{Grid as Instants}
use Rattle.ticks.specs.declared.moment.Ms.{Ms}
use Rattle.ticks.specs.declared.walk.Walk.{Walk, Grid}
use Rattle.ticks.specs.declared.walk.Walk.TheVariants.{Multiples}
use Rattle.ticks.specs.declared.walk.WalkMoment.{WalkMoment}

-- a time that is at most so many milliseconds from the time 0
pub record IsNear (bound : ℕ) (t : ℤ) : Type 0 where
  pub low : pos 0 ≤ℤ (t +ℤ pos bound)
  pub high : t ≤ℤ pos bound

-- each instant of a walk is
abbrev pub AreNear : ℕ → Walk → Type 0
AreNear bound walk = (t : ℤ) → IsInstant walk t → IsNear bound t

-- ---- what users rely on

-- each instant of a walk that leads to times is a time
abbrev pub InstantsAreTimes : Type 0
InstantsAreTimes = (walk : Walk) → LeadsToTimes walk → (t : ℤ) → IsInstant walk t → IsTime t

-- the instants of a grid are at most 10^14 milliseconds from the time 0
abbrev pub GridsAreNear : Type 0
GridsAreNear = (g : Instants) → AreNear (10 ^ 14) (Grid g)

-- where the moments of a subquery are near, it leads to times, and its own instants are as near as its range allows
abbrev pub SubqueriesStayNear : Type 0
SubqueriesStayNear =
    (outer : Walk) (moment : WalkMoment) (range step : Ms) (bound far : ℕ) → bound + far ≤ 2 ^ 60 → LeadsToTimes outer
    → ((o : ℤ) → IsInstant outer o → IsNear bound (moment_at moment o)) → pos 0 <ℤ range.0 → range.0 ≤ℤ pos far → pos 0 <ℤ step.0
    → LeadsToTimes (Multiples outer moment range step) × AreNear (bound + far) (Multiples outer moment range step)
