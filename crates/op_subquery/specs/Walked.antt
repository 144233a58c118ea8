-- The inner instants of a subquery are those of one walk, fed one after another and without a gap. (Prometheus querying,
-- "Subquery": the windows are those of the meaning.)
use Rattle.std.specs.Prelude.{◌≡◌, ◌↔◌, ℕ, ℤ, List, take}
use Rattle.std.specs.List.{Contains}
use Rattle.op_subquery.specs.Rings.{IsReady, Kernel, WasFed, windows_at}
use Rattle.promql_meaning.specs.Subqueries.{points_of}
use Rattle.step_table.specs.Timed.{steps_over}
use Rattle.step_table.specs.declared.step.Step.{Step}
use Rattle.ticks.specs.Listed.{IsListed}
use Rattle.ticks.specs.Walks.{IsInWindow, IsInstant, LeadsToTimes, moment_at}
use Rattle.ticks.specs.declared.moment.Ms.{Ms}
use Rattle.ticks.specs.declared.walk.Walk.{Walk}
use Rattle.ticks.specs.declared.walk.Walk.TheVariants.{Multiples}

-- the walk of the inner instants that the windows of outer ones want
abbrev pub inner_walk : Kernel → Walk → Walk
inner_walk kernel outer = Multiples outer kernel.moment kernel.range kernel.step

-- a kernel was fed what an inner expression means at the first so many instants of that walk
pub record WasFedOf (kernel : Kernel) (outer : Walk) (inner : ℤ → Step) (count : ℕ) : Type 0 where
  pub times : List Ms
  pub listed : IsListed (inner_walk kernel outer) times
  pub leads : LeadsToTimes (inner_walk kernel outer)
  pub fed : WasFed kernel (steps_over inner (take count times))

-- ---- what users rely on

-- an outer instant is ready exactly where each instant of the walk in its window is among the first ones, which were fed
abbrev pub ReadyIsExact : Type 0
ReadyIsExact =
    (kernel : Kernel) (outer : Walk) (inner : ℤ → Step) (count : ℕ) (at : Ms) (of : WasFedOf kernel outer inner count) → IsInstant outer at.0 →
    IsReady kernel at
    ↔ ((u : Ms) → IsInstant (inner_walk kernel outer) u.0 → IsInWindow kernel.moment.closed (moment_at kernel.moment at.0) kernel.range.0 kernel.step.0 u.0 → Contains (take count of.times) u)

-- and then the windows of the steps that were fed are those that the subquery means
abbrev pub LentAreMeant : Type 0
LentAreMeant =
    (kernel : Kernel) (outer : Walk) (inner : ℤ → Step) (count : ℕ) (at : Ms) (of : WasFedOf kernel outer inner count) → IsInstant outer at.0 → IsReady kernel at →
    windows_at kernel.moment kernel.range (steps_over inner (take count of.times)) at ≡ points_of kernel.moment.closed inner kernel.range kernel.step (moment_at kernel.moment at.0)
