-- A function of the windows of a subquery, outer instant by outer instant: where it stands between the inner instants that it is
-- fed and the outer ones that it gives. (Prometheus querying, "Subquery": the windows are those of the meaning.)
use Rattle.std.specs.Prelude.{◌≡◌, ◌<ℤ◌, ◌-ℤ◌, ◌+◌, ℕ, ℤ, int_lt, unsigned_abs, [], ◌∷◌, Option, None, Some, slice_get, if◌then◌else◌, ⊤}
use Rattle.std.specs.Option.{option_map}
use Rattle.func_table.specs.declared.table.Window.{Window}
use Rattle.op_subquery.specs.Rings.{Kernel, span_at}
use Rattle.op_subquery.specs.Walked.{WasFedOf, inner_walk}
use Rattle.promql_meaning.specs.Subqueries.{points_of}
use Rattle.promql_meaning.specs.declared.given.Windows.{Windows}
use Rattle.step_batch.specs.Lent.{Lent, stages}
use Rattle.step_table.specs.WellFormed.{AreSets}
use Rattle.step_table.specs.declared.step.Step.{Step}
use Rattle.ticks.specs.Listed.{IsFirst, IsNext}
use Rattle.ticks.specs.Walks.{IsInstant, moment_at}
use Rattle.ticks.specs.declared.moment.Ms.{Ms}
use Rattle.ticks.specs.declared.walk.Walk.{Walk}

-- the function; the walk of the inner instants, and the first of them that wasn't fed; what is kept of the steps that were, and what
-- is lent
pub record Ring : Type 0 where
  pub f : Window
  pub walk : Walk
  pub next : Option Ms
  pub points : Kernel
  pub buffer : Lent

-- what the subquery means at an outer instant, where its inner expression means these steps
abbrev pub windows_of_points : Ring → (ℤ → Step) → Ms → Windows
windows_of_points ring inner t = points_of ring.points.moment.closed inner ring.points.range ring.points.step (moment_at ring.points.moment t.0)

-- ---- instants one after another

-- the first instant of a walk, or the one behind the last that was fed, where there is one
abbrev pub IsNextAfter : Walk → Option Ms → Option Ms → Type 0
IsNextAfter walk None next = IsFirst walk next
IsNextAfter walk (Some last) next = IsNext walk last.0 next

-- an instant is later than the last one, if there is one
abbrev pub IsPast : Option Ms → Ms → Type 0
IsPast None t = ⊤
IsPast (Some last) t = last.0 <ℤ t.0

-- how many milliseconds there are from the next instant up to a moment, this one counted; behind it there are none
abbrev pub time_left : Option Ms → ℤ → ℕ
time_left None m = 0
time_left (Some next) m = if int_lt m next.0 then 0 else unsigned_abs (m -ℤ next.0) + 1

-- ---- where it stands

-- what an inner expression means was fed at the first so many instants of its walk, and the steps of the instants of an outer walk up
-- to the last one were given
pub record Stands (ring : Ring) (outer : Walk) (inner : ℤ → Step) (last : Option Ms) : Type 0 where
  pub walk : ring.walk ≡ inner_walk ring.points outer
  pub count : ℕ
  pub of : WasFedOf ring.points outer inner count
  pub next : ring.next ≡ slice_get of.times count
  pub behind : IsNextAfter ring.walk ring.points.last ring.next
  pub reached : ring.points.reached ≡ option_map (span_at ring.points.moment ring.points.range) last

-- it is asked for an instant of the outer walk, later than the last one
pub record IsAsked (ring : Ring) (outer : Walk) (inner : ℤ → Step) (last : Option Ms) (t : Ms) : Type 0 where
  pub stands : Stands ring outer inner last
  pub on : IsInstant outer t.0
  pub later : IsPast last t

-- a batch has the one step that the inner expression means at the next instant, whose marks and notes are sets
pub record IsNextStep (ring : Ring) (outer : Walk) (inner : ℤ → Step) (last : Option Ms) (at : Ms) (rows : Lent) : Type 0 where
  pub stands : Stands ring outer inner last
  pub next : ring.next ≡ Some at
  pub step : stages rows ≡ record { at = at; step = inner at.0 } ∷ []
  pub sets : AreSets (inner at.0).marks
