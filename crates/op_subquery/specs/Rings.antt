-- The ring of a subquery: steps of its inner expression are fed in rising time, and those of one window after another are held.
-- (Prometheus querying, "Subquery": the windows are those of the meaning.)
use Rattle.std.specs.Prelude.{◌≡◌, ◌++◌, ◌<ℤ◌, ◌≤ℤ◌, ◌-ℤ◌, ℤ, List, [], ◌∷◌, Option, None, Some, ⊤}
use Rattle.std.specs.List.{AllByRecursion}
use Rattle.op_subquery.specs.Kept.{AreKept, AreWindowsOf, KeptStep, due, instants_of, later, samples_under, steps_in}
use Rattle.op_subquery.specs.Raised.{AreRaised, Raised}
use Rattle.op_subquery.specs.declared.span.Span.{Span}
use Rattle.promql_meaning.specs.Subqueries.{points_of_steps}
use Rattle.promql_meaning.specs.declared.given.Windows.{Windows}
use Rattle.step_batch.specs.Lent.{Lent}
use Rattle.step_batch.specs.LentWindows.{WindowsAt}
use Rattle.step_batch.specs.declared.steps.PlacedStep.{PlacedStep}
use Rattle.step_table.specs.Groups.{Names}
use Rattle.step_table.specs.Timed.{StepAt}
use Rattle.step_table.specs.WellFormed.{AreSets}
use Rattle.step_table.specs.declared.windows.WindowRow.{WindowRow}
use Rattle.ticks.specs.Edges.{before}
use Rattle.ticks.specs.Listed.{AreRising}
use Rattle.ticks.specs.Walks.{IsInWindow, moment_at}
use Rattle.ticks.specs.declared.moment.Ms.{Ms}
use Rattle.ticks.specs.declared.walk.WalkMoment.{WalkMoment}

-- the settings of a subquery; the last instant that was fed, and the window that was reached; the steps that wait, and what is
-- held of those in the window
pub record Kernel : Type 0 where
  pub range : Ms
  pub step : Ms
  pub moment : WalkMoment
  pub last : Option Ms
  pub reached : Option Span
  pub waiting : List KeptStep
  pub windows : WindowsAt
  pub raised : Raised

-- ---- windows

-- the last time before the window of an outer instant, and its moment
abbrev pub span_at : WalkMoment → Ms → Ms → Span
span_at moment range at = record {
  edge = record { 0 = before moment.closed (moment_at moment at.0 -ℤ range.0) };
  moment = record { 0 = moment_at moment at.0 };
}

-- neither the edge nor the moment falls
abbrev pub IsNoEarlier : Option Span → Span → Type 0
IsNoEarlier None span = ⊤
IsNoEarlier (Some old) span = (old.edge.0 ≤ℤ span.edge.0) × (old.moment.0 ≤ℤ span.moment.0)

-- what is lent is what the meaning has: the instant, for each labels the times and values of their window, which are none where
-- there is no such window, and the marks and notes
pub record AreLent (lent : WindowsAt) (t : Ms) (windows : Windows) : Type 0 where
  pub at : lent.at ≡ t
  pub rows : (names : Names) → samples_under names lent.rows ≡ samples_under names windows.rows
  pub marks : lent.marks ≡ windows.marks

-- the windows that a subquery has of steps at an outer instant
abbrev pub windows_at : WalkMoment → Ms → List StepAt → Ms → Windows
windows_at moment range steps at =
    points_of_steps range (span_at moment range at).moment.0 (steps_in (span_at moment range at).edge.0 (span_at moment range at).moment.0 steps)

-- ---- what was fed

-- an instant is up to the last one, if there is one
abbrev pub IsUpTo : Option Ms → ℤ → Type 0
IsUpTo None t = ⊥
IsUpTo (Some last) t = t ≤ℤ last.0

-- the steps begin behind the last instant, if there is one
abbrev pub IsBehind : Option Ms → List PlacedStep → Type 0
IsBehind None steps = ⊤
IsBehind (Some last) [] = ⊤
IsBehind (Some last) (s ∷ steps) = last.0 <ℤ s.at.0

-- what may be fed: steps at later instants than before, whose marks and notes are sets
pub record CanFeed (kernel : Kernel) (rows : Lent) : Type 0 where
  pub later : IsBehind kernel.last rows.steps
  pub sets : AllByRecursion (λ (s : PlacedStep). AreSets s.marks) rows.steps

-- the instant of the last step
abbrev pub last_instant : List StepAt → Option Ms
last_instant [] = None
last_instant (s ∷ []) = Some s.at
last_instant (s ∷ t ∷ steps) = last_instant (t ∷ steps)

-- steps that are held in windows, and behind them steps that wait
pub record AreHeld (windows : List WindowRow) (marks : Raised) (kept : List KeptStep) (held coming : List StepAt) : Type 0 where
  pub rows : AreWindowsOf windows held
  pub raised : AreRaised marks held
  pub waiting : AreKept kept coming
  pub rising : AreRising (instants_of (held ++ coming))

-- how far steps have come that go into windows up to a moment: what is held now and what comes next are, at the end, what was
-- held at first with all that came
pub record Goes (m : ℤ) (windows : List WindowRow) (marks : Raised) (kept : List KeptStep) (held coming : List StepAt) : Type 0 where
  pub now : List StepAt
  pub next : List StepAt
  pub are : AreHeld windows marks kept now next
  pub all : now ++ due m next ≡ held ++ due m coming
  pub left : later m next ≡ later m coming

-- a step is before the window that was reached
abbrev pub IsGone : Option Span → StepAt → Type 0
IsGone None s = ⊥
IsGone (Some span) s = s.at.0 ≤ℤ span.edge.0

-- and not behind it
abbrev pub IsReached : Option Span → StepAt → Type 0
IsReached None s = ⊥
IsReached (Some span) s = s.at.0 ≤ℤ span.moment.0

-- a kernel was fed these steps: of them some are before the window that was reached and are gone, some are held, and the others
-- wait
pub record WasFed (kernel : Kernel) (fed : List StepAt) : Type 0 where
  pub gone : List StepAt
  pub held : List StepAt
  pub coming : List StepAt
  pub parts : fed ≡ gone ++ (held ++ coming)
  pub are_gone : AllByRecursion (IsGone kernel.reached) gone
  pub are_reached : AllByRecursion (IsReached kernel.reached) held
  pub are_held : AreHeld kernel.windows.rows kernel.raised kernel.waiting held coming
  pub rising : AreRising (instants_of fed)
  pub last : kernel.last ≡ last_instant fed
  pub sets : AllByRecursion (λ (s : StepAt). AreSets s.step.marks) fed

-- each multiple in the window of an outer instant is up to the last one that was fed
abbrev pub IsReady : Kernel → Ms → Type 0
IsReady kernel at = (u : ℤ) → IsInWindow kernel.moment.closed (moment_at kernel.moment at.0) kernel.range.0 kernel.step.0 u → IsUpTo kernel.last u

-- the instant of the last of some steps, or that of before where there are none
abbrev pub last_kept : Option Ms → List PlacedStep → Option Ms
last_kept last [] = last
last_kept last (s ∷ steps) = last_kept (Some s.at) steps
