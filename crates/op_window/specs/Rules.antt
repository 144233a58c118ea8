-- What a kernel of windows lends: at each instant the meaning's function of the windows there, and of a scalar that is fed beside
-- them. (The rule is that of the meaning.)
use Rattle.std.specs.Prelude.{◌≡◌, ◌≤◌, ℕ, Bool, true, false, List, [], ◌∷◌, length, map, Option, None, Some, if◌then◌else◌, ⊤}
use Rattle.std.specs.List.{All, AllByRecursion}
use Rattle.func_table.specs.declared.table.Window.{Window}
use Rattle.func_table.specs.declared.table.Window.TheVariants.{LastOver, PredictLinear, QuantileOver}
use Rattle.op_window.specs.declared.scalar.Scalar.{Scalar}
use Rattle.promql_meaning.specs.Givens.{barren, by_value, no_marks, value_in}
use Rattle.promql_meaning.specs.Meaning.{windowed_by, zero_number}
use Rattle.promql_meaning.specs.Outcomes.{range_notes_of}
use Rattle.promql_meaning.specs.Ranges.{counter_note, window_outcome, windowed}
use Rattle.promql_meaning.specs.Selecting.{window_rows}
use Rattle.promql_meaning.specs.declared.given.Windows.{Windows}
use Rattle.sample_store.specs.Samples.{AllSeries, labels_at}
use Rattle.series_marks.specs.Reaches.{moment_of, numbered}
use Rattle.step_batch.specs.Lent.{Lent}
use Rattle.step_batch.specs.LentWindows.{WindowsAt}
use Rattle.step_batch.specs.declared.steps.PlacedStep.{PlacedStep}
use Rattle.step_batch.specs.declared.steps.Slot.{Slot}
use Rattle.step_put.specs.Placed.{outcomes_of}
use Rattle.step_put.specs.declared.labels_left.Left.{Left}
use Rattle.step_put.specs.declared.labels_left.Left.TheVariants as kind
use Rattle.step_put.specs.declared.placed.PlacedOutcome.{PlacedOutcome}
use Rattle.step_table.specs.Groups.{Names}
use Rattle.step_table.specs.Timed.{StepAt, steps_over}
use Rattle.step_table.specs.declared.marks.Marks.{Marks}
use Rattle.step_table.specs.declared.marks.Note.{Note}
use Rattle.step_table.specs.declared.outcomes.Outcome.{Outcome}
use Rattle.step_table.specs.declared.step.Step.{Step}
use Rattle.step_table.specs.declared.windows.WindowRow.{WindowRow}
use Rattle.ticks.specs.Walks.{IsTime}
use Rattle.ticks.specs.declared.moment.Ms.{Ms}
use Rattle.ticks.specs.declared.walk.WalkMoment.{WalkMoment}
use Rattle.window_fn.specs.Windows.{IsInFrame}
use Rattle.window_fn.specs.declared.frame.WindowFrame.{WindowFrame}
use Rattle.xfrac.specs.declared.value.XFrac.{XFrac}

-- ---- windows

-- the window that is asked over at an instant
abbrev pub frame_at : WalkMoment → Ms → Ms → WindowFrame
frame_at moment range t = record { eval = t; moment = moment_of moment t; range = range }

-- the samples of windows there; what rules selected them isn't read
abbrev pub windows_in : WindowFrame → List WindowRow → Marks → Windows
windows_in frame rows marks = record { moment = frame.moment; range = frame.range; rules = []; rows = rows; marks = marks }

-- the windows of series of the store
abbrev pub rows_of_series : Bool → WindowFrame → AllSeries → List ℕ → List WindowRow
rows_of_series closed frame store series = window_rows closed frame.moment.0 frame.range.0 (numbered store series)

abbrev pub windows_of_series : AllSeries → List ℕ → WalkMoment → Ms → Ms → Windows
windows_of_series store series moment range t =
    windows_in (frame_at moment range t) (rows_of_series moment.closed (frame_at moment range t) store series) no_marks

-- windows that are lent
abbrev pub windows_of_lent : WindowsAt → WalkMoment → Ms → Ms → Windows
windows_of_lent lent moment range t = windows_in (frame_at moment range t) lent.rows lent.marks

-- the labels of series, and of windows
abbrev pub names_of : AllSeries → List ℕ → List Names
names_of store series = map (labels_at store) series

abbrev pub names_in : List WindowRow → List Names
names_in rows = map (λ (row : WindowRow). row.labels) rows

-- ---- the rule

-- a function of the windows at an instant, and of the scalar there
abbrev pub windowed_at : Window → (Ms → Windows) → StepAt → StepAt
windowed_at f windows s = record { at = s.at; step = windowed_by f s.at.0 s.step (windows s.at) }

-- the functions that take a scalar
abbrev pub takes_scalar : Window → Bool
takes_scalar PredictLinear = true
takes_scalar QuantileOver = true
takes_scalar _ = false

-- what is read beside the windows: the steps of the scalar where the function takes one, else nothing at the instants
abbrev pub fed_by : Window → List Ms → List StepAt → List StepAt
fed_by f at given = if takes_scalar f then given else steps_over (λ t. barren no_marks) at

-- the rule doesn't read what rules selected the windows
abbrev pub RulesAreNotRead : Type 0
RulesAreNotRead = (f : Window) (t : Ms) (scalar : Step) (windows : Windows) → windowed_by f t.0 scalar windows ≡ windowed_by f t.0 scalar (record windows { rules = [] })

-- ---- conditions

abbrev pub AreTimes : List Ms → Type 0
AreTimes at = AllByRecursion (λ (t : Ms). IsTime t.0) at

-- steps at some instants, each with one row at most
abbrev pub ScalarsAt : List Ms → List PlacedStep → Type 0
ScalarsAt [] [] = ⊤
ScalarsAt (t ∷ at) (s ∷ steps) = (s.at ≡ t) × (length s.slots ≤ 1) × ScalarsAt at steps
ScalarsAt _ _ = ⊥

-- where a function takes a scalar, its steps are fed
abbrev pub HasScalars : Window → List Ms → Lent → Type 0
HasScalars f at given = takes_scalar f ≡ true → ScalarsAt at given.steps

-- the samples of windows lie in a frame
abbrev pub AreFramed : WindowFrame → List WindowRow → Type 0
AreFramed frame rows = AllByRecursion (λ (row : WindowRow). All (IsInFrame frame) row.times) rows

-- ---- one instant

-- the scalar of a step; a function that takes none has 0 in its place
abbrev pub scalar_in : Window → Step → Scalar
scalar_in f step =
    if takes_scalar f then record { value = value_in step; marks = step.marks } else record { value = Some zero_number; marks = no_marks }

-- the value of the first of some slots
abbrev pub first_in : List Slot → Option XFrac
first_in [] = None
first_in (s ∷ slots) = Some s.value

-- what comes of a window
abbrev pub outcome_in : Window → WindowFrame → XFrac → WindowRow → Outcome
outcome_in f frame arg row = window_outcome f frame.eval.0 arg (windows_in frame [] no_marks) row

-- and the note of its name
abbrev pub note_in : Window → WindowFrame → XFrac → WindowRow → Option Note
note_in f frame arg row = counter_note f frame.eval.0 arg (windows_in frame [] no_marks) row

-- what a function leaves of labels: all but last_over_time drop the metric's name
abbrev pub left_for : Window → Left
left_for LastOver = kind.All
left_for _ = kind.Nameless

-- what comes of windows by the places of their labels
abbrev pub outcomes_given : Window → List Names → List PlacedOutcome → List Outcome
outcomes_given f names placed = outcomes_of (left_for f) names placed

-- the notes of what comes of windows
abbrev pub notes_given : {A : Type 0} → Window → XFrac → List A → List Note → List Note
notes_given QuantileOver arg outcomes notes = range_notes_of arg outcomes
notes_given f arg outcomes notes = notes

-- the step of windows and of a scalar; the scalar's marks are those of both
abbrev pub by_scalar : Window → WindowFrame → Scalar → List WindowRow → Step
by_scalar f frame scalar rows = by_value scalar.value scalar.marks (λ arg. windowed f frame.eval.0 arg (windows_in frame rows scalar.marks))
