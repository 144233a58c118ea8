-- What users of a result rely on: which instant ends an evaluation, which notes an answer has, and how its series stand.
use Rattle.std.specs.Prelude.{◌≡◌, ℕ, ◌+◌, Bool, List, [], ◌∷◌, ◌++◌, length, None, Some, ◌↔◌}
use Rattle.std.specs.List.{list_any}
use Rattle.std.specs.List.Sorted.{IsPermutation, IsSortedBy}
use Rattle.promql_ast.specs.declared.tree.Expr.{Expr}
use Rattle.step_table.specs.Laws.{has_note}
use Rattle.step_table.specs.Timed.{StepAt}
use Rattle.step_table.specs.declared.marks.Note.{Note}
use Rattle.promql_meaning.specs.declared.answer.Outcome.{Outcome}
use Rattle.promql_meaning.specs.declared.answer.ResultSeries.{ResultSeries}
use Rattle.promql_meaning.specs.Orders.{ByValue, comes_first, in_order}
use Rattle.promql_meaning.specs.Results.{answer_of, first_stop, stop_at}

-- ---- the first stop is the first

-- how many rows some steps have
abbrev pub rows_in : List StepAt → ℕ
rows_in [] = 0
rows_in (s ∷ steps) = length s.step.table.rows + rows_in steps

-- no instant ends the evaluation, each with the rows of those before it, and so many more, counted
abbrev pub NoneStops : ℕ → List StepAt → Type 0
NoneStops earlier steps = (before : List StepAt) (s : StepAt) (behind : List StepAt) → steps ≡ before ++ (s ∷ behind) → stop_at (earlier + rows_in before) s ≡ None

-- an instant ends the evaluation with an outcome, and none before it ends it
pub record IsFirstStop (earlier : ℕ) (steps : List StepAt) (outcome : Outcome) : Type 0 where
  pub before : List StepAt
  pub here : StepAt
  pub behind : List StepAt
  pub parts : steps ≡ before ++ (here ∷ behind)
  pub stops : stop_at (earlier + rows_in before) here ≡ Some outcome
  pub none : NoneStops earlier before

abbrev pub FirstStopIsFirst : Type 0
FirstStopIsFirst = (earlier : ℕ) (steps : List StepAt) (outcome : Outcome) → (first_stop earlier steps ≡ Some outcome) ↔ IsFirstStop earlier steps outcome

abbrev pub NoStopIsNone : Type 0
NoStopIsNone = (earlier : ℕ) (steps : List StepAt) → (first_stop earlier steps ≡ None) ↔ NoneStops earlier steps

-- ---- notes

-- a note stands in the answer exactly where an instant has it
abbrev pub NotesStand : Type 0
NotesStand =
    (instant : Bool) (e : Expr) (steps : List StepAt) (note : Note)
    → list_any (λ (s : StepAt). has_note s.step.marks.notes note) steps ≡ has_note (answer_of instant e steps).notes note

-- ---- the order of series

-- series in an order by value are the same series
abbrev pub OrderRearranges : Type 0
OrderRearranges = (order : ByValue) (series : List ResultSeries) → IsPermutation series (in_order (Some order) series)

-- and none comes before the one in front of it
abbrev pub OrderRises : Type 0
OrderRises = (order : ByValue) (series : List ResultSeries) → IsSortedBy (comes_first order) (in_order (Some order) series)
