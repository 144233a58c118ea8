-- What a walk over the instants of a grid comes to. (Our own.)
use Rattle.std.specs.Prelude.{◌≡◌, List, Some, None}
use Rattle.plain_eval.specs.declared.results.Walked.{Walked}
use Rattle.plain_eval.specs.declared.results.Walked.TheVariants.{Stopped, Done}
use Rattle.step_table.specs.Groups.{gathered}
use Rattle.promql_meaning.specs.Givens.{no_marks}
use Rattle.promql_meaning.specs.Results.{all_marks, all_points, first_stop}
use Rattle.step_table.specs.Timed.{StepAt}

-- the outcome of the first instant at which an evaluation ends early, or else the points and marks of all instants
abbrev pub IsWalked : List StepAt → Walked → Type 0
IsWalked steps (Stopped outcome) = first_stop 0 steps ≡ Some outcome
IsWalked steps (Done found) =
    (first_stop 0 steps ≡ None) × (found.points.entries ≡ gathered (all_points steps)) × (found.marks ≡ all_marks no_marks steps)
