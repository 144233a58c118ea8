-- Steps beside their instants.
use Rattle.std.specs.Prelude.{List, [], ◌∷◌, ◌++◌, map, ℤ}
use Rattle.ticks.specs.declared.moment.Ms.{Ms}
use Rattle.xfrac.specs.declared.value.XFrac.{XFrac}
use Rattle.step_table.specs.Groups.{Names}
use Rattle.step_table.specs.Unions.{united}
use Rattle.step_table.specs.declared.marks.Marks.{Marks}
use Rattle.step_table.specs.declared.step.Row.{Row}
use Rattle.step_table.specs.declared.step.Step.{Step}

-- an instant and the step there
pub record StepAt : Type 0 where
  pub at : Ms
  pub step : Step

-- the steps of a meaning at some instants, in their order
abbrev pub steps_over : (ℤ → Step) → List Ms → List StepAt
steps_over meaning times = map (λ (t : Ms). record { at = t; step = meaning t.0 }) times

-- each row of a step beside the instant that it is of
abbrev pub timed : Ms → Step → List (Names × (Ms × XFrac))
timed u step = map (λ (row : Row). (row.labels, (u, row.value))) step.table.rows

-- the rows of all instants, each beside its instant
abbrev pub rows_of_steps : List StepAt → List (Names × (Ms × XFrac))
rows_of_steps [] = []
rows_of_steps (s ∷ steps) = timed s.at s.step ++ rows_of_steps steps

-- the notes and marks of all instants, together with others
abbrev pub marks_of_steps : Marks → List StepAt → Marks
marks_of_steps marks [] = marks
marks_of_steps marks (s ∷ steps) = marks_of_steps (united marks s.step.marks) steps
