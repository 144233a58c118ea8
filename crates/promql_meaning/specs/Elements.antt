-- Functions and operators row by row. (Prometheus querying, "Functions", and "Operators" between a vector and a scalar: the
-- metric's name is dropped, but by a filter. That rows which then share labels are all left out is this project's own.)
use Rattle.std.specs.Prelude.{Bool, true, false, List, [], ◌∷◌, map, Option, Some, None, Result, Ok, if◌then◌else◌, ℤ}
use Rattle.func_table.specs.declared.table.Element.{Element}
use Rattle.label_set.specs.Labels.{metric_name, without}
use Rattle.value_fn.specs.Elements.{element_of}
use Rattle.window_fn.specs.Points.{in_seconds, milliseconds}
use Rattle.xfrac.specs.Order.{compares}
use Rattle.xfrac.specs.declared.value.NumFault.{NumFault}
use Rattle.xfrac.specs.declared.value.PairOp.{PairOp}
use Rattle.xfrac.specs.declared.value.PairOp.TheVariants.{Filter}
use Rattle.xfrac.specs.declared.value.XFrac.{XFrac}
use Rattle.step_table.specs.Groups.{Names}
use Rattle.step_table.specs.Operators.{operated, some_value, unnamed}
use Rattle.step_table.specs.Outcomes.{taken, settled}
use Rattle.step_table.specs.declared.outcomes.Outcome.{Outcome}
use Rattle.step_table.specs.declared.step.Row.{Row}
use Rattle.step_table.specs.declared.step.Step.{Step}
use Rattle.promql_meaning.specs.Givens.{no_marks, step_of}
use Rattle.promql_meaning.specs.declared.given.Given.{Given}
use Rattle.promql_meaning.specs.declared.given.Given.TheVariants.{Selected}
use Rattle.promql_meaning.specs.declared.given.Stamped.{Stamped}

-- the labels but for the metric's name
abbrev pub nameless : Names → Names
nameless names = without (metric_name ∷ []) names

-- what comes of each row: a row with a fault is left out with its mark, and then rows that share labels with their mark
abbrev pub row_by_row : (Row → Outcome) → Step → Step
row_by_row outcome step = settled (taken step.marks (map outcome step.table.rows))

-- ---- element functions

abbrev pub element_outcome : Element → XFrac → XFrac → Row → Outcome
element_outcome f first second row = record { labels = nameless row.labels; value = element_of f row.value first second }

-- an element function of each row, which loses its name
abbrev pub mapped : Element → XFrac → XFrac → Step → Step
mapped f first second step = row_by_row (element_outcome f first second) step

-- ---- operators with a scalar side

-- an operator of a row's value and a scalar, the left operand first; a filter keeps the row's value, on whichever side it is
abbrev pub operated_with : PairOp → Bool → XFrac → XFrac → Result (Option XFrac) NumFault
operated_with (Filter c) true scalar value = Ok (if compares c scalar value then Some value else None)
operated_with op true scalar value = operated op scalar value
operated_with op false scalar value = operated op value scalar

abbrev pub operator_outcome : PairOp → Bool → XFrac → Row → Outcome
operator_outcome op scalar_left scalar row =
    record { labels = unnamed op row.labels; value = operated_with op scalar_left scalar row.value }

-- an operator between each row and a scalar, which is the left operand or the right one
abbrev pub operated_rows : PairOp → Bool → XFrac → Step → Step
operated_rows op scalar_left scalar step = row_by_row (operator_outcome op scalar_left scalar) step

-- ---- times

-- a time in milliseconds as a number of seconds
abbrev pub seconds_of : ℤ → Result (Option XFrac) NumFault
seconds_of t = some_value (in_seconds (milliseconds t))

-- the instant in seconds, as a scalar
abbrev pub time_step : ℤ → Step
time_step t = taken no_marks (record { labels = []; value = seconds_of t } ∷ [])

abbrev pub stamp_outcome : Stamped → Outcome
stamp_outcome row = record { labels = nameless row.labels; value = seconds_of row.at.0 }

abbrev pub instant_outcome : ℤ → Row → Outcome
instant_outcome t row = record { labels = nameless row.labels; value = seconds_of t }

-- the time of each sample in seconds
abbrev pub stamps : List Stamped → Step
stamps rows = settled (taken no_marks (map stamp_outcome rows))

-- the instant in the place of each value
abbrev pub at_instant : ℤ → Step → Step
at_instant t step = row_by_row (instant_outcome t) step

-- of a selector the time of each sample in seconds, of any other vector the instant
abbrev pub timestamps : Given → ℤ → Step
timestamps (Selected selection) t = stamps selection.rows
timestamps g t = at_instant t (step_of g)
