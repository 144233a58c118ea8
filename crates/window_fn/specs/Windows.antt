-- The functions over the samples of a window. (Prometheus querying, "Functions": those over range vectors.)
use Rattle.std.specs.Prelude.{◌≤ℤ◌, ◌-ℤ◌, Bool, true, false, ◌&&◌, nat_lt, List, length, Option, None, Some, Result, Ok, if◌then◌else◌}
use Rattle.xfrac.specs.Arithmetic.{whole_number}
use Rattle.xfrac.specs.Sequencing.{◌>>=◌}
use Rattle.xfrac.specs.declared.value.NumFault.{NumFault}
use Rattle.xfrac.specs.declared.value.XFrac.{XFrac}
use Rattle.func_table.specs.declared.table.Window.{Window}
use Rattle.func_table.specs.declared.table.Window.TheVariants.{Rate, Increase, Delta, Irate, Idelta, Deriv, PredictLinear, Changes, Resets, AvgOver, MinOver, MaxOver, SumOver, CountOver, StdvarOver, QuantileOver, LastOver, PresentOver}
use Rattle.ticks.specs.Walks.{IsTime}
use Rattle.ticks.specs.declared.moment.Ms.{Ms}
use Rattle.window_fn.specs.declared.frame.WindowFrame.{WindowFrame}
use Rattle.window_fn.specs.Aggregates.{overflow_alone, total, average, count_of, greatest, least, variance, quantile_of}
use Rattle.window_fn.specs.Increases.{increase, rate}
use Rattle.window_fn.specs.Points.{last_of}
use Rattle.window_fn.specs.Slopes.{derivative, prediction}
use Rattle.window_fn.specs.Steps.{instant_rate, last_difference, changes, resets}

-- the frame's instant, and the ends of its window, are times
pub record IsFrame (frame : WindowFrame) : Type 0 where
  pub instant : IsTime frame.eval.0
  pub ends : IsTime frame.moment.0
  pub begins : IsTime (frame.moment.0 -ℤ frame.range.0)

-- a time lies in the window, whose both ends are taken
pub record IsInFrame (frame : WindowFrame) (t : Ms) : Type 0 where
  pub from_start : (frame.moment.0 -ℤ frame.range.0) ≤ℤ t.0
  pub to_end : t.0 ≤ℤ frame.moment.0

-- the functions that tell how the values change, for which one sample is too few
abbrev pub wants_two : Window → Bool
wants_two Rate = true
wants_two Increase = true
wants_two Delta = true
wants_two Irate = true
wants_two Idelta = true
wants_two Deriv = true
wants_two PredictLinear = true
wants_two _ = false

-- a function's value of as many samples as it wants; `arg` is how many seconds PredictLinear looks ahead, or the quantile that QuantileOver gives
abbrev pub value_over : Window → List Ms → List XFrac → WindowFrame → XFrac → Result XFrac NumFault
value_over Rate times values frame arg = rate times values frame
value_over Increase times values frame arg = increase true times values frame
value_over Delta times values frame arg = increase false times values frame
value_over Irate times values frame arg = instant_rate times values
value_over Idelta times values frame arg = last_difference values
value_over Deriv times values frame arg = derivative times values
value_over PredictLinear times values frame arg = prediction frame.eval.0 times values arg
value_over Changes times values frame arg = Ok (changes values)
value_over Resets times values frame arg = Ok (resets values)
value_over AvgOver times values frame arg = average values
value_over MinOver times values frame arg = Ok (least values)
value_over MaxOver times values frame arg = Ok (greatest values)
value_over SumOver times values frame arg = total values
value_over CountOver times values frame arg = Ok (count_of values)
value_over StdvarOver times values frame arg = variance values
value_over QuantileOver times values frame arg = quantile_of arg values
value_over LastOver times values frame arg = Ok (last_of values)
value_over PresentOver times values frame arg = Ok (whole_number 1)

-- the samples are too few for the function: it gives no row
abbrev pub has_no_row : Window → List XFrac → Bool
has_no_row f values = wants_two f && nat_lt (length values) 2

-- what a function gives of the samples of a window: a value, no row, or that it overflows
abbrev pub over_of : Window → List Ms → List XFrac → WindowFrame → XFrac → Result (Option XFrac) NumFault
over_of f times values frame arg =
    if has_no_row f values then Ok None else overflow_alone (value_over f times values frame arg) >>= λ value. Ok (Some value)
