-- Which answers of functions over windows, of aggregations and of times in seconds are numbers. (This project's own.)
use Rattle.std.specs.Prelude.{◌≡◌, ◌≤◌, ◌⊎◌, ℤ, unsigned_abs, List, length, Ok, IfOk, IfSome}
use Rattle.std.specs.List.{All}
use Rattle.xfrac.specs.AnySize.{InLowestTerms}
use Rattle.xfrac.specs.Fractions.{limit, lowest}
use Rattle.xfrac.specs.Laws.{IsNumber, IsWhole}
use Rattle.xfrac.specs.declared.value.XFrac.{XFrac}
use Rattle.xfrac.specs.declared.value.XFrac.TheVariants.{Fin}
use Rattle.func_table.specs.declared.table.Window.{Window}
use Rattle.ticks.specs.declared.moment.Ms.{Ms}
use Rattle.window_fn.specs.declared.frame.WindowFrame.{WindowFrame}
use Rattle.window_fn.specs.Aggregates.{average, count_of, greatest, least, quantile_of, total, variance}
use Rattle.window_fn.specs.Points.{in_seconds, milliseconds}
use Rattle.window_fn.specs.Windows.{over_of}

-- what the aggregations give of these values is a number, and so is each quantile of them
pub record AreAggregatedToNumbers (values : List XFrac) : Type 0 where
  pub total : IfOk (total values) IsNumber
  pub average : IfOk (average values) IsNumber
  pub count : IsNumber (count_of values)
  pub greatest : IsNumber (greatest values)
  pub least : IsNumber (least values)
  pub variance : IfOk (variance values) IsNumber
  pub quantile : (q : XFrac) → IsNumber q → IfOk (quantile_of q values) IsNumber

-- of numbers, fewer than the limit, an aggregation gives a number
abbrev pub AggregateIsNumber : Type 0
AggregateIsNumber = (values : List XFrac) → All IsNumber values → length values ≤ limit → AreAggregatedToNumbers values

-- and so does a function over a window, whatever the times of the samples are
abbrev pub WindowIsNumber : Type 0
WindowIsNumber =
    (f : Window) (times : List Ms) (values : List XFrac) (frame : WindowFrame) (arg : XFrac) → All IsNumber values → length values ≤ limit → IsNumber arg →
    IfOk (over_of f times values frame arg) (λ row. IfSome row IsNumber)

-- a number, or a whole number of any size, as a count is
abbrev pub IsNumberOrWhole : XFrac → Type 0
IsNumberOrWhole v = IsNumber v ⊎ IsWhole v

-- such a value is in lowest terms
abbrev pub ValueIsLowest : Type 0
ValueIsLowest = (v : XFrac) → IsNumberOrWhole v → InLowestTerms v

-- of such values, however many they are, the aggregations and the functions over windows give such values
pub record AreAggregatedAlike (values : List XFrac) : Type 0 where
  pub total : IfOk (total values) IsNumber
  pub average : IfOk (average values) IsNumber
  pub greatest : IsNumberOrWhole (greatest values)
  pub least : IsNumberOrWhole (least values)
  pub variance : IfOk (variance values) IsNumber
  pub quantile : (q : XFrac) → IsNumberOrWhole q → IfOk (quantile_of q values) IsNumber

abbrev pub AggregateIsAlike : Type 0
AggregateIsAlike = (values : List XFrac) → All IsNumberOrWhole values → AreAggregatedAlike values

abbrev pub WindowIsAlike : Type 0
WindowIsAlike =
    (f : Window) (times : List Ms) (values : List XFrac) (frame : WindowFrame) (arg : XFrac) → All IsNumberOrWhole values → IsNumberOrWhole arg →
    IfOk (over_of f times values frame arg) (λ row. IfSome row IsNumberOrWhole)

-- a time in milliseconds has a number of seconds: its thousandths in lowest terms
abbrev pub SecondsAreNumbers : Type 0
SecondsAreNumbers = (t : ℤ) → unsigned_abs t ≤ limit → (in_seconds (milliseconds t) ≡ Ok (Fin (lowest t 1000))) × IsNumber (Fin (lowest t 1000))
