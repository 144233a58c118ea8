-- The names of functions and aggregations are names and words of a text.
use Rattle.std.proofs.Common.{◌≡◌, ℕ, refl, List}
use Rattle.std.specs.Prelude.{Some}
use Rattle.func_table.specs.Naming.{aggregate_name, calendar_name, element_name, function_name, window_name}
use Rattle.func_table.specs.declared.table.Aggregate.{Aggregate}
use Rattle.func_table.specs.declared.table.Aggregate.TheVariants.{Sum, Avg, Min, Max, Count, Group, Stdvar, TopK, BottomK, Quantile, CountValues}
use Rattle.func_table.specs.declared.table.CalendarPart.{CalendarPart}
use Rattle.func_table.specs.declared.table.CalendarPart.TheVariants.{DayOfMonth, DayOfWeek, DayOfYear, DaysInMonth, Hour, Minute, Month, Year}
use Rattle.func_table.specs.declared.table.Element.{Element as ElementFunction}
use Rattle.func_table.specs.declared.table.Element.TheVariants.{Abs, Calendar, Ceil, Clamp, ClampMax, ClampMin, Floor, Neg, Round, Sgn}
use Rattle.func_table.specs.declared.table.Func.{Func}
use Rattle.func_table.specs.declared.table.Func.TheVariants.{Element, Window, Absent, AbsentOver, HistogramQuantile, LabelJoin, LabelReplace, Scalar, Sort, SortDesc, Time, Timestamp, Vector}
use Rattle.func_table.specs.declared.table.Window.{Window as WindowFunction}
use Rattle.func_table.specs.declared.table.Window.TheVariants.{AvgOver, Changes, CountOver, Delta, Deriv, Idelta, Increase, Irate, LastOver, MaxOver, MinOver, PredictLinear, PresentOver, QuantileOver, Rate, Resets, StdvarOver, SumOver}
use Rattle.promql_lex.specs.Names.{name_kind}
use Rattle.promql_lex.specs.Words.{word_of}
use Rattle.promql_lex.specs.declared.token.TokenKind.TheVariants as tokens
use Rattle.promql_lex.specs.declared.word.Word.TheVariants.{Over}
use Rattle.print_laws.proofs.Bytes.{IsNamed}
use Rattle.print_laws.proofs.LabelsRead.{begins_name}

abbrev pub IsNameToken : List ℕ → Type 0
IsNameToken s = IsNamed s × (name_kind s ≡ tokens.Name)

calendar_named : (part : CalendarPart) → IsNameToken (calendar_name part)
calendar_named DayOfMonth = ((begins_name _ refl refl, refl), refl)
calendar_named DayOfWeek = ((begins_name _ refl refl, refl), refl)
calendar_named DayOfYear = ((begins_name _ refl refl, refl), refl)
calendar_named DaysInMonth = ((begins_name _ refl refl, refl), refl)
calendar_named Hour = ((begins_name _ refl refl, refl), refl)
calendar_named Minute = ((begins_name _ refl refl, refl), refl)
calendar_named Month = ((begins_name _ refl refl, refl), refl)
calendar_named Year = ((begins_name _ refl refl, refl), refl)

element_named : (f : ElementFunction) → IsNameToken (element_name f)
element_named Abs = ((begins_name _ refl refl, refl), refl)
element_named Ceil = ((begins_name _ refl refl, refl), refl)
element_named Floor = ((begins_name _ refl refl, refl), refl)
element_named Round = ((begins_name _ refl refl, refl), refl)
element_named Sgn = ((begins_name _ refl refl, refl), refl)
element_named Neg = ((begins_name _ refl refl, refl), refl)
element_named Clamp = ((begins_name _ refl refl, refl), refl)
element_named ClampMin = ((begins_name _ refl refl, refl), refl)
element_named ClampMax = ((begins_name _ refl refl, refl), refl)
element_named (Calendar part) = calendar_named part

window_named : (f : WindowFunction) → IsNameToken (window_name f)
window_named Rate = ((begins_name _ refl refl, refl), refl)
window_named Increase = ((begins_name _ refl refl, refl), refl)
window_named Delta = ((begins_name _ refl refl, refl), refl)
window_named Irate = ((begins_name _ refl refl, refl), refl)
window_named Idelta = ((begins_name _ refl refl, refl), refl)
window_named Deriv = ((begins_name _ refl refl, refl), refl)
window_named PredictLinear = ((begins_name _ refl refl, refl), refl)
window_named Changes = ((begins_name _ refl refl, refl), refl)
window_named Resets = ((begins_name _ refl refl, refl), refl)
window_named AvgOver = ((begins_name _ refl refl, refl), refl)
window_named MinOver = ((begins_name _ refl refl, refl), refl)
window_named MaxOver = ((begins_name _ refl refl, refl), refl)
window_named SumOver = ((begins_name _ refl refl, refl), refl)
window_named CountOver = ((begins_name _ refl refl, refl), refl)
window_named StdvarOver = ((begins_name _ refl refl, refl), refl)
window_named QuantileOver = ((begins_name _ refl refl, refl), refl)
window_named LastOver = ((begins_name _ refl refl, refl), refl)
window_named PresentOver = ((begins_name _ refl refl, refl), refl)

pub function_named : (f : Func) → IsNameToken (function_name f)
function_named (Element f) = element_named f
function_named (Window f) = window_named f
function_named Absent = ((begins_name _ refl refl, refl), refl)
function_named AbsentOver = ((begins_name _ refl refl, refl), refl)
function_named HistogramQuantile = ((begins_name _ refl refl, refl), refl)
function_named LabelJoin = ((begins_name _ refl refl, refl), refl)
function_named LabelReplace = ((begins_name _ refl refl, refl), refl)
function_named Scalar = ((begins_name _ refl refl, refl), refl)
function_named Sort = ((begins_name _ refl refl, refl), refl)
function_named SortDesc = ((begins_name _ refl refl, refl), refl)
function_named Time = ((begins_name _ refl refl, refl), refl)
function_named Timestamp = ((begins_name _ refl refl, refl), refl)
function_named Vector = ((begins_name _ refl refl, refl), refl)

pub aggregate_named : (f : Aggregate) → IsNamed (aggregate_name f) × (name_kind (aggregate_name f) ≡ tokens.Word) × (word_of (aggregate_name f) ≡ Some (Over f))
aggregate_named Sum = ((begins_name _ refl refl, refl), refl, refl)
aggregate_named Avg = ((begins_name _ refl refl, refl), refl, refl)
aggregate_named Min = ((begins_name _ refl refl, refl), refl, refl)
aggregate_named Max = ((begins_name _ refl refl, refl), refl, refl)
aggregate_named Count = ((begins_name _ refl refl, refl), refl, refl)
aggregate_named Group = ((begins_name _ refl refl, refl), refl, refl)
aggregate_named Stdvar = ((begins_name _ refl refl, refl), refl, refl)
aggregate_named TopK = ((begins_name _ refl refl, refl), refl, refl)
aggregate_named BottomK = ((begins_name _ refl refl, refl), refl, refl)
aggregate_named Quantile = ((begins_name _ refl refl, refl), refl, refl)
aggregate_named CountValues = ((begins_name _ refl refl, refl), refl, refl)
