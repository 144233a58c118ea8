-- The names of functions and aggregations: what a query calls them by. (The Prometheus querying documentation. That the sign
-- minus, which no name calls, is `neg` where it stands among functions is this project's own.)
use Rattle.std.specs.Prelude.{◌≡◌, ℕ, List, codes}
use Rattle.func_table.specs.declared.table.Aggregate.{Aggregate}
use Rattle.func_table.specs.declared.table.Aggregate.TheVariants.{Sum, Avg, Min, Max, Count, Group, Stdvar, TopK, BottomK, Quantile, CountValues}
use Rattle.func_table.specs.declared.table.CalendarPart.{CalendarPart}
use Rattle.func_table.specs.declared.table.CalendarPart.TheVariants.{DayOfMonth, DayOfWeek, DayOfYear, DaysInMonth, Hour, Minute, Month, Year}
use Rattle.func_table.specs.declared.table.Element.{Element as ElementFunction}
use Rattle.func_table.specs.declared.table.Element.TheVariants.{Abs, Calendar, Ceil, Clamp, ClampMax, ClampMin, Floor, Neg, Round, Sgn}
use Rattle.func_table.specs.declared.table.Found.TheVariants.{Known}
use Rattle.func_table.specs.declared.table.Func.{Func}
use Rattle.func_table.specs.declared.table.Func.TheVariants.{Element, Window, Absent, AbsentOver, HistogramQuantile, LabelJoin, LabelReplace, Scalar, Sort, SortDesc, Time, Timestamp, Vector}
use Rattle.func_table.specs.declared.table.Window.{Window as WindowFunction}
use Rattle.func_table.specs.declared.table.Window.TheVariants.{AvgOver, Changes, CountOver, Delta, Deriv, Idelta, Increase, Irate, LastOver, MaxOver, MinOver, PredictLinear, PresentOver, QuantileOver, Rate, Resets, StdvarOver, SumOver}
use Rattle.func_table.specs.Names.{found_of}

abbrev pub calendar_name : CalendarPart → List ℕ
calendar_name DayOfMonth = codes "day_of_month"
calendar_name DayOfWeek = codes "day_of_week"
calendar_name DayOfYear = codes "day_of_year"
calendar_name DaysInMonth = codes "days_in_month"
calendar_name Hour = codes "hour"
calendar_name Minute = codes "minute"
calendar_name Month = codes "month"
calendar_name Year = codes "year"

abbrev pub element_name : ElementFunction → List ℕ
element_name Abs = codes "abs"
element_name Ceil = codes "ceil"
element_name Floor = codes "floor"
element_name Round = codes "round"
element_name Sgn = codes "sgn"
element_name Neg = codes "neg"
element_name Clamp = codes "clamp"
element_name ClampMin = codes "clamp_min"
element_name ClampMax = codes "clamp_max"
element_name (Calendar part) = calendar_name part

abbrev pub window_name : WindowFunction → List ℕ
window_name Rate = codes "rate"
window_name Increase = codes "increase"
window_name Delta = codes "delta"
window_name Irate = codes "irate"
window_name Idelta = codes "idelta"
window_name Deriv = codes "deriv"
window_name PredictLinear = codes "predict_linear"
window_name Changes = codes "changes"
window_name Resets = codes "resets"
window_name AvgOver = codes "avg_over_time"
window_name MinOver = codes "min_over_time"
window_name MaxOver = codes "max_over_time"
window_name SumOver = codes "sum_over_time"
window_name CountOver = codes "count_over_time"
window_name StdvarOver = codes "stdvar_over_time"
window_name QuantileOver = codes "quantile_over_time"
window_name LastOver = codes "last_over_time"
window_name PresentOver = codes "present_over_time"

abbrev pub function_name : Func → List ℕ
function_name (Element f) = element_name f
function_name (Window f) = window_name f
function_name Absent = codes "absent"
function_name AbsentOver = codes "absent_over_time"
function_name HistogramQuantile = codes "histogram_quantile"
function_name LabelJoin = codes "label_join"
function_name LabelReplace = codes "label_replace"
function_name Scalar = codes "scalar"
function_name Sort = codes "sort"
function_name SortDesc = codes "sort_desc"
function_name Time = codes "time"
function_name Timestamp = codes "timestamp"
function_name Vector = codes "vector"

abbrev pub aggregate_name : Aggregate → List ℕ
aggregate_name Sum = codes "sum"
aggregate_name Avg = codes "avg"
aggregate_name Min = codes "min"
aggregate_name Max = codes "max"
aggregate_name Count = codes "count"
aggregate_name Group = codes "group"
aggregate_name Stdvar = codes "stdvar"
aggregate_name TopK = codes "topk"
aggregate_name BottomK = codes "bottomk"
aggregate_name Quantile = codes "quantile"
aggregate_name CountValues = codes "count_values"

-- ---- laws

-- each function but the sign is found by its name
abbrev pub NamesAreFound : Type 0
NamesAreFound = (f : Func) → (f ≡ Element Neg → ⊥) → found_of (function_name f) ≡ Known f

-- and by no other
abbrev pub FoundNamesAreTheirs : Type 0
FoundNamesAreTheirs = (name : List ℕ) (f : Func) → found_of name ≡ Known f → name ≡ function_name f
