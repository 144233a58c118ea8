-- The names of PromQL's functions. (The Prometheus querying documentation; which of them are refused is this project's own.)
use Rattle.std.specs.Prelude.{◌≡◌, ℕ, List, map, [], ◌∷◌, Bool, codes, Option, bytes_eq, if◌then◌else◌}
use Rattle.std.specs.List.{list_any}
use Rattle.std.specs.Map.{lookup, keys_of, values_of}
use Rattle.std.specs.Option.{option_map_or}
use Rattle.func_table.specs.declared.table.Func.{Func}
use Rattle.func_table.specs.declared.table.Func.TheVariants.{Element, Window, Absent, AbsentOver, HistogramQuantile, LabelJoin, LabelReplace, Scalar, Sort, SortDesc, Time, Timestamp, Vector}
use Rattle.func_table.specs.declared.table.Element.TheVariants.{Abs, Calendar, Ceil, Clamp, ClampMax, ClampMin, Floor, Round, Sgn}
use Rattle.func_table.specs.declared.table.CalendarPart.TheVariants.{DayOfMonth, DayOfWeek, DayOfYear, DaysInMonth, Hour, Minute, Month, Year}
use Rattle.func_table.specs.declared.table.Window.TheVariants.{AvgOver, Changes, CountOver, Delta, Deriv, Idelta, Increase, Irate, LastOver, MaxOver, MinOver, PredictLinear, PresentOver, QuantileOver, Rate, Resets, StdvarOver, SumOver}
use Rattle.func_table.specs.declared.table.Found.{Found}
use Rattle.func_table.specs.declared.table.Found.TheVariants.{Known, Refused, Unknown}

-- each function's name beside it, by name; the sign minus is a function without a name
abbrev pub functions : List (List ℕ × Func)
functions =
    (codes "abs", Element Abs) ∷
    (codes "absent", Absent) ∷
    (codes "absent_over_time", AbsentOver) ∷
    (codes "avg_over_time", Window AvgOver) ∷
    (codes "ceil", Element Ceil) ∷
    (codes "changes", Window Changes) ∷
    (codes "clamp", Element Clamp) ∷
    (codes "clamp_max", Element ClampMax) ∷
    (codes "clamp_min", Element ClampMin) ∷
    (codes "count_over_time", Window CountOver) ∷
    (codes "day_of_month", Element (Calendar DayOfMonth)) ∷
    (codes "day_of_week", Element (Calendar DayOfWeek)) ∷
    (codes "day_of_year", Element (Calendar DayOfYear)) ∷
    (codes "days_in_month", Element (Calendar DaysInMonth)) ∷
    (codes "delta", Window Delta) ∷
    (codes "deriv", Window Deriv) ∷
    (codes "floor", Element Floor) ∷
    (codes "histogram_quantile", HistogramQuantile) ∷
    (codes "hour", Element (Calendar Hour)) ∷
    (codes "idelta", Window Idelta) ∷
    (codes "increase", Window Increase) ∷
    (codes "irate", Window Irate) ∷
    (codes "label_join", LabelJoin) ∷
    (codes "label_replace", LabelReplace) ∷
    (codes "last_over_time", Window LastOver) ∷
    (codes "max_over_time", Window MaxOver) ∷
    (codes "min_over_time", Window MinOver) ∷
    (codes "minute", Element (Calendar Minute)) ∷
    (codes "month", Element (Calendar Month)) ∷
    (codes "predict_linear", Window PredictLinear) ∷
    (codes "present_over_time", Window PresentOver) ∷
    (codes "quantile_over_time", Window QuantileOver) ∷
    (codes "rate", Window Rate) ∷
    (codes "resets", Window Resets) ∷
    (codes "round", Element Round) ∷
    (codes "scalar", Scalar) ∷
    (codes "sgn", Element Sgn) ∷
    (codes "sort", Sort) ∷
    (codes "sort_desc", SortDesc) ∷
    (codes "stdvar_over_time", Window StdvarOver) ∷
    (codes "sum_over_time", Window SumOver) ∷
    (codes "time", Time) ∷
    (codes "timestamp", Timestamp) ∷
    (codes "vector", Vector) ∷
    (codes "year", Element (Calendar Year)) ∷
    []

-- the names of functions that PromQL has and this engine doesn't: irrational results, native histograms and experimental functions
abbrev pub refused_names : List (List ℕ)
refused_names =
    codes "exp" ∷
    codes "ln" ∷
    codes "log2" ∷
    codes "log10" ∷
    codes "sqrt" ∷
    codes "sin" ∷
    codes "cos" ∷
    codes "tan" ∷
    codes "asin" ∷
    codes "acos" ∷
    codes "atan" ∷
    codes "sinh" ∷
    codes "cosh" ∷
    codes "tanh" ∷
    codes "asinh" ∷
    codes "acosh" ∷
    codes "atanh" ∷
    codes "deg" ∷
    codes "rad" ∷
    codes "pi" ∷
    codes "stddev" ∷
    codes "stddev_over_time" ∷
    codes "histogram_avg" ∷
    codes "histogram_count" ∷
    codes "histogram_sum" ∷
    codes "histogram_fraction" ∷
    codes "histogram_stddev" ∷
    codes "histogram_stdvar" ∷
    codes "limitk" ∷
    codes "limit_ratio" ∷
    codes "info" ∷
    codes "sort_by_label" ∷
    codes "sort_by_label_desc" ∷
    codes "double_exponential_smoothing" ∷
    codes "mad_over_time" ∷
    codes "first_over_time" ∷
    codes "ts_of_first_over_time" ∷
    codes "ts_of_last_over_time" ∷
    codes "ts_of_max_over_time" ∷
    codes "ts_of_min_over_time" ∷
    []

-- whether a name stands in a list of names, letter by letter
abbrev pub is_among : List (List ℕ) → List ℕ → Bool
is_among names name = list_any (λ other. bytes_eq other name) names

-- the function of a name, if it has one
abbrev pub function_of : List ℕ → Option Func
function_of name = lookup (λ other. bytes_eq other name) functions

-- a function's name is known, a listed one refused, and any other unknown
abbrev pub found_of : List ℕ → Found
found_of name =
    option_map_or Known (function_of name) (if is_among refused_names name then Refused else Unknown)

-- looked up one by one, the names of the functions give the functions and the refused ones are refused: no name stands twice
abbrev pub ListedNamesAreFound : Type 0
ListedNamesAreFound =
    (map found_of (keys_of functions) ≡ map Known (values_of functions)) × (map found_of refused_names ≡ map (λ _. Refused) refused_names)
