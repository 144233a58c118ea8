-- What each function and aggregation takes and gives, by the Prometheus querying documentation, "Functions" and
-- "Aggregation operators".
use Rattle.std.specs.Prelude.{ℕ, suc, Bool, ◌==◌, ◌||◌, nat_le, List, [], ◌∷◌, length, Option, None, Some, slice_get}
use Rattle.func_table.specs.declared.table.Func.{Func}
use Rattle.func_table.specs.declared.table.Element.{Element as ElementFunction}
use Rattle.func_table.specs.declared.table.Window.{Window as WindowFunction}
use Rattle.func_table.specs.declared.table.Aggregate.{Aggregate}
use Rattle.func_table.specs.declared.table.Func.TheVariants.{Element, Window, Absent, AbsentOver, HistogramQuantile, LabelJoin, LabelReplace, Scalar as ToScalar, Sort, SortDesc, Time, Timestamp, Vector as ToVector}
use Rattle.func_table.specs.declared.table.Element.TheVariants.{Abs, Ceil, Floor, Round, Sgn, Neg, Clamp, ClampMin, ClampMax, Calendar}
use Rattle.func_table.specs.declared.table.Window.TheVariants.{Rate, Increase, Delta, Irate, Idelta, Deriv, PredictLinear, Changes, Resets, AvgOver, MinOver, MaxOver, SumOver, CountOver, StdvarOver, QuantileOver, LastOver, PresentOver}
use Rattle.func_table.specs.declared.table.Aggregate.TheVariants.{Sum, Avg, Min, Max, Count, Group, Stdvar, TopK, BottomK, Quantile, CountValues}
use Rattle.promql_type.specs.declared.kind.Kind.{Kind}
use Rattle.promql_type.specs.declared.kind.Kind.TheVariants.{Scalar, Vector, Windows, Words}
use Rattle.promql_type.specs.declared.signature.Callee.{Callee}
use Rattle.promql_type.specs.declared.signature.Callee.TheVariants.{Function, Aggregation}
use Rattle.promql_type.specs.declared.signature.More.{More}
use Rattle.promql_type.specs.declared.signature.More.TheVariants.{Nothing, Once, Often}

-- the arguments that must be there, those that may follow, and what the call gives
pub record Signature : Type 0 where
  pub takes : List Kind
  pub more : More
  pub gives : Kind

-- these arguments and no others
abbrev pub from : List Kind → Kind → Signature
from takes gives = record { takes = takes; more = Nothing; gives = gives }

abbrev pub signature : Callee → Signature
signature (Function (Element Abs)) = from (Vector ∷ []) Vector
signature (Function (Element Ceil)) = from (Vector ∷ []) Vector
signature (Function (Element Floor)) = from (Vector ∷ []) Vector
signature (Function (Element Round)) = record { takes = Vector ∷ []; more = Once Scalar; gives = Vector }
signature (Function (Element Sgn)) = from (Vector ∷ []) Vector
signature (Function (Element Neg)) = from (Vector ∷ []) Vector
signature (Function (Element Clamp)) = from (Vector ∷ Scalar ∷ Scalar ∷ []) Vector
signature (Function (Element ClampMin)) = from (Vector ∷ Scalar ∷ []) Vector
signature (Function (Element ClampMax)) = from (Vector ∷ Scalar ∷ []) Vector
signature (Function (Element (Calendar part))) = record { takes = []; more = Once Vector; gives = Vector }
signature (Function Sort) = from (Vector ∷ []) Vector
signature (Function SortDesc) = from (Vector ∷ []) Vector
signature (Function Timestamp) = from (Vector ∷ []) Vector
signature (Function Absent) = from (Vector ∷ []) Vector
signature (Function ToScalar) = from (Vector ∷ []) Scalar
signature (Function ToVector) = from (Scalar ∷ []) Vector
signature (Function Time) = from [] Scalar
signature (Function LabelReplace) = from (Vector ∷ Words ∷ Words ∷ Words ∷ Words ∷ []) Vector
signature (Function LabelJoin) = record { takes = Vector ∷ Words ∷ Words ∷ []; more = Often Words; gives = Vector }
signature (Function HistogramQuantile) = from (Scalar ∷ Vector ∷ []) Vector
signature (Function (Window Rate)) = from (Windows ∷ []) Vector
signature (Function (Window Increase)) = from (Windows ∷ []) Vector
signature (Function (Window Delta)) = from (Windows ∷ []) Vector
signature (Function (Window Irate)) = from (Windows ∷ []) Vector
signature (Function (Window Idelta)) = from (Windows ∷ []) Vector
signature (Function (Window Deriv)) = from (Windows ∷ []) Vector
signature (Function (Window Changes)) = from (Windows ∷ []) Vector
signature (Function (Window Resets)) = from (Windows ∷ []) Vector
signature (Function (Window AvgOver)) = from (Windows ∷ []) Vector
signature (Function (Window MinOver)) = from (Windows ∷ []) Vector
signature (Function (Window MaxOver)) = from (Windows ∷ []) Vector
signature (Function (Window SumOver)) = from (Windows ∷ []) Vector
signature (Function (Window CountOver)) = from (Windows ∷ []) Vector
signature (Function (Window StdvarOver)) = from (Windows ∷ []) Vector
signature (Function (Window LastOver)) = from (Windows ∷ []) Vector
signature (Function (Window PresentOver)) = from (Windows ∷ []) Vector
signature (Function AbsentOver) = from (Windows ∷ []) Vector
signature (Function (Window PredictLinear)) = from (Windows ∷ Scalar ∷ []) Vector
signature (Function (Window QuantileOver)) = from (Scalar ∷ Windows ∷ []) Vector
signature (Aggregation Sum) = from (Vector ∷ []) Vector
signature (Aggregation Avg) = from (Vector ∷ []) Vector
signature (Aggregation Min) = from (Vector ∷ []) Vector
signature (Aggregation Max) = from (Vector ∷ []) Vector
signature (Aggregation Count) = from (Vector ∷ []) Vector
signature (Aggregation Group) = from (Vector ∷ []) Vector
signature (Aggregation Stdvar) = from (Vector ∷ []) Vector
signature (Aggregation TopK) = from (Scalar ∷ Vector ∷ []) Vector
signature (Aggregation BottomK) = from (Scalar ∷ Vector ∷ []) Vector
signature (Aggregation Quantile) = from (Scalar ∷ Vector ∷ []) Vector
signature (Aggregation CountValues) = from (Words ∷ Vector ∷ []) Vector

-- the rows of element functions, of window functions, of all functions, and of aggregations
abbrev pub element_row : ElementFunction → Signature
element_row f = signature (Function (Element f))

abbrev pub window_row : WindowFunction → Signature
window_row f = signature (Function (Window f))

abbrev pub function_row : Func → Signature
function_row f = signature (Function f)

abbrev pub aggregation_row : Aggregate → Signature
aggregation_row f = signature (Aggregation f)

-- whether so many arguments are taken
abbrev pub is_count : Signature → ℕ → Bool
is_count row n = fits row.more
  where
    fits : More → Bool
    fits Nothing = n == length row.takes
    fits (Once kind) = n == length row.takes || n == suc (length row.takes)
    fits (Often kind) = nat_le (length row.takes) n

-- what the argument of a number, counted from 0, has to be, if there may be one
abbrev pub argument : Signature → ℕ → Option Kind
argument row n = listed (slice_get row.takes n)
  where
    following : More → Option Kind
    following Nothing = None
    following (Once kind) = Some kind
    following (Often kind) = Some kind

    listed : Option Kind → Option Kind
    listed None = following row.more
    listed (Some kind) = Some kind
