-- The aggregations over the values of a group or of a window. (Prometheus querying, "Aggregation operators", on exact numbers; where they overflow is this project's own.)
use Rattle.std.specs.Prelude.{ℕ, ◌-◌, ◌+◌, Bool, ◌||◌, List, [], ◌∷◌, length, map, fold, Result, Ok, Err, is_ok, if◌then◌else◌, slice_index_or, unsigned_abs, min}
use Rattle.std.specs.List.{list_all, filter_map}
use Rattle.std.specs.Option.{ok_or}
use Rattle.std.specs.Ordering.{is_lt}
use Rattle.std.specs.Result.{result_ok}
use Rattle.std.specs.declared.cmp.Ordering.{Ordering}
use Rattle.std.specs.declared.cmp.Ordering.TheVariants.{Less, Equal, Greater}
use Rattle.xfrac.specs.Arithmetic.{arithmetic, mean_of, whole_number}
use Rattle.xfrac.specs.Forming.{floor_of}
use Rattle.xfrac.specs.Kinds.{is_not_a_number}
use Rattle.xfrac.specs.Order.{compares, total_order}
use Rattle.xfrac.specs.Sequencing.{◌>>=◌}
use Rattle.xfrac.specs.Sums.{sum_of}
use Rattle.xfrac.specs.declared.value.ArithOp.TheVariants.{Add, Sub, Mul, Div}
use Rattle.xfrac.specs.declared.value.CompareOp.TheVariants.{Lt, Gt}
use Rattle.xfrac.specs.declared.value.NumFault.{NumFault}
use Rattle.xfrac.specs.declared.value.NumFault.TheVariants.{Overflow}
use Rattle.xfrac.specs.declared.value.XFrac.{XFrac}
use Rattle.xfrac.specs.declared.value.XFrac.TheVariants.{Fin, PosInf, NegInf, NaN}

-- ---- sum, avg and count

-- the sum of all values, formed as one
abbrev pub total : List XFrac → Result XFrac NumFault
total values = ok_or (sum_of values) Overflow

-- the sum divided by how many values there are
abbrev pub average : List XFrac → Result XFrac NumFault
average values = ok_or (mean_of values) Overflow

-- how many values there are
abbrev pub count_of : List XFrac → XFrac
count_of values = whole_number (length values)

-- ---- min and max

-- of two values the greater; NaN gives way to any other
abbrev pub greater : XFrac → XFrac → XFrac
greater most value = if is_not_a_number most || compares Gt value most then value else most

-- of two values the lesser; NaN gives way to any other
abbrev pub lesser : XFrac → XFrac → XFrac
lesser least value = if is_not_a_number least || compares Lt value least then value else least

-- the greatest value; NaN only where there is no other
abbrev pub greatest : List XFrac → XFrac
greatest values = fold greater NaN values

-- the least value; NaN only where there is no other
abbrev pub least : List XFrac → XFrac
least values = fold lesser NaN values

-- ---- sums of what is worked out of each value

-- the sum of answers, formed as one: it overflows where one of them has, too
abbrev pub total_of_answers : List (Result XFrac NumFault) → Result XFrac NumFault
total_of_answers answers = if list_all is_ok answers then total (filter_map result_ok answers) else Err Overflow

-- ---- stdvar

-- the square of how far a value is from the mean
abbrev pub squared_distance : XFrac → XFrac → Result XFrac NumFault
squared_distance mean value = do
  distance ← arithmetic Sub value mean
  arithmetic Mul distance distance

-- the sum of the squares of how far each value is from the mean, divided by how many there are
abbrev pub variance : List XFrac → Result XFrac NumFault
variance values = do
  mean ← average values
  squares ← total_of_answers (map (squared_distance mean) values)
  arithmetic Div squares (count_of values)

-- ---- quantile

-- NaN before all others, and these by the total order
abbrev pub nan_first : XFrac → XFrac → Ordering
nan_first a b =
    if is_not_a_number a then if is_not_a_number b then Equal else Less
    else if is_not_a_number b then Greater
    else total_order a b

abbrev pub is_before : XFrac → XFrac → Bool
is_before a b = is_lt (nan_first a b)

-- one more item in a sorted list, before the first that is above it
abbrev pub inserted : {A : Type 0} → (A → A → Bool) → List A → A → List A
inserted below [] item = item ∷ []
inserted below (x ∷ xs) item = if below item x then item ∷ x ∷ xs else x ∷ inserted below xs item

-- the values sorted, NaN before all others
abbrev pub ascending : List XFrac → List XFrac
ascending values = fold (inserted is_before) [] values

-- the magnitude of a number that is whole
abbrev pub place_of : XFrac → ℕ
place_of (Fin f) = unsigned_abs f.0
place_of v = 0

-- low * (1 - weight)
unfoldable pub low_share : XFrac → XFrac → Result XFrac NumFault
low_share low weight = do
  rest ← arithmetic Sub (whole_number 1) weight
  arithmetic Mul low rest

-- between two values: low * (1 - weight) + high * weight
unfoldable pub weighed : XFrac → XFrac → XFrac → Result XFrac NumFault
weighed low high weight = do
  below ← low_share low weight
  above ← arithmetic Mul high weight
  arithmetic Add below above

-- between the value at a place of sorted values and the next one; at the last place there is no next one
abbrev pub weighed_at : List XFrac → ℕ → XFrac → Result XFrac NumFault
weighed_at sorted i weight =
    weighed (slice_index_or sorted i NaN) (slice_index_or sorted (min (i + 1) (length sorted - 1)) NaN) weight

-- the value at a rank among sorted values, by how far the rank is above its floor
unfoldable pub at_rank : XFrac → List XFrac → Result XFrac NumFault
at_rank rank sorted = do
  weight ← arithmetic Sub rank (floor_of rank)
  weighed_at sorted (place_of (floor_of rank)) weight

-- the quantile of sorted values, at the rank q * (n - 1)
unfoldable pub interpolated : XFrac → List XFrac → Result XFrac NumFault
interpolated q sorted = do
  rank ← arithmetic Mul q (whole_number (length sorted - 1))
  at_rank rank sorted

-- what has no power in it has no fault but that it overflows
abbrev pub overflow_alone : Result XFrac NumFault → Result XFrac NumFault
overflow_alone (Ok value) = Ok value
overflow_alone (Err fault) = Err Overflow

-- the quantile: NaN at NaN, -Inf below 0, +Inf above 1, else interpolated
abbrev pub quantile_of : XFrac → List XFrac → Result XFrac NumFault
quantile_of q values =
    if is_not_a_number q then Ok NaN
    else if compares Lt q (whole_number 0) then Ok NegInf
    else if compares Gt q (whole_number 1) then Ok PosInf
    else overflow_alone (interpolated q (ascending values))
