-- deriv and predict_linear: the line through the samples of a window by least squares. (Prometheus querying, "Functions"; the order of the operations on exact numbers, and so where they overflow, is this project's own.)
use Rattle.std.specs.Prelude.{ℤ, ◌-ℤ◌, Bool, true, false, List, length, map, Result, Ok, if◌then◌else◌}
use Rattle.std.specs.List.{zip, list_all}
use Rattle.xfrac.specs.Arithmetic.{arithmetic, whole_number}
use Rattle.xfrac.specs.Sequencing.{◌>>=◌}
use Rattle.xfrac.specs.declared.value.ArithOp.TheVariants.{Add, Sub, Mul, Div}
use Rattle.xfrac.specs.declared.value.NumFault.{NumFault}
use Rattle.xfrac.specs.declared.value.XFrac.{XFrac}
use Rattle.xfrac.specs.declared.value.XFrac.TheVariants.{Fin, NaN}
use Rattle.ticks.specs.declared.moment.Ms.{Ms}
use Rattle.window_fn.specs.declared.slopes.Moments.{Moments}
use Rattle.window_fn.specs.Aggregates.{total, total_of_answers}
use Rattle.window_fn.specs.Points.{begun, milliseconds}

-- a fraction: no infinity and not NaN
abbrev pub is_finite : XFrac → Bool
is_finite (Fin f) = true
is_finite v = false

-- how many milliseconds after an origin each time is
abbrev pub spans : ℤ → List Ms → List XFrac
spans origin times = map (λ t. milliseconds (t.0 -ℤ origin)) times

-- ---- the sums

-- two answers, where both are there; else the first fault
abbrev pub both : Result XFrac NumFault → Result XFrac NumFault → Result (XFrac × XFrac) NumFault
both a b = do
  first ← a
  second ← b
  Ok (first, second)

-- each x times its y, and each x times itself
abbrev pub products : List XFrac → List XFrac → List (Result XFrac NumFault)
products xs ys = map (λ p. arithmetic Mul p.0 p.1) (zip xs ys)

abbrev pub squares : List XFrac → List (Result XFrac NumFault)
squares xs = map (λ x. arithmetic Mul x x) xs

-- the sums of x, y, x * y and x * x over all points, each formed as one
unfoldable pub moments_of : List XFrac → List XFrac → Result Moments NumFault
moments_of xs ys = do
  first ← both (total xs) (total ys)
  second ← both (total_of_answers (products xs ys)) (total_of_answers (squares xs))
  Ok (record { x = first.0; y = first.1; xy = second.0; xx = second.1 })

-- ---- the line

-- k * p - a * b
unfoldable pub cross : XFrac → XFrac → XFrac → XFrac → Result XFrac NumFault
cross k p a b = do
  scaled ← arithmetic Mul k p
  product ← arithmetic Mul a b
  arithmetic Sub scaled product

-- the slope by milliseconds: (k * P - X * Y) / (k * Q - X * X), of k points with the sums X of x, Y of y, P of x * y and Q of x * x
unfoldable pub slope_of : XFrac → Moments → Result XFrac NumFault
slope_of k sums = do
  joint ← cross k sums.xy sums.x sums.y
  spread ← cross k sums.xx sums.x sums.x
  arithmetic Div joint spread

-- the line's value at the origin: (Y - slope * X) / k
unfoldable pub intercept_of : XFrac → Moments → XFrac → Result XFrac NumFault
intercept_of k sums slope = do
  fall ← arithmetic Mul slope sums.x
  rest ← arithmetic Sub sums.y fall
  arithmetic Div rest k

-- how far the line rises in so many seconds: (slope * 1000) * seconds
unfoldable pub rise_in : XFrac → XFrac → Result XFrac NumFault
rise_in slope seconds = do
  by_second ← arithmetic Mul slope (whole_number 1000)
  arithmetic Mul by_second seconds

-- the line's value so many seconds after the origin
unfoldable pub value_after : XFrac → Moments → XFrac → XFrac → Result XFrac NumFault
value_after k sums slope seconds = do
  intercept ← intercept_of k sums slope
  rise ← rise_in slope seconds
  arithmetic Add intercept rise

-- ---- the functions, of at least two samples

-- the slope by seconds, the first time as origin; NaN where a value isn't finite
unfoldable pub slope_by_seconds : List Ms → List XFrac → Result XFrac NumFault
slope_by_seconds times values = do
  sums ← moments_of (spans (begun times) times) values
  slope ← slope_of (whole_number (length values)) sums
  arithmetic Mul slope (whole_number 1000)

abbrev pub derivative : List Ms → List XFrac → Result XFrac NumFault
derivative times values = if list_all is_finite values then slope_by_seconds times values else Ok NaN

-- the line's value so many seconds after the instant, which is its origin; NaN where a value isn't finite
unfoldable pub extended_line : ℤ → List Ms → List XFrac → XFrac → Result XFrac NumFault
extended_line instant times values seconds = do
  sums ← moments_of (spans instant times) values
  slope ← slope_of (whole_number (length values)) sums
  value_after (whole_number (length values)) sums slope seconds

abbrev pub prediction : ℤ → List Ms → List XFrac → XFrac → Result XFrac NumFault
prediction instant times values seconds = if list_all is_finite values then extended_line instant times values seconds else Ok NaN
