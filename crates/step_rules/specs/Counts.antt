-- Buckets by their bounds, and their counts. (Our own.)
use Rattle.std.specs.Prelude.{◌≡◌, true, List, Result, if◌then◌else◌}
use Rattle.std.specs.List.{All}
use Rattle.std.specs.Ordering.{ordering_then}
use Rattle.std.specs.declared.cmp.Ordering.{Ordering}
use Rattle.xfrac.specs.Arithmetic.{arithmetic}
use Rattle.xfrac.specs.Laws.{IsNumber}
use Rattle.xfrac.specs.Order.{compares, total_order}
use Rattle.xfrac.specs.Sequencing.{◌>>=◌}
use Rattle.xfrac.specs.declared.value.ArithOp.TheVariants.{Add, Sub, Mul}
use Rattle.xfrac.specs.declared.value.NumFault.{NumFault}
use Rattle.xfrac.specs.declared.value.CompareOp.TheVariants.{Lt}
use Rattle.xfrac.specs.declared.value.XFrac.{XFrac}
use Rattle.step_table.specs.Orders.{note_cmp}
use Rattle.step_table.specs.declared.marks.Note.TheVariants.{QuantileRange}
use Rattle.promql_meaning.specs.declared.buckets.Bucket.{Bucket}
use Rattle.window_fn.specs.Slopes.{is_finite}
use Rattle.promql_meaning.specs.NumberOrder.{tidy}

-- a finite number of the type
pub record IsCount (v : XFrac) : Type 0 where
  pub number : IsNumber v
  pub finite : is_finite v ≡ true

abbrev pub AreCounts : List Bucket → Type 0
AreCounts buckets = All (λ (b : Bucket). IsCount b.count) buckets

-- of a count and an earlier one the greater
abbrev pub count_above : XFrac → XFrac → XFrac
count_above most count = if compares Lt count most then most else count

-- bounds in their order; all that look like numbers are in an order that ties equal ones alone
abbrev pub number_order : XFrac → XFrac → Ordering
number_order a b = ordering_then (total_order (tidy a) (tidy b)) (note_cmp (QuantileRange a) (QuantileRange b))

abbrev pub bound_order : Bucket → Bucket → Ordering
bound_order a b = number_order a.bound b.bound

-- a share of the way from a start to an end
abbrev pub point_along : XFrac → XFrac → XFrac → Result XFrac NumFault
point_along start end share = arithmetic Sub end start >>= λ width. arithmetic Mul width share >>= λ way. arithmetic Add start way
