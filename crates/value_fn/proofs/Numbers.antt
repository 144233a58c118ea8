-- The values of element functions of numbers are numbers.
use Rattle.std.proofs.Common.{ℕ, ◌≤◌, ℤ, Bool, true, false, arith, Option, Some, None, Ok, IfOk}
use Rattle.std.specs.Prelude.{IfSome, ◌||◌, if◌then◌else◌}
use Rattle.std.specs.Option.{ok_or, option_and_then, option_map}
use Rattle.std.specs.declared.cmp.Ordering.{Ordering}
use Rattle.std.specs.declared.cmp.Ordering.TheVariants.{Less, Equal, Greater}
use Rattle.calendar_fn.specs.Laws.{AllPartsAreWithin, IsWithin}
use Rattle.func_table.specs.declared.table.CalendarPart.{CalendarPart}
use Rattle.func_table.specs.declared.table.CalendarPart.TheVariants.{DayOfMonth, DayOfWeek, DayOfYear, DaysInMonth, Hour, Minute, Month, Year}
use Rattle.func_table.specs.declared.table.Element.TheVariants.{Abs, Ceil, Floor, Round, Sgn, Neg, Clamp, ClampMin, ClampMax, Calendar}
use Rattle.xfrac.specs.Arithmetic.{arithmetic, whole_number}
use Rattle.xfrac.specs.Forming.{floor_of}
use Rattle.xfrac.specs.Kinds.{is_not_a_number}
use Rattle.xfrac.specs.Laws.{IsNumber}
use Rattle.xfrac.specs.NumberLaws.{ArithmeticIsNumber, CeilingIsNumber, FloorIsNumber, FormedIsNumber, MagnitudeIsNumber, NegatedIsNumber, NumberHasDenominator}
use Rattle.xfrac.specs.Order.{compares, total_order}
use Rattle.xfrac.specs.Reduced.{whole_is_reduced}
use Rattle.xfrac.specs.Sequencing.{◌>>=◌, then_holds}
use Rattle.xfrac.specs.declared.value.ArithOp.TheVariants.{Add, Mul, Div}
use Rattle.xfrac.specs.declared.value.CompareOp.TheVariants.{Lt, Gt}
use Rattle.xfrac.specs.declared.value.NumFault.TheVariants.{OutOfCalendar}
use Rattle.xfrac.specs.declared.value.XFrac.{XFrac}
use Rattle.xfrac.specs.declared.value.XFrac.TheVariants.{NaN}
use Rattle.value_fn.specs.Elements.{calendar_part, half, part_at, rounded, unit_of, whole_seconds}
use Rattle.value_fn.specs.NumberLaws.{ElementIsNumber}

either : (b : Bool) (v w : XFrac) → IsNumber v → IsNumber w → IsNumber (if b then v else w)
either true v w h k = h
either false v w h k = k

either_row : (b : Bool) (v w : Option XFrac) → IfSome v IsNumber → IfSome w IsNumber → IfSome (if b then v else w) IsNumber
either_row true v w h k = h
either_row false v w h k = k

unit_number : (o : Ordering) → IsNumber (unit_of o)
unit_number Less = whole_is_reduced 1 (omega arith)
unit_number Equal = whole_is_reduced 0 (omega arith)
unit_number Greater = whole_is_reduced 1 (omega arith)

-- ---- the calendar

-- a part that is there is within the limit
abbrev IsSmall : Option ℕ → Type 0
IsSmall part = IfSome part (λ n. n ≤ 9999)

smaller : (low high : ℕ) (part : Option ℕ) → high ≤ 9999 → IsWithin low high part → IsSmall part
smaller low high None h is = tt
smaller low high (Some n) h is = omega (arith, is.1)

module _ (within : AllPartsAreWithin) where
  small : (part : CalendarPart) (z : ℤ) → IsSmall (part_at part z)
  small Year z = smaller 1 9999 (part_at Year z) (omega arith) (within z).year
  small Month z = smaller 1 12 (part_at Month z) (omega arith) (within z).month
  small DayOfMonth z = smaller 1 31 (part_at DayOfMonth z) (omega arith) (within z).day_of_month
  small DaysInMonth z = smaller 28 31 (part_at DaysInMonth z) (omega arith) (within z).days_in_month
  small DayOfYear z = smaller 1 366 (part_at DayOfYear z) (omega arith) (within z).day_of_year
  small DayOfWeek z = smaller 0 6 (part_at DayOfWeek z) (omega arith) (within z).day_of_week
  small Hour z = smaller 0 23 (part_at Hour z) (omega arith) (within z).hour
  small Minute z = smaller 0 59 (part_at Minute z) (omega arith) (within z).minute

  small_seconds : (part : CalendarPart) (seconds : Option ℤ) → IsSmall (option_and_then (part_at part) seconds)
  small_seconds part None = tt
  small_seconds part (Some z) = small part z

part_number : (part : Option ℕ) → IsSmall part → IfOk (ok_or (option_map whole_number part) OutOfCalendar) IsNumber
part_number None h = tt
part_number (Some n) h = whole_is_reduced n (omega (arith, h))

module _ (any : ArithmeticIsNumber) (formed : FormedIsNumber) (has : NumberHasDenominator) (negated_is : NegatedIsNumber) (magnitude_is : MagnitudeIsNumber) (floor_is : FloorIsNumber) (ceiling_is : CeilingIsNumber) (within : AllPartsAreWithin) where
  rounded_number : (v to : XFrac) → IsNumber v → IsNumber to → IfOk (rounded v to) IsNumber
  rounded_number v to h k =
      then_holds IsNumber IsNumber (arithmetic Div v to) (λ quotient. arithmetic Add quotient half >>= λ shifted. arithmetic Mul (floor_of shifted) to)
      (any Div v to h k)
      (λ quotient q. then_holds IsNumber IsNumber (arithmetic Add quotient half) (λ shifted. arithmetic Mul (floor_of shifted) to)
      (formed Add quotient half (λ is. cc is) (has quotient q) (omega arith))
      (λ shifted s. any Mul (floor_of shifted) to (floor_is shifted s) k))

  pub element_number : ElementIsNumber
  element_number Abs v first second h k l = magnitude_is v h
  element_number Ceil v first second h k l = ceiling_is v h
  element_number Floor v first second h k l = floor_is v h
  element_number Round v first second h k l =
      then_holds IsNumber (λ row. IfSome row IsNumber) (rounded v first) (λ value. Ok (Some value)) (rounded_number v first h k) (λ value n. n)
  element_number Sgn v first second h k l = either (is_not_a_number v) NaN (unit_of (total_order v (whole_number 0))) tt (unit_number (total_order v (whole_number 0)))
  element_number Neg v first second h k l = negated_is v h
  element_number Clamp v first second h k l =
      either_row (compares Gt first second) None (if is_not_a_number v || is_not_a_number first || is_not_a_number second then Some NaN else if compares Lt v first then Some first else if compares Gt v second then Some second else Some v) tt
      (either_row (is_not_a_number v || is_not_a_number first || is_not_a_number second) (Some NaN) (if compares Lt v first then Some first else if compares Gt v second then Some second else Some v) tt
      (either_row (compares Lt v first) (Some first) (if compares Gt v second then Some second else Some v) k (either_row (compares Gt v second) (Some second) (Some v) l h)))
  element_number ClampMin v first second h k l =
      either (is_not_a_number v || is_not_a_number first) NaN (if compares Lt v first then first else v) tt (either (compares Lt v first) first v k h)
  element_number (Calendar part) v first second h k l =
      then_holds IsNumber (λ row. IfSome row IsNumber) (calendar_part part v) (λ value. Ok (Some value)) (part_number (option_and_then (part_at part) (whole_seconds v)) (small_seconds within part (whole_seconds v))) (λ value n. n)
  element_number ClampMax v first second h k l =
      either (is_not_a_number v || is_not_a_number first) NaN (if compares Gt v first then first else v) tt (either (compares Gt v first) first v k h)
