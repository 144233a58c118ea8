-- The element functions. (The Prometheus querying documentation, on exact numbers: the order of the operations, and so where they overflow, is this project's own.)
use Rattle.std.specs.Prelude.{◌≡◌, ℕ, ◌≤◌, ℤ, pos, ◌*ℤ◌, ◌≤ℤ◌, ◌<ℤ◌, ◌||◌, not, Bool, true, false, int_div, Option, Some, None, Result, Ok, if◌then◌else◌}
use Rattle.std.specs.declared.cmp.Ordering.{Ordering}
use Rattle.std.specs.declared.cmp.Ordering.TheVariants.{Less, Equal, Greater}
use Rattle.std.specs.Option.{ok_or, option_and_then, option_map}
use Rattle.calendar_fn.specs.Parts.{is_in_calendar, day_of_month_at, day_of_week_at, day_of_year_at, days_in_month_at, hour_at, minute_at, month_at, year_at}
use Rattle.func_table.specs.declared.table.CalendarPart.{CalendarPart}
use Rattle.func_table.specs.declared.table.CalendarPart.TheVariants.{DayOfMonth, DayOfWeek, DayOfYear, DaysInMonth, Hour, Minute, Month, Year}
use Rattle.func_table.specs.declared.table.Element.{Element}
use Rattle.func_table.specs.declared.table.Element.TheVariants.{Abs, Ceil, Floor, Round, Sgn, Neg, Clamp, ClampMin, ClampMax, Calendar}
use Rattle.xfrac.specs.Arithmetic.{arithmetic, whole_number}
use Rattle.xfrac.specs.Forming.{negated, magnitude, floor_of, ceiling_of}
use Rattle.xfrac.specs.Kinds.{is_not_a_number}
use Rattle.xfrac.specs.Laws.{IsNumber}
use Rattle.xfrac.specs.Near.{difference}
use Rattle.xfrac.specs.Order.{compares, total_order}
use Rattle.xfrac.specs.Sequencing.{◌>>=◌}
use Rattle.xfrac.specs.declared.value.ArithOp.TheVariants.{Add, Mul, Div}
use Rattle.xfrac.specs.declared.value.CompareOp.TheVariants.{Lt, Gt}
use Rattle.xfrac.specs.declared.value.NumFault.{NumFault}
use Rattle.xfrac.specs.declared.value.NumFault.TheVariants.{Overflow, OutOfCalendar}
use Rattle.xfrac.specs.declared.value.XFrac.{XFrac}
use Rattle.xfrac.specs.declared.value.XFrac.TheVariants.{Fin, NaN}

-- ---- rounding

abbrev pub half : XFrac
half = Fin (pos 1, 2)

-- floor(v / to + 1/2) * to, an operation after the other: for a positive `to` its nearest multiple, the upper one of two
abbrev pub rounded : XFrac → XFrac → Result XFrac NumFault
rounded v to =
    arithmetic Div v to >>= λ quotient.
    arithmetic Add quotient half >>= λ shifted.
    arithmetic Mul (floor_of shifted) to

-- ---- signs

abbrev pub unit_of : Ordering → XFrac
unit_of Less = negated (whole_number 1)
unit_of Equal = whole_number 0
unit_of Greater = whole_number 1

-- -1 below 0, 0 at 0 and 1 above it; NaN of NaN
abbrev pub sign_number : XFrac → XFrac
sign_number v = if is_not_a_number v then NaN else unit_of (total_order v (whole_number 0))

-- ---- clamping

-- no less than `low`: `low` where v is below it, else v; NaN where either is
abbrev pub raised : XFrac → XFrac → XFrac
raised v low =
    if is_not_a_number v || is_not_a_number low then NaN else if compares Lt v low then low else v

-- no more than `high`: `high` where v is above it, else v; NaN where either is
abbrev pub lowered : XFrac → XFrac → XFrac
lowered v high =
    if is_not_a_number v || is_not_a_number high then NaN else if compares Gt v high then high else v

-- no row where `low` is above `high`, whatever v is; NaN where one of the three is; else `low` where v is below it, `high` where v is above it, or v
abbrev pub clamped : XFrac → XFrac → XFrac → Option XFrac
clamped v low high =
    if compares Gt low high then None
    else if is_not_a_number v || is_not_a_number low || is_not_a_number high then Some NaN
    else if compares Lt v low then Some low
    else if compares Gt v high then Some high
    else Some v

-- ---- the calendar

-- a part of the time so many seconds after the beginning of 1970-01-01
abbrev pub part_at : CalendarPart → ℤ → Option ℕ
part_at DayOfMonth = day_of_month_at
part_at DayOfWeek = day_of_week_at
part_at DayOfYear = day_of_year_at
part_at DaysInMonth = days_in_month_at
part_at Hour = hour_at
part_at Minute = minute_at
part_at Month = month_at
part_at Year = year_at

-- the whole seconds of a finite number, which is cut towards 0
abbrev pub whole_seconds : XFrac → Option ℤ
whole_seconds (Fin f) = Some (int_div f.0 (pos f.1))
whole_seconds _ = None

-- a part of the time that a number of seconds is
abbrev pub calendar_part : CalendarPart → XFrac → Result XFrac NumFault
calendar_part part v =
    ok_or (option_map whole_number (option_and_then (part_at part) (whole_seconds v))) OutOfCalendar

-- whether a number is no time in the years 1 to 9999
abbrev pub is_out_of_calendar : XFrac → Bool
is_out_of_calendar (Fin f) = not (is_in_calendar (int_div f.0 (pos f.1)))
is_out_of_calendar _ = true

-- ---- all element functions

-- a function's value, or that there is no row; `first` is what is rounded to or a bound, `second` the upper bound of a clamp
abbrev pub element_of : Element → XFrac → XFrac → XFrac → Result (Option XFrac) NumFault
element_of Abs v first second = Ok (Some (magnitude v))
element_of Ceil v first second = Ok (Some (ceiling_of v))
element_of Floor v first second = Ok (Some (floor_of v))
element_of Round v first second = rounded v first >>= λ value. Ok (Some value)
element_of Sgn v first second = Ok (Some (sign_number v))
element_of Neg v first second = Ok (Some (negated v))
element_of Clamp v first second = Ok (clamped v first second)
element_of ClampMin v first second = Ok (Some (raised v first))
element_of ClampMax v first second = Ok (Some (lowered v first))
element_of (Calendar part) v first second = calendar_part part v >>= λ value. Ok (Some value)

abbrev pub is_calendar : Element → Bool
is_calendar (Calendar part) = true
is_calendar _ = false

-- the faults that a function may have: rounding overflows, and a calendar function is outside the calendar
abbrev pub MayFail : Element → NumFault → Type 0
MayFail Round fault = fault ≡ Overflow
MayFail (Calendar part) fault = fault ≡ OutOfCalendar
MayFail f fault = ⊥

-- ---- what users rely on

-- a clamp whose bounds are in order is its two halves, one after the other
abbrev pub ClampIsBothHalves : Type 0
ClampIsBothHalves =
    (v low high : XFrac) → compares Gt low high ≡ false → clamped v low high ≡ Some (lowered (raised v low) high)

-- k times m, over the denominator of m
abbrev pub multiple : ℤ → ℤ × ℕ → ℤ × ℕ
multiple k m = (k *ℤ m.0, m.1)

-- r is a multiple of m; no multiple is nearer to v, and none that is as near is greater. (Distances are over the denominators of m and v.)
pub record IsNearestMultiple (v m r : ℤ × ℕ) : Type 0 where
  pub times : ℤ
  pub equal : r.0 *ℤ pos m.1 ≡ (times *ℤ m.0) *ℤ pos r.1
  pub nearest : (k : ℤ) → difference (multiple times m) v ≤ difference (multiple k m) v
  pub upper : (k : ℤ) → difference (multiple k m) v ≡ difference (multiple times m) v → k ≤ℤ times

-- what a fraction is rounded to is the nearest multiple of a positive one, the upper one of two, where no operation overflows
abbrev pub RoundingIsNearest : Type 0
RoundingIsNearest =
    (v m : ℤ × ℕ) (x : XFrac) → IsNumber (Fin v) → IsNumber (Fin m) → pos 0 <ℤ m.0 → rounded (Fin v) (Fin m) ≡ Ok x → (r : ℤ × ℕ) × (x ≡ Fin r) × IsNearestMultiple v m r
