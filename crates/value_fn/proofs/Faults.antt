-- When an element function has no value.
use Rattle.std.proofs.Common.{◌↔◌, ap, ◌≡◌, refl, ◌||◌, cond, Bool, true, false, IsTrue, Option, Some, None, Result, Ok, Err, IfErr}
use Rattle.std.specs.Prelude.{ℕ, ℤ, pos, int_div, not, is_some}
use Rattle.std.specs.Option.{ok_or, option_and_then, option_map}
use Rattle.calendar_fn.specs.Parts.{is_in_calendar}
use Rattle.func_table.specs.declared.table.CalendarPart.{CalendarPart}
use Rattle.func_table.specs.declared.table.CalendarPart.TheVariants.{DayOfMonth, DayOfWeek, DayOfYear, DaysInMonth, Hour, Minute, Month, Year}
use Rattle.func_table.specs.declared.table.Element.{Element}
use Rattle.func_table.specs.declared.table.Element.TheVariants.{Abs, Ceil, Floor, Round, Sgn, Neg, Clamp, ClampMin, ClampMax, Calendar}
use Rattle.xfrac.specs.Arithmetic.{arithmetic, whole_number}
use Rattle.xfrac.specs.Forming.{floor_of}
use Rattle.xfrac.specs.Kinds.{is_not_a_number}
use Rattle.xfrac.specs.Order.{compares}
use Rattle.xfrac.specs.declared.value.ArithOp.TheVariants.{Add, Mul, Div}
use Rattle.xfrac.specs.declared.value.CompareOp.TheVariants.{Lt, Gt}
use Rattle.xfrac.specs.declared.value.NumFault.{NumFault}
use Rattle.xfrac.specs.declared.value.NumFault.TheVariants.{Overflow, OutOfCalendar}
use Rattle.xfrac.specs.declared.value.XFrac.{XFrac}
use Rattle.xfrac.specs.declared.value.XFrac.TheVariants.{Fin, PosInf, NegInf, NaN}
use Rattle.xfrac.specs.Sequencing.{◌>>=◌}
use Rattle.value_fn.specs.Elements.{half, rounded, clamped, part_at, whole_seconds, calendar_part, is_out_of_calendar, element_of, is_calendar, MayFail}

-- what holds of the faults of a number and of what comes of it holds of the faults of both
both : {T : Type 0} (P : NumFault → Type 0) (r : Result XFrac NumFault) (next : XFrac → Result T NumFault) → IfErr r P → ((x : XFrac) → IfErr (next x) P) → IfErr (r >>= next) P
both P (Ok x) next here later = later x
both P (Err e) next here later = here

fault_alone : (P : NumFault → Type 0) (fault : NumFault) → P fault → (o : Option XFrac) → IfErr (ok_or o fault) P
fault_alone P fault here None = here
fault_alone P fault here (Some x) = tt

-- rounding has no fault but Overflow
rounding : (P : NumFault → Type 0) → P Overflow → (v to : XFrac) → IfErr (rounded v to) P
rounding P here v to =
    both P (arithmetic Div v to) (λ quotient. arithmetic Add quotient half >>= λ shifted. arithmetic Mul (floor_of shifted) to)
    (fault_alone P Overflow here _)
    (λ quotient. both P (arithmetic Add quotient half) (λ shifted. arithmetic Mul (floor_of shifted) to) (fault_alone P Overflow here _) (λ shifted. fault_alone P Overflow here _))

pub fault_is_known : (f : Element) (v first second : XFrac) → IfErr (element_of f v first second) (MayFail f)
fault_is_known Round v first second =
    both (MayFail Round) (rounded v first) (λ value. Ok (Some value)) (rounding (MayFail Round) refl v first) (λ value. tt)
fault_is_known (Calendar part) v first second =
    both (MayFail (Calendar part)) (calendar_part part v) (λ value. Ok (Some value)) (fault_alone (MayFail (Calendar part)) OutOfCalendar refl _) (λ value. tt)
fault_is_known Abs v first second = tt
fault_is_known Ceil v first second = tt
fault_is_known Floor v first second = tt
fault_is_known Sgn v first second = tt
fault_is_known Neg v first second = tt
fault_is_known Clamp v first second = tt
fault_is_known ClampMin v first second = tt
fault_is_known ClampMax v first second = tt

-- ---- outside the calendar

there : (b : Bool) (n : ℕ) → is_some (cond b (Some n) None) ≡ b
there true n = refl
there false n = refl

-- a part is there exactly in the calendar
part_there : (part : CalendarPart) (z : ℤ) → is_some (part_at part z) ≡ is_in_calendar z
part_there DayOfMonth z = there (is_in_calendar z) _
part_there DayOfWeek z = there (is_in_calendar z) _
part_there DayOfYear z = there (is_in_calendar z) _
part_there DaysInMonth z = there (is_in_calendar z) _
part_there Hour z = there (is_in_calendar z) _
part_there Minute z = there (is_in_calendar z) _
part_there Month z = there (is_in_calendar z) _
part_there Year z = there (is_in_calendar z) _

-- where no part is there, the answer is the fault, and it is there alone
abbrev answer : Option ℕ → Result (Option XFrac) NumFault
answer o = ok_or (option_map whole_number o) OutOfCalendar >>= λ value. Ok (Some value)

absent_exactly : (o : Option ℕ) (b : Bool) → is_some o ≡ b → (answer o ≡ Err OutOfCalendar) ↔ IsTrue (not b)
absent_exactly None true e = absurd (cc)
absent_exactly None false e = (λ is. refl, λ is. refl)
absent_exactly (Some n) true e = (λ is. absurd (cc is), λ is. absurd (cc is))
absent_exactly (Some n) false e = absurd (cc)

calendar_outside : (part : CalendarPart) (v : XFrac) → (answer (option_and_then (part_at part) (whole_seconds v)) ≡ Err OutOfCalendar) ↔ IsTrue (is_out_of_calendar v)
calendar_outside part (Fin f) = absent_exactly (part_at part (int_div f.0 (pos f.1))) (is_in_calendar (int_div f.0 (pos f.1))) (part_there part (int_div f.0 (pos f.1)))
calendar_outside part PosInf = (λ is. refl, λ is. refl)
calendar_outside part NegInf = (λ is. refl, λ is. refl)
calendar_outside part NaN = (λ is. refl, λ is. refl)

round_is_inside : (r : Result (Option XFrac) NumFault) → IfErr r (MayFail Round) → r ≡ Err OutOfCalendar → ⊥
round_is_inside (Ok x) h e = cc
round_is_inside (Err fault) h e = cc

abbrev IsOutside : Element → XFrac → Type 0
IsOutside f v = IsTrue (is_calendar f) × IsTrue (is_out_of_calendar v)

fails : (f : Element) (v first second : XFrac) → element_of f v first second ≡ Err OutOfCalendar → IsOutside f v
fails (Calendar part) v first second e = (refl, (calendar_outside part v).0 e)
fails Round v first second e = absurd (round_is_inside (element_of Round v first second) (fault_is_known Round v first second) e)
fails Abs v first second e = absurd (cc)
fails Ceil v first second e = absurd (cc)
fails Floor v first second e = absurd (cc)
fails Sgn v first second e = absurd (cc)
fails Neg v first second e = absurd (cc)
fails Clamp v first second e = absurd (cc)
fails ClampMin v first second e = absurd (cc)
fails ClampMax v first second e = absurd (cc)

failed : (f : Element) (v first second : XFrac) → IsOutside f v → element_of f v first second ≡ Err OutOfCalendar
failed (Calendar part) v first second h = (calendar_outside part v).1 h.1
failed Round v first second h = absurd (cc h.0)
failed Abs v first second h = absurd (cc h.0)
failed Ceil v first second h = absurd (cc h.0)
failed Floor v first second h = absurd (cc h.0)
failed Sgn v first second h = absurd (cc h.0)
failed Neg v first second h = absurd (cc h.0)
failed Clamp v first second h = absurd (cc h.0)
failed ClampMin v first second h = absurd (cc h.0)
failed ClampMax v first second h = absurd (cc h.0)

pub outside_exactly : (f : Element) (v first second : XFrac) → (element_of f v first second ≡ Err OutOfCalendar) ↔ IsOutside f v
outside_exactly f v first second = (fails f v first second, failed f v first second)

-- a number that is there, or a fault, is a row
some_row : (r : Result XFrac NumFault) → (r >>= λ value. Ok (Some value)) ≡ Ok None → ⊥
some_row (Ok x) e = cc
some_row (Err fault) e = cc

-- of four tests the first alone leaves no row
first_test : {A : Type 0} (b c d e : Bool) (x y z w : A) → cond b None (cond c (Some x) (cond d (Some y) (cond e (Some z) (Some w)))) ≡ None → IsTrue b
first_test true c d e x y z w is = refl
first_test false true d e x y z w is = absurd (cc)
first_test false false true e x y z w is = absurd (cc)
first_test false false false true x y z w is = absurd (cc)
first_test false false false false x y z w is = absurd (cc)

-- a result that is a row, or none
abbrev is_row : Option XFrac → Result (Option XFrac) NumFault
is_row o = Ok o

inner : (o : Option XFrac) → is_row o ≡ Ok None → o ≡ None
inner o e = cc

no_row_of_clamp : (f : Element) (v first second : XFrac) → element_of f v first second ≡ Ok None → (f ≡ Clamp) × IsTrue (compares Gt first second)
no_row_of_clamp Round v first second e = absurd (some_row (rounded v first) e)
no_row_of_clamp Clamp v first second e =
    (refl, first_test (compares Gt first second) (is_not_a_number v || is_not_a_number first || is_not_a_number second) (compares Lt v first) (compares Gt v second) NaN first second v (inner (clamped v first second) e))
no_row_of_clamp Abs v first second e = absurd (cc)
no_row_of_clamp Ceil v first second e = absurd (cc)
no_row_of_clamp Floor v first second e = absurd (cc)
no_row_of_clamp Sgn v first second e = absurd (cc)
no_row_of_clamp Neg v first second e = absurd (cc)
no_row_of_clamp ClampMin v first second e = absurd (cc)
no_row_of_clamp ClampMax v first second e = absurd (cc)
no_row_of_clamp (Calendar part) v first second e = absurd (some_row (calendar_part part v) e)

-- the first of the tests leaves no row
leaves_none : {A : Type 0} (b : Bool) (o : Option A) → IsTrue b → cond b None o ≡ None
leaves_none true o is = refl
leaves_none false o is = absurd (cc)

back : (f : Element) (v first second : XFrac) → (f ≡ Clamp) × IsTrue (compares Gt first second) → element_of f v first second ≡ Ok None
back Clamp v first second h = ap is_row (leaves_none (compares Gt first second) _ h.1)
back Round v first second h = let e : Round ≡ Clamp = h.0 in absurd (cc)
back Abs v first second h = let e : Abs ≡ Clamp = h.0 in absurd (cc)
back Ceil v first second h = let e : Ceil ≡ Clamp = h.0 in absurd (cc)
back Floor v first second h = let e : Floor ≡ Clamp = h.0 in absurd (cc)
back Sgn v first second h = let e : Sgn ≡ Clamp = h.0 in absurd (cc)
back Neg v first second h = let e : Neg ≡ Clamp = h.0 in absurd (cc)
back ClampMin v first second h = let e : ClampMin ≡ Clamp = h.0 in absurd (cc)
back ClampMax v first second h = let e : ClampMax ≡ Clamp = h.0 in absurd (cc)
back (Calendar part) v first second h = let e : Calendar part ≡ Clamp = h.0 in absurd (cc)

pub no_row_exactly : (f : Element) (v first second : XFrac) → (element_of f v first second ≡ Ok None) ↔ ((f ≡ Clamp) × IsTrue (compares Gt first second))
no_row_exactly f v first second = (no_row_of_clamp f v first second, back f v first second)
