-- Which answers are numbers: what users rely on of arithmetic, of sums and of whole numbers. (This project's own.)
use Rattle.std.specs.Prelude.{◌≡◌, ℕ, ◌<◌, ◌≤◌, ℤ, unsigned_abs, List, Some, IfOk, IfSome}
use Rattle.std.specs.List.{All}
use Rattle.xfrac.specs.Arithmetic.{arithmetic, mean_of}
use Rattle.xfrac.specs.Forming.{formed, negated, magnitude, floor_of, ceiling_of}
use Rattle.xfrac.specs.Fractions.{limit, lowest}
use Rattle.xfrac.specs.Laws.{IsNumber}
use Rattle.xfrac.specs.Sums.{denominator_of, sum_of, totals}
use Rattle.xfrac.specs.declared.value.ArithOp.{ArithOp}
use Rattle.xfrac.specs.declared.value.ArithOp.TheVariants.{Rem}
use Rattle.xfrac.specs.declared.value.XFrac.{XFrac}
use Rattle.xfrac.specs.declared.value.XFrac.TheVariants.{Fin}

-- a fraction's denominator is above 0; its terms may have common divisors and be above the limit
abbrev pub HasDenominator : XFrac → Type 0
HasDenominator v = 0 < denominator_of v

abbrev pub NumberHasDenominator : Type 0
NumberHasDenominator = (v : XFrac) → IsNumber v → HasDenominator v

-- ---- operators

-- what an operator answers of numbers is a number
abbrev pub ArithmeticIsNumber : Type 0
ArithmeticIsNumber = (op : ArithOp) (a b : XFrac) → IsNumber a → IsNumber b → IfOk (arithmetic op a b) IsNumber

-- each operator but the remainder, which may leave its dividend, forms its answer anew, so it is a number whatever the terms of both sides are
abbrev pub FormedIsNumber : Type 0
FormedIsNumber =
    (op : ArithOp) (a b : XFrac) → (op ≡ Rem → ⊥) → HasDenominator a → HasDenominator b → IfOk (arithmetic op a b) IsNumber

-- ---- lists

-- so are the sum and the mean of a list
abbrev pub SumIsNumber : Type 0
SumIsNumber = (xs : List XFrac) → All HasDenominator xs → IfSome (sum_of xs) IsNumber

abbrev pub MeanIsNumber : Type 0
MeanIsNumber = (xs : List XFrac) → All HasDenominator xs → IfSome (mean_of xs) IsNumber

-- the common denominator of a list is above 0
abbrev pub CommonDenominatorIsPositive : Type 0
CommonDenominatorIsPositive = (xs : List XFrac) → All HasDenominator xs → 0 < (totals xs).multiple

-- ---- one number

abbrev pub NegatedIsNumber : Type 0
NegatedIsNumber = (v : XFrac) → IsNumber v → IsNumber (negated v)

abbrev pub MagnitudeIsNumber : Type 0
MagnitudeIsNumber = (v : XFrac) → IsNumber v → IsNumber (magnitude v)

abbrev pub FloorIsNumber : Type 0
FloorIsNumber = (v : XFrac) → IsNumber v → IsNumber (floor_of v)

abbrev pub CeilingIsNumber : Type 0
CeilingIsNumber = (v : XFrac) → IsNumber v → IsNumber (ceiling_of v)

-- ---- terms within the limit

-- a fraction whose terms are within the limit is formed: its lowest terms are, too
abbrev pub FractionIsFormed : Type 0
FractionIsFormed = (n : ℤ) (d : ℕ) → 0 < d → unsigned_abs n ≤ limit → d ≤ limit → formed n d ≡ Some (Fin (lowest n d))

-- a whole number within the limit is a number, and is formed over 1 as it stands
abbrev pub WholeIsNumber : Type 0
WholeIsNumber = (n : ℤ) → unsigned_abs n ≤ limit → IsNumber (Fin (n, 1))

abbrev pub WholeIsFormed : Type 0
WholeIsFormed = (n : ℤ) → unsigned_abs n ≤ limit → formed n 1 ≡ Some (Fin (n, 1))
