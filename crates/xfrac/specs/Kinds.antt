-- Which numbers are 0, the infinities and NaN. (This project's own.)
use Rattle.std.specs.Prelude.{zero, pos, Bool, true, false}
use Rattle.xfrac.specs.declared.value.XFrac.{XFrac}
use Rattle.xfrac.specs.declared.value.XFrac.TheVariants.{Fin, PosInf, NegInf, NaN}

abbrev pub is_not_a_number : XFrac → Bool
is_not_a_number NaN = true
is_not_a_number _ = false

abbrev pub is_positive_infinity : XFrac → Bool
is_positive_infinity PosInf = true
is_positive_infinity _ = false

abbrev pub is_negative_infinity : XFrac → Bool
is_negative_infinity NegInf = true
is_negative_infinity _ = false

abbrev pub is_zero : XFrac → Bool
is_zero (Fin (pos zero, d)) = true
is_zero _ = false
