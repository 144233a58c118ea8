-- The arithmetic operators. (Prometheus' operators, on exact numbers: what is formed, and where it overflows, is this project's own.)
use Rattle.std.specs.Prelude.{ℕ, suc, ◌*◌, ◌/◌, ◌%◌, ◌^◌, ◌==◌, ℤ, pos, negsuc, neg_ℤ, ◌*ℤ◌, int_rem, int_lt, unsigned_abs, nat_le, Bool, false, ◌&&◌, ◌||◌, not, List, [], ◌∷◌, length, Option, Some, None, Result, Ok, Err, if◌then◌else◌}
use Rattle.std.specs.declared.cmp.Ordering.{Ordering}
use Rattle.std.specs.declared.cmp.Ordering.TheVariants.{Less, Equal, Greater}
use Rattle.std.specs.Ordering.{int_cmp, nat_cmp, ordering_reverse}
use Rattle.std.specs.Option.{ok_or, option_and_then}
use Rattle.std.specs.Int.{int_pow}
use Rattle.xfrac.specs.Divisors.{lcm}
use Rattle.xfrac.specs.Fractions.{limit, lowest}
use Rattle.xfrac.specs.Forming.{formed, negated}
use Rattle.xfrac.specs.Kinds.{is_not_a_number, is_zero}
use Rattle.xfrac.specs.Sums.{sum_of}
use Rattle.xfrac.specs.declared.value.XFrac.{XFrac}
use Rattle.xfrac.specs.declared.value.XFrac.TheVariants.{Fin, PosInf, NegInf, NaN}
use Rattle.xfrac.specs.declared.value.NumFault.{NumFault}
use Rattle.xfrac.specs.declared.value.NumFault.TheVariants.{Overflow, Irrational}
use Rattle.xfrac.specs.declared.value.ArithOp.{ArithOp}
use Rattle.xfrac.specs.declared.value.ArithOp.TheVariants.{Add, Sub, Mul, Div, Rem, Pow}

abbrev pub whole_number : ℕ → XFrac
whole_number n = Fin (pos n, 1)

-- ---- signs

-- how a number stands to 0; NaN has no sign, like 0
abbrev pub sign_of : XFrac → Ordering
sign_of (Fin f) = int_cmp f.0 (pos 0)
sign_of PosInf = Greater
sign_of NegInf = Less
sign_of NaN = Equal

-- the sign of a product
abbrev pub joint_sign : Ordering → Ordering → Ordering
joint_sign Equal t = Equal
joint_sign Greater t = t
joint_sign Less t = ordering_reverse t

-- the infinity of a sign, NaN where there is none
abbrev pub infinity_of : Ordering → XFrac
infinity_of Greater = PosInf
infinity_of Less = NegInf
infinity_of Equal = NaN

-- ---- product and quotient

-- fractions are multiplied; else it is the infinity of the joint sign, NaN where a side is 0 or NaN
abbrev pub product : XFrac → XFrac → Option XFrac
product (Fin a) (Fin b) = formed (a.0 *ℤ b.0) (a.1 * b.1)
product a b = Some (infinity_of (joint_sign (sign_of a) (sign_of b)))

-- 1/f, of a fraction that isn't 0
abbrev pub reciprocal : ℤ × ℕ → ℤ × ℕ
reciprocal (pos n, d) = (pos d, n)
reciprocal (negsuc n, d) = (neg_ℤ (pos d), suc n)

-- by 0 it is the infinity of the dividend's sign, by an infinity 0 or, of what isn't finite, NaN
abbrev pub quotient : XFrac → XFrac → Option XFrac
quotient a (Fin b) =
    if is_zero (Fin b) then Some (infinity_of (sign_of a)) else product a (Fin (reciprocal b))
quotient (Fin a) PosInf = Some (whole_number 0)
quotient (Fin a) NegInf = Some (whole_number 0)
quotient a b = Some NaN

-- ---- remainder

-- the truncated remainder, with the sign of a, over the least common denominator
abbrev pub fraction_remainder : ℤ × ℕ → ℤ × ℕ → Option XFrac
fraction_remainder a b =
    let m = lcm a.1 b.1 in
    let n = a.0 *ℤ pos (m / a.1) in
    let k = b.0 *ℤ pos (m / b.1) in
    if nat_le m limit && (nat_le (unsigned_abs n) limit && nat_le (unsigned_abs k) limit) then
    Some (Fin (lowest (int_rem n k) m))
    else None

-- of what isn't finite, by 0 and with NaN it is NaN; by an infinity the dividend is left
abbrev pub remainder : XFrac → XFrac → Option XFrac
remainder (Fin a) (Fin b) = if is_zero (Fin b) then Some NaN else fraction_remainder a b
remainder (Fin a) PosInf = Some (Fin a)
remainder (Fin a) NegInf = Some (Fin a)
remainder a b = Some NaN

-- ---- power

-- a fraction that isn't 0 to a whole power
abbrev pub exact_power : ℤ × ℕ → ℤ → Option XFrac
exact_power a (pos k) = formed (int_pow a.0 k) (a.1 ^ k)
exact_power a (negsuc k) = formed (int_pow (reciprocal a).0 (suc k)) ((reciprocal a).1 ^ suc k)

abbrev pub is_odd_whole : ℤ × ℕ → Bool
is_odd_whole b = b.1 == 1 && unsigned_abs b.0 % 2 == 1

-- to an exponent that is finite and not 0, and whole where the base is finite
abbrev pub finite_power : XFrac → ℤ × ℕ → Result XFrac NumFault
finite_power PosInf b = Ok (if int_lt (pos 0) b.0 then PosInf else whole_number 0)
finite_power NegInf b =
    Ok (if int_lt b.0 (pos 0) then whole_number 0 else if is_odd_whole b then NegInf else PosInf)
finite_power (Fin a) b =
    if is_zero (Fin a) then Ok (if int_lt (pos 0) b.0 then whole_number 0 else PosInf)
    else ok_or (exact_power a b.0) Overflow
finite_power NaN b = Ok NaN

-- how a number's magnitude stands to 1
abbrev pub unit_order : XFrac → Ordering
unit_order (Fin a) = nat_cmp (unsigned_abs a.0) a.1
unit_order _ = Greater

-- to an infinite exponent, by how the base's magnitude stands to 1
abbrev pub infinite_power : Ordering → XFrac → XFrac
infinite_power Equal b = whole_number 1
infinite_power Greater NegInf = whole_number 0
infinite_power Greater b = PosInf
infinite_power Less NegInf = PosInf
infinite_power Less b = whole_number 0

abbrev pub is_one : XFrac → Bool
is_one (Fin (pos n, d)) = n == d
is_one _ = false

-- an exponent that isn't whole over a base that is finite
abbrev pub is_root : XFrac → XFrac → Bool
is_root (Fin a) (Fin b) = not (b.1 == 1)
is_root _ _ = false

abbrev pub proper_power : XFrac → XFrac → Result XFrac NumFault
proper_power a (Fin b) = finite_power a b
proper_power a b = Ok (infinite_power (unit_order a) b)

-- the first case that fits
abbrev pub power : XFrac → XFrac → Result XFrac NumFault
power a b =
    if is_zero b then Ok (whole_number 1)
    else if is_root a b then Err Irrational
    else if is_one a then Ok (whole_number 1)
    else if is_not_a_number a || is_not_a_number b then Ok NaN
    else proper_power a b

-- ---- all operators

abbrev pub arithmetic : ArithOp → XFrac → XFrac → Result XFrac NumFault
arithmetic Add a b = ok_or (sum_of (a ∷ b ∷ [])) Overflow
arithmetic Sub a b = ok_or (sum_of (a ∷ negated b ∷ [])) Overflow
arithmetic Mul a b = ok_or (product a b) Overflow
arithmetic Div a b = ok_or (quotient a b) Overflow
arithmetic Rem a b = ok_or (remainder a b) Overflow
arithmetic Pow a b = power a b

-- the sum of a list divided by how many numbers it has
abbrev pub mean_of : List XFrac → Option XFrac
mean_of xs = option_and_then (λ s. quotient s (whole_number (length xs))) (sum_of xs)
