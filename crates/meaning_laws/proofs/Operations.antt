-- What comes of numbers and whole numbers by operators, element functions and texts of numbers.
use Rattle.std.proofs.Common.{◌≡◌, ◌∙◌, ℕ, suc, ◌<◌, ◌≤◌, ◌*◌, ◌/◌, ◌%◌, ◌^◌, ◌+◌, Bool, true, false, refl, sym, ap, subst, arith, List, Option, Some, None, Result, Ok, Err, inl, inr, drop, length}
use Rattle.std.specs.Prelude.{ℤ, pos, negsuc, ◌*ℤ◌, int_rem, unsigned_abs, IfOk, IfSome, ◌&&◌, ◌||◌, nat_le, if◌then◌else◌, codes, not, ◌==◌}
use Rattle.std.specs.Option.{ok_or, option_and_then, option_map}
use Rattle.std.specs.declared.cmp.Ordering.{Ordering}
use Rattle.std.specs.declared.cmp.Ordering.TheVariants.{Less, Equal, Greater}
use Rattle.std.proofs.lemmas.Bool.{and_parts, leb-true}
use Rattle.std.proofs.lemmas.Int.{ints}
use Rattle.std.proofs.Math.Nat.{mod-le, one-le-pow}
use Rattle.func_table.specs.declared.table.Element.{Element}
use Rattle.func_table.specs.declared.table.Element.TheVariants.{Abs, Ceil, Floor, Round, Sgn, Neg, Clamp, ClampMin, ClampMax, Calendar}
use Rattle.frac_text.specs.Decimals.{Decimal, decimal_of, has_leading_zero, scaled, value_of}
use Rattle.frac_text.specs.Readings.{decimal_answer, hexadecimal_answer, is_word, judged, literal_answer, plain_answer, turned}
use Rattle.frac_text.specs.Digits.{is_run_in, number_in}
use Rattle.frac_text.specs.Hexadecimals.{is_hexadecimal}
use Rattle.frac_text.specs.declared.digits.Base.TheVariants.{Sixteen}
use Rattle.frac_text.specs.declared.refusal.NumberRefusal.{NumberRefusal}
use Rattle.frac_text.specs.declared.refusal.NumberRefusal.TheVariants.{BadNumber}
use Rattle.step_table.specs.Operators.{operated, some_value}
use Rattle.value_fn.specs.Elements.{calendar_part, element_of, half, part_at, rounded, unit_of, whole_seconds}
use Rattle.window_fn.specs.NumberLaws.{IsNumberOrWhole}
use Rattle.window_fn.specs.Points.{in_seconds, milliseconds}
use Rattle.xfrac.specs.Arithmetic.{arithmetic, fraction_remainder, remainder, whole_number}
use Rattle.xfrac.specs.Divisors.{gcd, lcm}
use Rattle.xfrac.specs.Formed.{unsigned_abs-with_sign}
use Rattle.xfrac.specs.Forming.{floor_of, formed as formed_of, magnitude, negated}
use Rattle.xfrac.specs.Fractions.{limit, lowest}
use Rattle.xfrac.specs.Gcds.{gcd-is, positive_quotient, product_positive}
use Rattle.xfrac.specs.Kinds.{is_not_a_number, is_zero}
use Rattle.xfrac.specs.Laws.{IsNumber}
use Rattle.xfrac.specs.NumberLaws.{FormedIsNumber, FractionIsFormed, HasDenominator, NegatedIsNumber, NumberHasDenominator}
use Rattle.xfrac.specs.Order.{compares, total_order}
use Rattle.xfrac.specs.Sequencing.{◌>>=◌, then_holds}
use Rattle.xfrac.specs.declared.value.ArithOp.{ArithOp}
use Rattle.xfrac.specs.declared.value.ArithOp.TheVariants.{Add, Sub, Mul, Div, Rem, Pow}
use Rattle.xfrac.specs.declared.value.CompareOp.TheVariants.{Lt, Gt}
use Rattle.xfrac.specs.declared.value.NumFault.{NumFault}
use Rattle.xfrac.specs.declared.value.NumFault.TheVariants.{Overflow, OutOfCalendar}
use Rattle.xfrac.specs.declared.value.PairOp.{PairOp}
use Rattle.xfrac.specs.declared.value.PairOp.TheVariants.{Arith, Filter, Flag}
use Rattle.xfrac.specs.declared.value.XFrac.{XFrac}
use Rattle.xfrac.specs.declared.value.XFrac.TheVariants.{Fin, PosInf, NegInf, NaN}
use Rattle.promql_meaning.specs.Elements.{operated_with, seconds_of}

abbrev pub V : XFrac → Type 0
V = IsNumberOrWhole

-- a row's value, if there is one
abbrev pub IsAnswer : Result (Option XFrac) NumFault → Type 0
IsAnswer r = IfOk r (λ row. IfSome row V)

pub chosen : {A : Type 0} (P : A → Type 0) (b : Bool) (x y : A) → P x → P y → P (if b then x else y)
chosen P true x y h k = h
chosen P false x y h k = k

pub or_whole : (r : Result XFrac NumFault) → IfOk r IsNumber → IsAnswer (some_value r)
or_whole (Ok v) h = inl h
or_whole (Err f) h = tt

pub some_is : (r : Result XFrac NumFault) → IfOk r V → IsAnswer (some_value r)
some_is (Ok v) h = h
some_is (Err f) h = tt

as_value : (r : Result XFrac NumFault) → IfOk r IsNumber → IfOk r V
as_value (Ok v) h = inl h
as_value (Err f) h = tt

lcm_is : (a b : ℕ) → 0 < a → 0 < b → 0 < lcm a b
unfolding lcm
lcm_is a b p q = product_positive (a / gcd a b) b (positive_quotient a (gcd a b) (gcd-is a b q).0 p) q

ten_is : (n : ℕ) → 0 < 10 ^ n
ten_is n = one-le-pow n 10 (omega arith)

rest_few : (n k : ℤ) → unsigned_abs (int_rem n k) ≤ unsigned_abs n
rest_few (pos a) k = mod-le a (unsigned_abs k)
rest_few (negsuc a) k = subst (λ m. m ≤ suc a) (sym (unsigned_abs-with_sign true (suc a % unsigned_abs k))) (mod-le (suc a) (unsigned_abs k))

module _ (formed : FormedIsNumber) (has : NumberHasDenominator) (fraction : FractionIsFormed) (negated_is : NegatedIsNumber) where
  pub has_denominator : (v : XFrac) → V v → HasDenominator v
  has_denominator v (inl h) = has v h
  has_denominator (Fin f) (inr h) = omega (arith, h)
  has_denominator PosInf (inr h) = absurd h
  has_denominator NegInf (inr h) = absurd h
  has_denominator NaN (inr h) = absurd h

  pub anew : (op : ArithOp) (a b : XFrac) → (op ≡ Rem → ⊥) → HasDenominator a → HasDenominator b → IfOk (arithmetic op a b) IsNumber
  anew = formed

  -- ---- what is formed

  formed_number : (n : ℤ) (d : ℕ) → 0 < d → IfSome (formed_of n d) IsNumber
  formed_number n d h = out (formed_of n d) (subst (λ (o : Option XFrac). IfOk (ok_or o Overflow) IsNumber) same (formed Mul (Fin (n, 1)) (Fin (pos 1, d)) (λ is. cc is) (omega arith) h))
    where
      out : (o : Option XFrac) → IfOk (ok_or o Overflow) IsNumber → IfSome o IsNumber
      out (Some v) k = k
      out None k = tt

      same : formed_of (n *ℤ pos 1) (1 * d) ≡ formed_of n d
      same = ap (λ (m : ℤ). formed_of m (1 * d)) (let e : n *ℤ pos 1 ≡ n = omega (arith, ints) in e) ∙ ap (formed_of n) (let e : 1 * d ≡ d = omega arith in e)

  -- ---- remainders

  rest_number : (a b : ℤ × ℕ) → 0 < a.1 → 0 < b.1 → IfSome (fraction_remainder a b) IsNumber
  rest_number a b p q = by (nat_le m limit && (nat_le (unsigned_abs n) limit && nat_le (unsigned_abs k) limit)) refl
    where
      m : ℕ
      m = lcm a.1 b.1

      n : ℤ
      n = a.0 *ℤ pos (m / a.1)

      k : ℤ
      k = b.0 *ℤ pos (m / b.1)

      by : (w : Bool) → (nat_le m limit && (nat_le (unsigned_abs n) limit && nat_le (unsigned_abs k) limit)) ≡ w → IfSome (if w then Some (Fin (lowest (int_rem n k) m)) else None) IsNumber
      by false e = tt
      by true e =
          let w = and_parts (nat_le m limit) (nat_le (unsigned_abs n) limit && nat_le (unsigned_abs k) limit) e in
          let u = and_parts (nat_le (unsigned_abs n) limit) (nat_le (unsigned_abs k) limit) w.1 in
          let few : unsigned_abs n ≤ limit = leb-true _ _ u.0 in
          let less : unsigned_abs (int_rem n k) ≤ unsigned_abs n = rest_few n k in
          let small : m ≤ limit = leb-true _ _ w.0 in
          let some : 0 < m = lcm_is a.1 b.1 p q in
          subst (λ o. IfSome o IsNumber) (fraction (int_rem n k) m some (omega (arith, few, less)) small) (formed_number (int_rem n k) m some)

  or_overflow : (o : Option XFrac) → IfSome o V → IfOk (ok_or o Overflow) V
  or_overflow (Some v) h = h
  or_overflow None h = tt

  if_number : (o : Option XFrac) → IfSome o IsNumber → IfSome o V
  if_number (Some v) h = inl h
  if_number None h = tt

  remainder_is : (a b : XFrac) → V a → V b → IfSome (remainder a b) V
  remainder_is (Fin a) (Fin b) h k =
      chosen (λ o. IfSome o V) (is_zero (Fin b)) (Some NaN) (fraction_remainder a b) (inl tt)
      (if_number (fraction_remainder a b) (rest_number a b (has_denominator (Fin a) h) (has_denominator (Fin b) k)))
  remainder_is (Fin a) PosInf h k = h
  remainder_is (Fin a) NegInf h k = h
  remainder_is (Fin a) NaN h k = inl tt
  remainder_is PosInf b h k = inl tt
  remainder_is NegInf b h k = inl tt
  remainder_is NaN b h k = inl tt

  -- ---- operators

  pub arithmetic_is : (op : ArithOp) (a b : XFrac) → V a → V b → IfOk (arithmetic op a b) V
  arithmetic_is Add a b h k = as_value (arithmetic Add a b) (formed Add a b (λ is. cc is) (has_denominator a h) (has_denominator b k))
  arithmetic_is Sub a b h k = as_value (arithmetic Sub a b) (formed Sub a b (λ is. cc is) (has_denominator a h) (has_denominator b k))
  arithmetic_is Mul a b h k = as_value (arithmetic Mul a b) (formed Mul a b (λ is. cc is) (has_denominator a h) (has_denominator b k))
  arithmetic_is Div a b h k = as_value (arithmetic Div a b) (formed Div a b (λ is. cc is) (has_denominator a h) (has_denominator b k))
  arithmetic_is Rem a b h k = or_overflow (remainder a b) (remainder_is a b h k)
  arithmetic_is Pow a b h k = as_value (arithmetic Pow a b) (formed Pow a b (λ is. cc is) (has_denominator a h) (has_denominator b k))

  pub operated_is : (op : PairOp) (a b : XFrac) → V a → V b → IsAnswer (operated op a b)
  operated_is (Arith f) a b h k = some_is (arithmetic f a b) (arithmetic_is f a b h k)
  operated_is (Filter c) a b h k = chosen (λ o. IfSome o V) (compares c a b) (Some a) None h tt
  operated_is (Flag c) a b h k = inr refl

  pub operated_with_is : (op : PairOp) (left : Bool) (scalar value : XFrac) → V scalar → V value → IsAnswer (operated_with op left scalar value)
  operated_with_is (Filter c) true scalar value h k = chosen (λ o. IfSome o V) (compares c scalar value) (Some value) None k tt
  operated_with_is (Arith f) true scalar value h k = operated_is (Arith f) scalar value h k
  operated_with_is (Flag c) true scalar value h k = operated_is (Flag c) scalar value h k
  operated_with_is (Filter c) false scalar value h k = operated_is (Filter c) value scalar k h
  operated_with_is (Arith f) false scalar value h k = operated_is (Arith f) value scalar k h
  operated_with_is (Flag c) false scalar value h k = operated_is (Flag c) value scalar k h

  pub seconds_is : (t : ℤ) → IsAnswer (seconds_of t)
  seconds_is t = or_whole (in_seconds (milliseconds t)) (formed Div (milliseconds t) (whole_number 1000) (λ is. cc is) (omega arith) (omega arith))

  -- ---- element functions

  rounded_is : (v to : XFrac) → V v → V to → IfOk (rounded v to) V
  rounded_is v to h k =
      then_holds IsNumber V (arithmetic Div v to) (λ quotient. arithmetic Add quotient half >>= λ shifted. arithmetic Mul (floor_of shifted) to)
      (formed Div v to (λ is. cc is) (has_denominator v h) (has_denominator to k))
      (λ quotient q. then_holds IsNumber V (arithmetic Add quotient half) (λ shifted. arithmetic Mul (floor_of shifted) to)
      (formed Add quotient half (λ is. cc is) (has quotient q) (omega arith))
      (λ shifted s. as_value (arithmetic Mul (floor_of shifted) to) (formed Mul (floor_of shifted) to (λ is. cc is) (has_denominator (floor_of shifted) (floor_is shifted)) (has_denominator to k))))
    where
      floor_is : (x : XFrac) → V (floor_of x)
      floor_is (Fin f) = inr refl
      floor_is PosInf = inl tt
      floor_is NegInf = inl tt
      floor_is NaN = inl tt

  unit_is : (o : Ordering) → V (unit_of o)
  unit_is Less = inr refl
  unit_is Equal = inr refl
  unit_is Greater = inr refl

  part_is : (part : Option ℕ) → IfOk (ok_or (option_map whole_number part) OutOfCalendar) V
  part_is None = tt
  part_is (Some n) = inr refl

  magnitude_is : (v : XFrac) → V v → V (magnitude v)
  magnitude_is (Fin f) h = h
  magnitude_is PosInf h = inl tt
  magnitude_is NegInf h = inl tt
  magnitude_is NaN h = inl tt

  pub negated_value : (v : XFrac) → V v → V (negated v)
  negated_value v (inl h) = inl (negated_is v h)
  negated_value (Fin f) (inr h) = inr h
  negated_value PosInf (inr h) = absurd h
  negated_value NegInf (inr h) = absurd h
  negated_value NaN (inr h) = absurd h

  floored : (v : XFrac) → V (floor_of v)
  floored (Fin f) = inr refl
  floored PosInf = inl tt
  floored NegInf = inl tt
  floored NaN = inl tt

  ceiled : (v : XFrac) → V (negated (floor_of (negated v)))
  ceiled (Fin f) = inr refl
  ceiled PosInf = inl tt
  ceiled NegInf = inl tt
  ceiled NaN = inl tt

  pub element_is : (f : Element) (v first second : XFrac) → V v → V first → V second → IsAnswer (element_of f v first second)
  element_is Abs v first second h k l = magnitude_is v h
  element_is Ceil v first second h k l = ceiled v
  element_is Floor v first second h k l = floored v
  element_is Round v first second h k l = then_holds V (λ row. IfSome row V) (rounded v first) (λ value. Ok (Some value)) (rounded_is v first h k) (λ value n. n)
  element_is Sgn v first second h k l = chosen V (is_not_a_number v) NaN (unit_of (total_order v (whole_number 0))) (inl tt) (unit_is (total_order v (whole_number 0)))
  element_is Neg v first second h k l = negated_value v h
  element_is Clamp v first second h k l =
      let R : Option XFrac → Type 0 = λ o. IfSome o V in
      chosen R (compares Gt first second) None (if is_not_a_number v || is_not_a_number first || is_not_a_number second then Some NaN else if compares Lt v first then Some first else if compares Gt v second then Some second else Some v) tt
      (chosen R (is_not_a_number v || is_not_a_number first || is_not_a_number second) (Some NaN) (if compares Lt v first then Some first else if compares Gt v second then Some second else Some v) (inl tt)
      (chosen R (compares Lt v first) (Some first) (if compares Gt v second then Some second else Some v) k (chosen R (compares Gt v second) (Some second) (Some v) l h)))
  element_is ClampMin v first second h k l =
      chosen V (is_not_a_number v || is_not_a_number first) NaN (if compares Lt v first then first else v) (inl tt) (chosen V (compares Lt v first) first v k h)
  element_is ClampMax v first second h k l =
      chosen V (is_not_a_number v || is_not_a_number first) NaN (if compares Gt v first then first else v) (inl tt) (chosen V (compares Gt v first) first v k h)
  element_is (Calendar part) v first second h k l =
      then_holds V (λ row. IfSome row V) (calendar_part part v) (λ value. Ok (Some value)) (part_is (option_and_then (part_at part) (whole_seconds v))) (λ value n. n)

  -- ---- texts of numbers

  scaled_is : (n places : ℕ) (negative : Bool) (size : ℕ) → IfSome (scaled n places negative size) IsNumber
  scaled_is n places true size = formed_number (pos n) (10 ^ (places + size)) (ten_is (places + size))
  scaled_is n places false size = formed_number (pos (n * 10 ^ size)) (10 ^ places) (ten_is places)

  judged_is : (leading : Bool) (o : Option XFrac) → IfSome o IsNumber → IfOk (judged leading o) IsNumber
  judged_is leading None h = tt
  judged_is true (Some v) h = tt
  judged_is false (Some v) h = h

  decimal_is : (leading : Bool) (o : Option Decimal) → IfOk (decimal_answer leading o) IsNumber
  decimal_is leading None = tt
  decimal_is leading (Some d) = judged_is leading (value_of d) (scaled_is _ d.places d.exponent.negative d.exponent.size)

  abbrev N : Result XFrac NumberRefusal → Type 0
  N r = IfOk r IsNumber

  hexadecimal_is : (digits : List ℕ) → N (hexadecimal_answer digits)
  hexadecimal_is digits =
      chosen N (not (length digits == 0) && is_run_in Sixteen true digits) (judged false (formed_of (pos (number_in Sixteen digits)) 1)) (Err BadNumber)
      (judged_is false (formed_of (pos (number_in Sixteen digits)) 1) (formed_number (pos (number_in Sixteen digits)) 1 (omega arith))) tt

  plain_is : (grouped : Bool) (text : List ℕ) → N (plain_answer grouped text)
  plain_is grouped text =
      let read : Result XFrac NumberRefusal = decimal_answer (has_leading_zero grouped text) (decimal_of grouped text) in
      chosen N (is_word text (codes "inf")) (Ok PosInf) (if is_word text (codes "nan") then Ok NaN else read) tt
      (chosen N (is_word text (codes "nan")) (Ok NaN) read tt (decimal_is (has_leading_zero grouped text) (decimal_of grouped text)))

  pub literal_is : (text : List ℕ) → N (literal_answer text)
  literal_is text = chosen N (is_hexadecimal text) (hexadecimal_answer (drop 2 text)) (plain_answer true text) (hexadecimal_is (drop 2 text)) (plain_is true text)

  pub turned_is : (r : Result XFrac NumberRefusal) → IfOk r IsNumber → IfOk (turned r) IsNumber
  turned_is (Ok v) h = negated_is v h
  turned_is (Err e) h = tt
