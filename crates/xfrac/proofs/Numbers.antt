-- The answers of arithmetic, the sums and the roundings of numbers are numbers.
use Rattle.std.proofs.Common.{List, ◌≡◌, ℕ, zero, suc, ◌<◌, ◌≤◌, ◌*◌, ◌/◌, ◌%◌, ◌^◌, Bool, true, false, refl, sym, subst, arith, [], ◌∷◌, Some, None}
use Rattle.std.specs.Prelude.{ℤ, pos, negsuc, neg_ℤ, Option, Result, Ok, Err, IfOk, IfSome, ◌&&◌, ◌||◌, nat_le, length, unsigned_abs, if◌then◌else◌, ◌*ℤ◌, ◌-ℤ◌, int_rem, int_lt}
use Rattle.std.specs.Int.{int_div_euclid, int_pow}
use Rattle.std.specs.List.{All}
use Rattle.std.specs.Option.{ok_or, option_and_then}
use Rattle.std.specs.declared.cmp.Ordering.{Ordering}
use Rattle.std.specs.declared.cmp.Ordering.TheVariants.{Less, Equal, Greater}
use Rattle.std.proofs.lemmas.Bool.{false≢true, leb-true, le-leb, and_from, and_parts, cond-true}
use Rattle.std.proofs.lemmas.Int.{ints}
use Rattle.std.proofs.lemmas.List.Elements.{All-nil, All-cons}
use Rattle.std.proofs.Math.Nat.{div-le_self, mod-le}
use Rattle.xfrac.specs.Arithmetic.{arithmetic, mean_of, exact_power, finite_power, fraction_remainder, infinite_power, infinity_of, is_odd_whole, is_one, is_root, joint_sign, power, product, proper_power, quotient, reciprocal, remainder, sign_of, unit_order, whole_number}
use Rattle.xfrac.specs.Divisors.{lcm}
use Rattle.xfrac.specs.Forming.{formed, negated, floor_of}
use Rattle.xfrac.specs.Fractions.{IsReduced, is_within, limit, lowest}
use Rattle.xfrac.specs.Formed.{formed_within, reduced_whole, unsigned_abs-with_sign}
use Rattle.xfrac.specs.Gcds.{product_positive, positive_quotient, gcd-is}
use Rattle.xfrac.specs.Divisors.{gcd}
use Rattle.xfrac.specs.Kinds.{is_not_a_number, is_zero}
use Rattle.xfrac.specs.Laws.{IsNumber}
use Rattle.xfrac.specs.NumberLaws.{HasDenominator, NumberHasDenominator, ArithmeticIsNumber, FormedIsNumber, SumIsNumber, MeanIsNumber, CommonDenominatorIsPositive, NegatedIsNumber, MagnitudeIsNumber, FloorIsNumber, CeilingIsNumber, FractionIsFormed, WholeIsNumber, WholeIsFormed}
use Rattle.xfrac.specs.Reduced.{whole_is_reduced}
use Rattle.xfrac.specs.Sums.{Totals, fits, value_of, sum_of, totals}
use Rattle.xfrac.specs.declared.value.ArithOp.{ArithOp}
use Rattle.xfrac.specs.declared.value.ArithOp.TheVariants.{Add, Sub, Mul, Div, Rem, Pow}
use Rattle.xfrac.specs.declared.value.NumFault.{NumFault}
use Rattle.xfrac.specs.declared.value.NumFault.TheVariants.{Overflow, Irrational}
use Rattle.xfrac.specs.declared.value.XFrac.{XFrac}
use Rattle.xfrac.specs.declared.value.XFrac.TheVariants.{Fin, PosInf, NegInf, NaN}
use Rattle.xfrac.proofs.Exact.{lowest_number, magnitude_few, fit_parts}
use Rattle.xfrac.proofs.LawProofs.{lowest_reduced}
use Rattle.xfrac.proofs.Multiples.{lcm_positive, multiple_positive}
use Rattle.xfrac.proofs.Products.{power_positive}
use Rattle.xfrac.proofs.Totalling.{some_from_choice}

-- ---- whole numbers and what is formed of one number

pub number_has_denominator : NumberHasDenominator
number_has_denominator (Fin f) h = h.positive
number_has_denominator PosInf h = omega arith
number_has_denominator NegInf h = omega arith
number_has_denominator NaN h = omega arith

pub whole_number_is : WholeIsNumber
whole_number_is n few = whole_is_reduced (unsigned_abs n) few

pub whole_formed : WholeIsFormed
whole_formed (pos a) few = let both = reduced_whole a 1 refl in formed_within false a 1 a 1 both.0 both.1 few (omega arith)
whole_formed (negsuc a) few = let both = reduced_whole (suc a) 1 refl in formed_within true (suc a) 1 (suc a) 1 both.0 both.1 few (omega arith)

pub negated_number : NegatedIsNumber
negated_number (Fin f) h = turned f.0 h
  where
    turned : (n : ℤ) → IsReduced (unsigned_abs n) f.1 → IsReduced (unsigned_abs (neg_ℤ n)) f.1
    turned n h = let same : unsigned_abs (neg_ℤ n) ≡ unsigned_abs n = omega (arith, ints) in subst (λ m. IsReduced m f.1) (sym same) h
negated_number PosInf h = tt
negated_number NegInf h = tt
negated_number NaN h = tt

pub magnitude_number : MagnitudeIsNumber
magnitude_number (Fin f) h = h
magnitude_number PosInf h = tt
magnitude_number NegInf h = tt
magnitude_number NaN h = tt

floor_few : (n : ℤ) (d : ℕ) → 0 < d → unsigned_abs (int_div_euclid n (pos d)) ≤ unsigned_abs n
floor_few (pos a) d h = div-le_self a d
floor_few (negsuc a) d h = let e : a / d ≤ a = div-le_self a d in omega arith

pub floor_number : FloorIsNumber
floor_number (Fin f) h = whole_number_is (int_div_euclid f.0 (pos f.1)) (omega (arith, floor_few f.0 f.1 h.positive, h.numerator_within))
floor_number PosInf h = tt
floor_number NegInf h = tt
floor_number NaN h = tt

pub ceiling_number : CeilingIsNumber
ceiling_number v h = negated_number (floor_of (negated v)) (floor_number (negated v) (negated_number v h))

-- ---- what is formed

lowest_positive : (n : ℤ) (d : ℕ) → 0 < d → 0 < (lowest n d).1
unfolding lowest
lowest_positive n d p = positive_quotient d (gcd (unsigned_abs n) d) (gcd-is (unsigned_abs n) d p).1 p

within_parts : (f : ℤ × ℕ) → is_within f ≡ true → (unsigned_abs f.0 ≤ limit) × (f.1 ≤ limit)
unfolding is_within
within_parts f e = let b = and_parts (nat_le (unsigned_abs f.0) limit) (nat_le f.1 limit) e in (leb-true _ _ b.0, leb-true _ _ b.1)

formed_number : (n : ℤ) (d : ℕ) (v : XFrac) → 0 < d → formed n d ≡ Some v → IsNumber v
formed_number n d v p e =
    let c = some_from_choice (is_within (lowest n d)) v (Fin (lowest n d)) (sym e) in
    let w = within_parts (lowest n d) c.0 in
    subst IsNumber (sym c.1) (record { positive = lowest_positive n d p; numerator_within = w.0; denominator_within = w.1; lowest = lowest_reduced n d p })

pub fraction_formed : FractionIsFormed
unfolding is_within
fraction_formed n d some small few =
    let is : IsNumber (Fin (lowest n d)) = lowest_number n d some small few in
    cond-true _ _ _ (and_from _ _ (le-leb _ _ is.numerator_within) (le-leb _ _ is.denominator_within))

infinite_number : (o : Ordering) → IsNumber (infinity_of o)
infinite_number Less = tt
infinite_number Equal = tt
infinite_number Greater = tt

-- an answer that is told
told : (v w : XFrac) → IsNumber v → Some v ≡ Some w → IsNumber w
told v w h e = let same : v ≡ w = cc in subst IsNumber same h

small_number : (n : ℕ) → n ≤ 1 → IsNumber (whole_number n)
small_number n few = whole_is_reduced n (omega arith)

-- ---- products and quotients

product_number : (a b v : XFrac) → HasDenominator a → HasDenominator b → product a b ≡ Some v → IsNumber v
product_number (Fin a) (Fin b) v p q e = formed_number (a.0 *ℤ b.0) (a.1 * b.1) v (product_positive a.1 b.1 p q) e
product_number (Fin a) PosInf v p q e = told _ v (infinite_number (joint_sign (sign_of (Fin a)) (sign_of PosInf))) e
product_number (Fin a) NegInf v p q e = told _ v (infinite_number (joint_sign (sign_of (Fin a)) (sign_of NegInf))) e
product_number (Fin a) NaN v p q e = told _ v (infinite_number (joint_sign (sign_of (Fin a)) (sign_of NaN))) e
product_number PosInf b v p q e = told _ v (infinite_number (joint_sign (sign_of PosInf) (sign_of b))) e
product_number NegInf b v p q e = told _ v (infinite_number (joint_sign (sign_of NegInf) (sign_of b))) e
product_number NaN b v p q e = told _ v (infinite_number (joint_sign (sign_of NaN) (sign_of b))) e

turned_positive : (n : ℤ) (d : ℕ) → is_zero (Fin (n, d)) ≡ false → 0 < (reciprocal (n, d)).1
turned_positive (pos zero) d e = absurd (false≢true (sym e))
turned_positive (pos (suc n)) d e = omega arith
turned_positive (negsuc n) d e = omega arith

divided : (a : XFrac) (b : ℤ × ℕ) (v : XFrac) (z : Bool) → is_zero (Fin b) ≡ z → HasDenominator a → (if z then Some (infinity_of (sign_of a)) else product a (Fin (reciprocal b))) ≡ Some v → IsNumber v
divided a b v true h p e = told _ v (infinite_number (sign_of a)) e
divided a b v false h p e = product_number a (Fin (reciprocal b)) v p (turned_positive b.0 b.1 h) e

quotient_number : (a b v : XFrac) → HasDenominator a → HasDenominator b → quotient a b ≡ Some v → IsNumber v
quotient_number a (Fin b) v p q e = divided a b v (is_zero (Fin b)) refl p e
quotient_number (Fin a) PosInf v p q e = told _ v (small_number 0 (omega arith)) e
quotient_number (Fin a) NegInf v p q e = told _ v (small_number 0 (omega arith)) e
quotient_number (Fin a) NaN v p q e = told NaN v tt e
quotient_number PosInf PosInf v p q e = told NaN v tt e
quotient_number PosInf NegInf v p q e = told NaN v tt e
quotient_number PosInf NaN v p q e = told NaN v tt e
quotient_number NegInf PosInf v p q e = told NaN v tt e
quotient_number NegInf NegInf v p q e = told NaN v tt e
quotient_number NegInf NaN v p q e = told NaN v tt e
quotient_number NaN PosInf v p q e = told NaN v tt e
quotient_number NaN NegInf v p q e = told NaN v tt e
quotient_number NaN NaN v p q e = told NaN v tt e

-- ---- sums

value_number : (t : Totals) → 0 < t.multiple → fits t ≡ true → IsNumber (value_of t)
value_number t some fit =
    let both = fit_parts t fit in
    let few = magnitude_few t.above t.below in
    chosen (t.has_nan || (t.has_positive_infinity && t.has_negative_infinity)) t.has_positive_infinity t.has_negative_infinity _
    (lowest_number (pos t.above -ℤ pos t.below) t.multiple some (omega arith) both.0)
  where
    chosen : (n p m : Bool) (v : XFrac) → IsNumber v → IsNumber (if n then NaN else if p then PosInf else if m then NegInf else v)
    chosen true p m v h = tt
    chosen false true m v h = tt
    chosen false false true v h = tt
    chosen false false false v h = h

pub common_positive : CommonDenominatorIsPositive
unfolding totals
common_positive xs h = multiple_positive xs h

sum_number : (xs : List XFrac) (v : XFrac) → All HasDenominator xs → sum_of xs ≡ Some v → IsNumber v
sum_number xs v h e =
    let c = some_from_choice (fits (totals xs)) v (value_of (totals xs)) (sym e) in
    subst IsNumber (sym c.1) (value_number (totals xs) (common_positive xs h) c.0)

mean_number : (xs : List XFrac) (v : XFrac) → All HasDenominator xs → mean_of xs ≡ Some v → IsNumber v
mean_number xs v h e = by_sum (sum_of xs) refl e
  where
    by_sum : (s : Option XFrac) → sum_of xs ≡ s → option_and_then (λ s. quotient s (whole_number (length xs))) s ≡ Some v → IsNumber v
    by_sum (Some s) is e = quotient_number s (whole_number (length xs)) v (number_has_denominator s (sum_number xs s h is)) (omega arith) e
    by_sum None is e = absurd (cc)

-- ---- remainders

rest_few : (n k : ℤ) → unsigned_abs (int_rem n k) ≤ unsigned_abs n
rest_few (pos a) k = mod-le a (unsigned_abs k)
rest_few (negsuc a) k = subst (λ m. m ≤ suc a) (sym (unsigned_abs-with_sign true (suc a % unsigned_abs k))) (mod-le (suc a) (unsigned_abs k))

fraction_rest : (a b : ℤ × ℕ) (v : XFrac) → 0 < a.1 → 0 < b.1 → fraction_remainder a b ≡ Some v → IsNumber v
fraction_rest a b v p q e =
    let m = lcm a.1 b.1 in
    let n = a.0 *ℤ pos (m / a.1) in
    let k = b.0 *ℤ pos (m / b.1) in
    let c = some_from_choice (nat_le m limit && (nat_le (unsigned_abs n) limit && nat_le (unsigned_abs k) limit)) v (Fin (lowest (int_rem n k) m)) (sym e) in
    let w = and_parts (nat_le m limit) (nat_le (unsigned_abs n) limit && nat_le (unsigned_abs k) limit) c.0 in
    let u = and_parts (nat_le (unsigned_abs n) limit) (nat_le (unsigned_abs k) limit) w.1 in
    let few : unsigned_abs n ≤ limit = leb-true _ _ u.0 in
    let less = rest_few n k in
    subst IsNumber (sym c.1) (lowest_number (int_rem n k) m (lcm_positive a.1 b.1 p q) (omega arith) (leb-true _ _ w.0))

remainder_number : (a b v : XFrac) → IsNumber a → HasDenominator b → remainder a b ≡ Some v → IsNumber v
remainder_number (Fin a) (Fin b) v p q e = by_zero (is_zero (Fin b)) e
  where
    by_zero : (z : Bool) → (if z then Some NaN else fraction_remainder a b) ≡ Some v → IsNumber v
    by_zero true e = told NaN v tt e
    by_zero false e = fraction_rest a b v p.positive q e
remainder_number (Fin a) PosInf v p q e = told (Fin a) v p e
remainder_number (Fin a) NegInf v p q e = told (Fin a) v p e
remainder_number (Fin a) NaN v p q e = told NaN v tt e
remainder_number PosInf b v p q e = told NaN v tt e
remainder_number NegInf b v p q e = told NaN v tt e
remainder_number NaN b v p q e = told NaN v tt e

-- ---- powers

exact_number : (a : ℤ × ℕ) (k : ℤ) (v : XFrac) → 0 < a.1 → is_zero (Fin a) ≡ false → exact_power a k ≡ Some v → IsNumber v
exact_number a (pos k) v p h e = formed_number (int_pow a.0 k) (a.1 ^ k) v (power_positive a.1 k p) e
exact_number a (negsuc k) v p h e =
    formed_number (int_pow (reciprocal a).0 (suc k)) ((reciprocal a).1 ^ suc k) v (power_positive (reciprocal a).1 (suc k) (turned_positive a.0 a.1 h)) e

abbrev answer : Option XFrac → Result XFrac NumFault
answer o = ok_or o Overflow

abbrev found : XFrac → Result XFrac NumFault
found v = Ok v

kept : (v w : XFrac) → IsNumber v → found v ≡ Ok w → IsNumber w
kept v w h e = let same : v ≡ w = cc e in subst IsNumber same h

-- an answer that is a number where there is one
answered : (o : Option XFrac) (v : XFrac) → ((w : XFrac) → o ≡ Some w → IsNumber w) → answer o ≡ Ok v → IsNumber v
answered (Some w) v h e = kept w v (h w refl) e
answered None v h e = absurd (cc e)

choice_number : (b : Bool) (v w : XFrac) → IsNumber v → IsNumber w → IsNumber (if b then v else w)
choice_number true v w h k = h
choice_number false v w h k = k

finite_number : (a : XFrac) (b : ℤ × ℕ) (v : XFrac) → HasDenominator a → finite_power a b ≡ Ok v → IsNumber v
finite_number PosInf b v p e = kept _ v (choice_number (int_lt (pos 0) b.0) PosInf (whole_number 0) tt (small_number 0 (omega arith))) e
finite_number NegInf b v p e =
    kept _ v (choice_number (int_lt b.0 (pos 0)) (whole_number 0) _ (small_number 0 (omega arith)) (choice_number (is_odd_whole b) NegInf PosInf tt tt)) e
finite_number (Fin a) b v p e = by_zero (is_zero (Fin a)) refl e
  where
    by_zero : (z : Bool) → is_zero (Fin a) ≡ z → (if z then Ok (if int_lt (pos 0) b.0 then whole_number 0 else PosInf) else answer (exact_power a b.0)) ≡ Ok v → IsNumber v
    by_zero true h e = kept _ v (choice_number (int_lt (pos 0) b.0) (whole_number 0) PosInf (small_number 0 (omega arith)) tt) e
    by_zero false h e = answered (exact_power a b.0) v (λ w is. exact_number a b.0 w p h is) e
finite_number NaN b v p e = kept NaN v tt e

infinite_power_number : (o : Ordering) (b : XFrac) → IsNumber (infinite_power o b)
infinite_power_number Equal b = small_number 1 (omega arith)
infinite_power_number Greater NegInf = small_number 0 (omega arith)
infinite_power_number Greater (Fin f) = tt
infinite_power_number Greater PosInf = tt
infinite_power_number Greater NaN = tt
infinite_power_number Less NegInf = tt
infinite_power_number Less (Fin f) = small_number 0 (omega arith)
infinite_power_number Less PosInf = small_number 0 (omega arith)
infinite_power_number Less NaN = small_number 0 (omega arith)

proper_number : (a b v : XFrac) → HasDenominator a → proper_power a b ≡ Ok v → IsNumber v
proper_number a (Fin b) v p e = finite_number a b v p e
proper_number a PosInf v p e = kept _ v (infinite_power_number (unit_order a) PosInf) e
proper_number a NegInf v p e = kept _ v (infinite_power_number (unit_order a) NegInf) e
proper_number a NaN v p e = kept _ v (infinite_power_number (unit_order a) NaN) e

power_number : (a b v : XFrac) → HasDenominator a → power a b ≡ Ok v → IsNumber v
power_number a b v p e = by_case (is_zero b) (is_root a b) (is_one a) (is_not_a_number a || is_not_a_number b) e
  where
    by_case : (z r o n : Bool) → (if z then Ok (whole_number 1) else if r then Err Irrational else if o then Ok (whole_number 1) else if n then Ok NaN else proper_power a b) ≡ Ok v → IsNumber v
    by_case true r o n e = kept _ v (small_number 1 (omega arith)) e
    by_case false true o n e = absurd (cc e)
    by_case false false true n e = kept _ v (small_number 1 (omega arith)) e
    by_case false false false true e = kept NaN v tt e
    by_case false false false false e = proper_number a b v p e

-- ---- all operators

negated_denominator : (v : XFrac) → HasDenominator v → HasDenominator (negated v)
negated_denominator (Fin f) h = h
negated_denominator PosInf h = omega arith
negated_denominator NegInf h = omega arith
negated_denominator NaN h = omega arith

pair_number : (a b v : XFrac) → HasDenominator a → HasDenominator b → answer (sum_of (a ∷ b ∷ [])) ≡ Ok v → IsNumber v
pair_number a b v p q e =
    answered (sum_of (a ∷ b ∷ [])) v (λ w is. sum_number (a ∷ b ∷ []) w (All-cons HasDenominator a (b ∷ []) p (All-cons HasDenominator b [] q (All-nil HasDenominator))) is) e

anew : (op : ArithOp) (a b v : XFrac) → (op ≡ Rem → ⊥) → HasDenominator a → HasDenominator b → arithmetic op a b ≡ Ok v → IsNumber v
anew Add a b v other p q e = pair_number a b v p q e
anew Sub a b v other p q e = pair_number a (negated b) v p (negated_denominator b q) e
anew Mul a b v other p q e = answered (product a b) v (λ w is. product_number a b w p q is) e
anew Div a b v other p q e = answered (quotient a b) v (λ w is. quotient_number a b w p q is) e
anew Rem a b v other p q e = absurd (other refl)
anew Pow a b v other p q e = power_number a b v p e

any_operator : (op : ArithOp) (a b v : XFrac) → IsNumber a → IsNumber b → arithmetic op a b ≡ Ok v → IsNumber v
any_operator Rem a b v h k e = answered (remainder a b) v (λ w is. remainder_number a b w h (number_has_denominator b k) is) e
any_operator Add a b v h k e = anew Add a b v (λ is. cc is) (number_has_denominator a h) (number_has_denominator b k) e
any_operator Sub a b v h k e = anew Sub a b v (λ is. cc is) (number_has_denominator a h) (number_has_denominator b k) e
any_operator Mul a b v h k e = anew Mul a b v (λ is. cc is) (number_has_denominator a h) (number_has_denominator b k) e
any_operator Div a b v h k e = anew Div a b v (λ is. cc is) (number_has_denominator a h) (number_has_denominator b k) e
any_operator Pow a b v h k e = anew Pow a b v (λ is. cc is) (number_has_denominator a h) (number_has_denominator b k) e

-- ---- as laws say it

if_ok : (r : Result XFrac NumFault) → ((v : XFrac) → r ≡ Ok v → IsNumber v) → IfOk r IsNumber
if_ok (Ok v) h = h v refl
if_ok (Err f) h = tt

if_some : (o : Option XFrac) → ((v : XFrac) → o ≡ Some v → IsNumber v) → IfSome o IsNumber
if_some (Some v) h = h v refl
if_some None h = tt

pub formed_anew : FormedIsNumber
formed_anew op a b other p q = if_ok (arithmetic op a b) (λ v. anew op a b v other p q)

pub arithmetic_number : ArithmeticIsNumber
arithmetic_number op a b h k = if_ok (arithmetic op a b) (λ v. any_operator op a b v h k)

pub sum_is_number : SumIsNumber
sum_is_number xs h = if_some (sum_of xs) (λ v. sum_number xs v h)

pub mean_is_number : MeanIsNumber
mean_is_number xs h = if_some (mean_of xs) (λ v. mean_number xs v h)
