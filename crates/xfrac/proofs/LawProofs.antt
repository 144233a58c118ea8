-- The laws.
use Rattle.std.proofs.Common.{◌≡◌, ℕ, ◌+◌, ◌*◌, ◌/◌, ◌<◌, ◌≤◌, zero, suc, refl, sym, subst, ap, ◌∙◌, arith, true, false, ◌==◌, ◌||◌, List, ◌++◌, None, inl, inr, nat_lt, Some}
use Rattle.std.specs.Prelude.{ℤ, pos, negsuc, neg_ℤ, ◌-ℤ◌, ◌*ℤ◌, int_lt, unsigned_abs, if◌then◌else◌, sum_by}
use Rattle.std.specs.Int.{IsGcd}
use Rattle.std.specs.List.{All}
use Rattle.std.specs.List.Sorted.{IsPermutation}
use Rattle.std.specs.declared.cmp.Ordering.TheVariants.{Less, Equal}
use Rattle.std.specs.Ordering.{int_cmp}
use Rattle.std.proofs.lemmas.Int.{ints}
use Rattle.std.proofs.lemmas.Bool.{cond-true, cond-false, ltb-true, lt-ltb, leb-false, lt-leb, and_cases, and_left, and_right, false≢true}
use Rattle.xfrac.proofs.Totalling.{none_from_choice}
use Rattle.std.proofs.lemmas.List.Elements.{All-weaker}
use Rattle.std.proofs.lemmas.List.Sorted.{sum_by-IsPermutation, list_any-IsPermutation, length_permutation}
use Rattle.std.proofs.Math.Nat.{div-mul_cancel, le_of_dvd, lt_of_mul-lt-mul_right, mul-lt-mul_of_pos_right, le-mul_of_pos_right}
use Rattle.xfrac.specs.AnySize.{AnySumIgnoresOrder, AnyTotalsNeverFall, AnyPartOverflowsWhole, AreLowest, EqualLowestIsSame, LessOfAnyIsTransitive, LowestHasDenominator, NumberIsLowest, WholeIsLowest}
use Rattle.xfrac.specs.Divisors.{gcd, lcm}
use Rattle.xfrac.specs.Fractions.{limit, lowest}
use Rattle.xfrac.specs.Near.{is_near, difference, joint_magnitude}
use Rattle.xfrac.specs.Order.{total_order}
use Rattle.xfrac.specs.Kinds.{is_not_a_number, is_positive_infinity, is_negative_infinity}
use Rattle.xfrac.specs.Sums.{Totals, totals, joined, fits, value_of, sum_of, multiple_of, above_over, below_over}
use Rattle.xfrac.specs.Laws.{IsNumber}
use Rattle.xfrac.specs.Reduced.{IsGcd-one}
use Rattle.xfrac.specs.declared.value.XFrac.{XFrac}
use Rattle.xfrac.specs.declared.value.XFrac.TheVariants.{Fin, PosInf, NegInf, NaN}
use Rattle.xfrac.specs.Gcds.{product_positive, gcd-is, gcd_positive, reduced_apart, lowest_unique}
use Rattle.xfrac.specs.Formed.{unsigned_abs-with_sign}
use Rattle.xfrac.proofs.Products.{with_sign-times_pos, quotient_positive}
use Rattle.xfrac.proofs.Multiples.{HasPositive, multiple_positive, multiple-permutation, lcm_positive, dvd-lcm_left}
use Rattle.xfrac.proofs.Totalling.{totals-append, same_totals}

-- ---- lowest terms

pub cross_same : (a b g : ℕ) → IsGcd a b g → a / g * b ≡ a * (b / g)
cross_same a b g h =
    let l : a / g * g ≡ a = div-mul_cancel g h.0 in
    let r : b / g * g ≡ b = div-mul_cancel g h.1 in
    turned (a / g) (b / g) a b g l r
  where
    turned : (x y a b g : ℕ) → x * g ≡ a → y * g ≡ b → x * b ≡ a * y
    turned x y a b g l r =
        let m : x * (y * g) ≡ (x * g) * y = omega arith in
        ap (λ z. x * z) (sym r) ∙ m ∙ ap (λ z. z * y) l

pub lowest_equal : (n : ℤ) (d : ℕ) → 0 < d → (lowest n d).0 *ℤ pos d ≡ n *ℤ pos (lowest n d).1
unfolding lowest
lowest_equal (pos a) d h = ap pos (cross_same a d (gcd a d) (gcd-is a d h))
lowest_equal (negsuc a) d h =
    with_sign-times_pos true (suc a / gcd (suc a) d) d ∙ ap (λ z. neg_ℤ (pos z)) (cross_same (suc a) d (gcd (suc a) d) (gcd-is (suc a) d h))

pub lowest_reduced : (n : ℤ) (d : ℕ) → 0 < d → IsGcd (unsigned_abs (lowest n d).0) (lowest n d).1 1
unfolding lowest
lowest_reduced (pos a) d h = reduced_apart a d (gcd a d) (gcd_positive a d h) (gcd-is a d h)
lowest_reduced (negsuc a) d h =
    subst (λ z. IsGcd z (d / gcd (suc a) d) 1) (sym (unsigned_abs-with_sign true (suc a / gcd (suc a) d))) (reduced_apart (suc a) d (gcd (suc a) d) (gcd_positive (suc a) d h) (gcd-is (suc a) d h))

-- ---- nearness

turned_difference : (x y : ℤ) → unsigned_abs (x -ℤ y) ≡ unsigned_abs (y -ℤ x)
turned_difference x y = omega (arith, ints)

turned_sum : (x y : ℕ) → x + y ≡ y + x
turned_sum x y = omega arith

pub near_symmetric : (a b : XFrac) → is_near a b ≡ is_near b a
near_symmetric (Fin a) (Fin b) =
    let d : difference a b ≡ difference b a = turned_difference (a.0 *ℤ pos b.1) (b.0 *ℤ pos a.1) in
    let s : joint_magnitude a b ≡ joint_magnitude b a = turned_sum (unsigned_abs a.0 * b.1) (unsigned_abs b.0 * a.1) in
    ap (λ z. z == 0 || nat_lt (z * 1000000) (joint_magnitude a b)) d
    ∙ ap (λ z. difference b a == 0 || nat_lt (difference b a * 1000000) z) s
near_symmetric (Fin a) PosInf = refl
near_symmetric (Fin a) NegInf = refl
near_symmetric (Fin a) NaN = refl
near_symmetric PosInf b = elim b as (λ v. is_near PosInf v ≡ is_near v PosInf) [ Fin f ↦ refl | PosInf ↦ refl | NegInf ↦ refl | NaN ↦ refl ]
near_symmetric NegInf b = elim b as (λ v. is_near NegInf v ≡ is_near v NegInf) [ Fin f ↦ refl | PosInf ↦ refl | NegInf ↦ refl | NaN ↦ refl ]
near_symmetric NaN b = elim b as (λ v. is_near NaN v ≡ is_near v NaN) [ Fin f ↦ refl | PosInf ↦ refl | NegInf ↦ refl | NaN ↦ refl ]

-- ---- which values are in lowest terms

pub number_is_lowest : NumberIsLowest
number_is_lowest (Fin f) h = record { positive = h.positive; lowest = h.lowest }
number_is_lowest PosInf h = tt
number_is_lowest NegInf h = tt
number_is_lowest NaN h = tt

pub whole_is_lowest : WholeIsLowest
whole_is_lowest (Fin f) h = subst (λ d. AreLowest (unsigned_abs f.0) d) (sym h) (record { positive = omega arith; lowest = IsGcd-one (unsigned_abs f.0) })
whole_is_lowest PosInf h = absurd h
whole_is_lowest NegInf h = absurd h
whole_is_lowest NaN h = absurd h

pub lowest_has_denominator : LowestHasDenominator
lowest_has_denominator (Fin f) h = h.positive
lowest_has_denominator PosInf h = omega arith
lowest_has_denominator NegInf h = omega arith
lowest_has_denominator NaN h = omega arith

-- ---- sums

number_has_positive : (x : XFrac) → IsNumber x → HasPositive x
number_has_positive (Fin f) h = h.positive
number_has_positive PosInf h = omega arith
number_has_positive NegInf h = omega arith
number_has_positive NaN h = omega arith

positive_numbers : (xs : List XFrac) → All IsNumber xs → All HasPositive xs
positive_numbers xs h = All-weaker IsNumber HasPositive number_has_positive xs h

totals-permutation : (xs ys : List XFrac) → All HasPositive xs → IsPermutation xs ys → totals ys ≡ totals xs
unfolding totals
totals-permutation xs ys h p =
    let e : multiple_of ys ≡ multiple_of xs = multiple-permutation xs ys h p in
    same_totals
    e
    (ap (λ m. sum_by (above_over m) ys) e ∙ sum_by-IsPermutation (above_over (multiple_of xs)) xs ys p)
    (ap (λ m. sum_by (below_over m) ys) e ∙ sum_by-IsPermutation (below_over (multiple_of xs)) xs ys p)
    (sym (list_any-IsPermutation is_positive_infinity xs ys p))
    (sym (list_any-IsPermutation is_negative_infinity xs ys p))
    (sym (list_any-IsPermutation is_not_a_number xs ys p))
    (length_permutation xs ys p)

pub any_sum_permutation : AnySumIgnoresOrder
any_sum_permutation xs ys h p =
    let e : totals ys ≡ totals xs = totals-permutation xs ys h p in
    ap (λ t. if fits t then Some (value_of t) else None) e

pub sum_permutation : (xs ys : List XFrac) → All IsNumber xs → IsPermutation xs ys → sum_of ys ≡ sum_of xs
sum_permutation xs ys h p = any_sum_permutation xs ys (positive_numbers xs h) p

joined_above : (a b : Totals) → 0 < a.multiple → 0 < b.multiple → (a.multiple ≤ (joined a b).multiple) × (a.above + a.below ≤ (joined a b).above + (joined a b).below)
joined_above a b h k =
    let some : 0 < lcm a.multiple b.multiple = lcm_positive a.multiple b.multiple h k in
    let q : 0 < lcm a.multiple b.multiple / a.multiple = quotient_positive a.multiple (lcm a.multiple b.multiple) some (dvd-lcm_left a.multiple b.multiple k) in
    let u : a.above ≤ a.above * (lcm a.multiple b.multiple / a.multiple) = le-mul_of_pos_right a.above q in
    let v : a.below ≤ a.below * (lcm a.multiple b.multiple / a.multiple) = le-mul_of_pos_right a.below q in
    (le_of_dvd some (dvd-lcm_left a.multiple b.multiple k), omega arith)

totals_positive : (xs : List XFrac) → All HasPositive xs → 0 < (totals xs).multiple
unfolding totals
totals_positive xs h = multiple_positive xs h

pub any_totals_grow : AnyTotalsNeverFall
any_totals_grow xs ys p q =
    subst (λ t. ((totals xs).multiple ≤ t.multiple) × ((totals xs).above + (totals xs).below ≤ t.above + t.below)) (sym (totals-append xs ys p q)) (joined_above (totals xs) (totals ys) (totals_positive xs p) (totals_positive ys q))

pub totals_grow : (xs ys : List XFrac) → All IsNumber xs → All IsNumber ys → ((totals xs).multiple ≤ (totals (xs ++ ys)).multiple) × ((totals xs).above + (totals xs).below ≤ (totals (xs ++ ys)).above + (totals (xs ++ ys)).below)
totals_grow xs ys h k = any_totals_grow xs ys (positive_numbers xs h) (positive_numbers ys k)

unfit : (s t : Totals) → s.multiple ≤ t.multiple → s.above + s.below ≤ t.above + t.below → fits s ≡ false → fits t ≡ false
unfit s t h k e =
    elim (and_cases _ _ e) [
      | inl a ↦
          let b : limit < s.multiple = leb-false _ _ a in
          let c : limit < t.multiple = omega arith in
          and_left _ _ (lt-leb _ _ c)
      | inr a ↦
          let b : limit < s.above + s.below = leb-false _ _ a in
          let c : limit < t.above + t.below = omega arith in
          and_right _ _ (lt-leb _ _ c)
    ]

no_sum : (t : Totals) → (if fits t then Some (value_of t) else None) ≡ None → fits t ≡ false
no_sum t e = none_from_choice (fits t) (value_of t) (sym e)

pub any_part_overflows : AnyPartOverflowsWhole
any_part_overflows xs ys h k e =
    let grow = any_totals_grow xs ys h k in
    cond-false _ _ _ (unfit (totals xs) (totals (xs ++ ys)) grow.0 grow.1 (no_sum (totals xs) e))

pub part_overflows : (xs ys : List XFrac) → All IsNumber xs → All IsNumber ys → sum_of xs ≡ None → sum_of (xs ++ ys) ≡ None
part_overflows xs ys h k e = any_part_overflows xs ys (positive_numbers xs h) (positive_numbers ys k) e

-- ---- the order

equal_ints : (x y : ℤ) → int_cmp x y ≡ Equal → x ≡ y
equal_ints x y h = grind (arith, ints)

less_ints : (x y : ℤ) → int_cmp x y ≡ Less → int_lt x y ≡ true
less_ints x y h = grind arith

from_less : (x y : ℤ) → int_lt x y ≡ true → int_cmp x y ≡ Less
from_less x y h = cond-true _ _ _ h

-- two signed numerators that are equal over each other's denominators, in lowest terms, are the same
same_fractions : (n m : ℤ) (d e : ℕ) → AreLowest (unsigned_abs n) d → AreLowest (unsigned_abs m) e → n *ℤ pos e ≡ m *ℤ pos d → (n ≡ m) × (d ≡ e)
same_fractions (pos a) (pos b) d e h k eq =
    let both : (a ≡ b) × (d ≡ e) = lowest_unique a d b e h.positive k.positive h.lowest k.lowest (ap unsigned_abs eq) in
    (ap pos both.0, both.1)
same_fractions (negsuc a) (negsuc b) d e h k eq =
    let both : (suc a ≡ suc b) × (d ≡ e) =
    lowest_unique (suc a) d (suc b) e h.positive k.positive h.lowest k.lowest (sym (unsigned_abs-with_sign true (suc a * e)) ∙ ap unsigned_abs eq ∙ unsigned_abs-with_sign true (suc b * d)) in
    (ap negsuc (omega arith), both.1)
same_fractions (pos a) (negsuc b) d e h k eq =
    let some : 0 < suc b * d = product_positive (suc b) d (omega arith) h.positive in absurd (apart (a * e) (suc b * d) some eq)
  where
    apart : (x y : ℕ) → 0 < y → pos x ≡ neg_ℤ (pos y) → ⊥
    apart x y h e = omega (arith, ints)
same_fractions (negsuc a) (pos b) d e h k eq =
    let some : 0 < suc a * e = product_positive (suc a) e (omega arith) k.positive in absurd (apart (b * d) (suc a * e) some (sym eq))
  where
    apart : (x y : ℕ) → 0 < y → pos x ≡ neg_ℤ (pos y) → ⊥
    apart x y h e = omega (arith, ints)

pub equal_lowest : EqualLowestIsSame
equal_lowest (Fin a) (Fin b) h k e =
    let both : (a.0 ≡ b.0) × (a.1 ≡ b.1) = same_fractions a.0 b.0 a.1 b.1 h k (equal_ints _ _ e) in
    ap (λ n. Fin (n, a.1)) both.0 ∙ ap (λ d. Fin (b.0, d)) both.1
equal_lowest (Fin a) PosInf h k e = absurd (cc)
equal_lowest (Fin a) NegInf h k e = absurd (cc)
equal_lowest (Fin a) NaN h k e = absurd (cc)
equal_lowest PosInf (Fin b) h k e = absurd (cc)
equal_lowest PosInf PosInf h k e = refl
equal_lowest PosInf NegInf h k e = absurd (cc)
equal_lowest PosInf NaN h k e = absurd (cc)
equal_lowest NegInf (Fin b) h k e = absurd (cc)
equal_lowest NegInf PosInf h k e = absurd (cc)
equal_lowest NegInf NegInf h k e = refl
equal_lowest NegInf NaN h k e = absurd (cc)
equal_lowest NaN (Fin b) h k e = absurd (cc)
equal_lowest NaN PosInf h k e = absurd (cc)
equal_lowest NaN NegInf h k e = absurd (cc)
equal_lowest NaN NaN h k e = refl

pub equal_numbers : (a b : XFrac) → IsNumber a → IsNumber b → total_order a b ≡ Equal → a ≡ b
equal_numbers a b h k e = equal_lowest a b (number_is_lowest a h) (number_is_lowest b k) e

less_carries : (m d n e p f : ℕ) → 0 < d → 0 < e → 0 < f → m * e < n * d → n * f < p * e → m * f < p * d
less_carries m d n e p f hd he hf h k =
    let u : m * e * f < n * d * f = mul-lt-mul_of_pos_right h hf in
    let v : n * f * d < p * e * d = mul-lt-mul_of_pos_right k hd in
    let w : m * f * e < p * d * e = omega arith in
    lt_of_mul-lt-mul_right e w

below_pos : (x y : ℕ) → int_lt (pos x) (pos y) ≡ true → x < y
below_pos x y h = ltb-true x y h

below_neg : (x y : ℕ) → int_lt (neg_ℤ (pos x)) (neg_ℤ (pos y)) ≡ true → y < x
below_neg zero zero h = absurd (omega (arith, ltb-true 0 0 h))
below_neg zero (suc y) h = absurd (false≢true h)
below_neg (suc x) zero h = omega arith
below_neg (suc x) (suc y) h = omega (arith, ltb-true y x h)

neg_below : (x y : ℕ) → y < x → int_lt (neg_ℤ (pos x)) (neg_ℤ (pos y)) ≡ true
neg_below zero y h = absurd (omega arith)
neg_below (suc x) zero h = refl
neg_below (suc x) (suc y) h = lt-ltb y x (omega arith)

neg_below_pos : (x y : ℕ) → 0 < x → int_lt (neg_ℤ (pos x)) (pos y) ≡ true
neg_below_pos zero y h = absurd (omega arith)
neg_below_pos (suc x) y h = refl

not_pos_below_neg : (x y : ℕ) → int_lt (pos x) (neg_ℤ (pos y)) ≡ true → ⊥
not_pos_below_neg x zero h = omega (arith, ltb-true x 0 h)
not_pos_below_neg x (suc y) h = false≢true h

less_fractions : (n m p : ℤ) (d e f : ℕ) → 0 < d → 0 < e → 0 < f → int_lt (n *ℤ pos e) (m *ℤ pos d) ≡ true → int_lt (m *ℤ pos f) (p *ℤ pos e) ≡ true → int_lt (n *ℤ pos f) (p *ℤ pos d) ≡ true
less_fractions (pos a) (pos b) (pos c) d e f hd he hf h k =
    lt-ltb _ _ (less_carries a d b e c f hd he hf (ltb-true _ _ h) (ltb-true _ _ k))
less_fractions (negsuc a) (negsuc b) (negsuc c) d e f hd he hf h k =
    neg_below _ _ (less_carries (suc c) f (suc b) e (suc a) d hf he hd (below_neg _ _ k) (below_neg _ _ h))
less_fractions (negsuc a) m (pos c) d e f hd he hf h k = neg_below_pos _ _ (product_positive (suc a) f (omega arith) hf)
less_fractions (pos a) (negsuc b) p d e f hd he hf h k = absurd (not_pos_below_neg (a * e) (suc b * d) h)
less_fractions (pos a) (pos b) (negsuc c) d e f hd he hf h k = absurd (not_pos_below_neg (b * f) (suc c * e) k)
less_fractions (negsuc a) (pos b) (negsuc c) d e f hd he hf h k = absurd (not_pos_below_neg (b * f) (suc c * e) k)

pub less_of_any : LessOfAnyIsTransitive
less_of_any (Fin a) (Fin b) (Fin c) g h k e f =
    let x : int_lt (a.0 *ℤ pos b.1) (b.0 *ℤ pos a.1) ≡ true = less_ints (a.0 *ℤ pos b.1) (b.0 *ℤ pos a.1) e in
    let y : int_lt (b.0 *ℤ pos c.1) (c.0 *ℤ pos b.1) ≡ true = less_ints (b.0 *ℤ pos c.1) (c.0 *ℤ pos b.1) f in
    from_less (a.0 *ℤ pos c.1) (c.0 *ℤ pos a.1) (less_fractions a.0 b.0 c.0 a.1 b.1 c.1 g h k x y)
less_of_any (Fin a) b PosInf g h k e f = refl
less_of_any (Fin a) b NaN g h k e f = refl
less_of_any (Fin a) (Fin b) NegInf g h k e f = absurd (cc)
less_of_any (Fin a) PosInf (Fin c) g h k e f = absurd (cc)
less_of_any (Fin a) PosInf NegInf g h k e f = absurd (cc)
less_of_any (Fin a) NegInf c g h k e f = absurd (cc)
less_of_any (Fin a) NaN (Fin c) g h k e f = absurd (cc)
less_of_any (Fin a) NaN NegInf g h k e f = absurd (cc)
less_of_any PosInf (Fin b) c g h k e f = absurd (cc)
less_of_any PosInf PosInf c g h k e f = absurd (cc)
less_of_any PosInf NegInf c g h k e f = absurd (cc)
less_of_any PosInf NaN (Fin c) g h k e f = absurd (cc)
less_of_any PosInf NaN PosInf g h k e f = absurd (cc)
less_of_any PosInf NaN NegInf g h k e f = absurd (cc)
less_of_any PosInf NaN NaN g h k e f = refl
less_of_any NegInf b (Fin c) g h k e f = refl
less_of_any NegInf b PosInf g h k e f = refl
less_of_any NegInf b NaN g h k e f = refl
less_of_any NegInf NegInf NegInf g h k e f = absurd (cc)
less_of_any NegInf (Fin b) NegInf g h k e f = absurd (cc)
less_of_any NegInf PosInf NegInf g h k e f = absurd (cc)
less_of_any NegInf NaN NegInf g h k e f = absurd (cc)
less_of_any NaN (Fin b) c g h k e f = absurd (cc)
less_of_any NaN PosInf c g h k e f = absurd (cc)
less_of_any NaN NegInf c g h k e f = absurd (cc)
less_of_any NaN NaN c g h k e f = absurd (cc)

pub less_numbers : (a b c : XFrac) → IsNumber a → IsNumber b → IsNumber c → total_order a b ≡ Less → total_order b c ≡ Less → total_order a c ≡ Less
less_numbers a b c g h k e f = less_of_any a b c (number_has_positive a g) (number_has_positive b h) (number_has_positive c k) e f
