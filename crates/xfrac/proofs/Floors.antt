-- Floors and ceilings are the nearest whole numbers on their sides.
use Rattle.std.proofs.Common.{◌≡◌, ℕ, ◌+◌, ◌*◌, ◌/◌, ◌<◌, ◌≤◌, suc, refl, sym, subst, ap, arith, IsTrue, true}
use Rattle.std.specs.Prelude.{ℤ, pos, negsuc, neg_ℤ, ◌*ℤ◌, ◌≤ℤ◌}
use Rattle.std.specs.Int.{int_div_euclid}
use Rattle.std.specs.Ordering.{int_cmp, is_le}
use Rattle.std.proofs.lemmas.Int.{ints}
use Rattle.std.proofs.Math.IntN.{neg_ℤ-neg_ℤ}
use Rattle.std.proofs.Math.Nat.{le-div_iff_mul-le, div-mul-le_self, div-lt_iff_lt-mul, lt-div-mul-add}
use Rattle.xfrac.specs.Forming.{floor_of, ceiling_of, negated}
use Rattle.xfrac.specs.Laws.{IsNumber, IsWhole, AtMost}
use Rattle.xfrac.proofs.Products.{with_sign-times_pos}
use Rattle.xfrac.specs.declared.value.XFrac.{XFrac}
use Rattle.xfrac.specs.declared.value.XFrac.TheVariants.{Fin, PosInf, NegInf, NaN}

abbrev below : ℤ → ℤ → Type 0
below x y = IsTrue (is_le (int_cmp x y))

from_below : (x y : ℤ) → below x y → x ≤ℤ y
from_below x y h = grind (arith, ints)

to_below : (x y : ℤ) → x ≤ℤ y → below x y
to_below x y h = grind (arith, ints)

-- ---- whole numbers below n/d

less : (x y : ℕ) → x ≤ y → pos x ≤ℤ pos y
less x y h = omega (arith, ints)

floor_below : (n : ℤ) (d : ℕ) → 0 < d → (int_div_euclid n (pos d) *ℤ pos d) ≤ℤ (n *ℤ pos 1)
floor_below (pos a) d h =
    let e : a / d * d ≤ a * 1 = omega (arith, div-mul-le_self a d) in
    less (a / d * d) (a * 1) e
floor_below (negsuc a) d h =
    let e : a < suc (a / d) * d = under (a / d) d a (lt-div-mul-add {a = a} {b = d} h) in
    below_zero (a / d) d a e
  where
    under : (q d a : ℕ) → a < q * d + d → a < suc q * d
    under q d a h = omega arith

    below_zero : (q d a : ℕ) → a < suc q * d → neg_ℤ (pos (suc q * d)) ≤ℤ neg_ℤ (pos (suc a * 1))
    below_zero q d a e = omega (arith, ints)

floor_greatest : (k n : ℤ) (d : ℕ) → 0 < d → (k *ℤ pos d) ≤ℤ (n *ℤ pos 1) → (k *ℤ pos 1) ≤ℤ (int_div_euclid n (pos d) *ℤ pos 1)
floor_greatest (pos b) (pos a) d h k =
    let e : b * d ≤ a = inner (b * d) a k in
    let f : b ≤ a / d = (le-div_iff_mul-le {k = d} {x = b} {y = a} h).1 e in
    outer b (a / d) f
  where
    inner : (x a : ℕ) → pos x ≤ℤ pos (a * 1) → x ≤ a
    inner x a k = omega (arith, ints)

    outer : (b q : ℕ) → b ≤ q → pos (b * 1) ≤ℤ pos (q * 1)
    outer b q h = omega (arith, ints)
floor_greatest (negsuc b) (pos a) d h k = outer b (a / d)
  where
    outer : (b q : ℕ) → neg_ℤ (pos (suc b * 1)) ≤ℤ pos (q * 1)
    outer b q = omega (arith, ints)
floor_greatest (pos b) (negsuc a) d h k = absurd (apart (b * d) a k)
  where
    apart : (x a : ℕ) → pos x ≤ℤ neg_ℤ (pos (suc a * 1)) → ⊥
    apart x a k = omega (arith, ints)
floor_greatest (negsuc b) (negsuc a) d h k =
    let e : a < suc b * d = inner (suc b * d) a k in
    let f : a / d < suc b = (div-lt_iff_lt-mul {k = d} {x = a} {y = suc b} h).1 e in
    outer b (a / d) f
  where
    inner : (x a : ℕ) → neg_ℤ (pos x) ≤ℤ neg_ℤ (pos (suc a * 1)) → a < x
    inner x a k = omega (arith, ints)

    outer : (b q : ℕ) → q < suc b → neg_ℤ (pos (suc b * 1)) ≤ℤ neg_ℤ (pos (suc q * 1))
    outer b q h = omega (arith, ints)

fraction_not_above : (f : ℤ × ℕ) → 0 < f.1 → AtMost (floor_of (Fin f)) (Fin f)
fraction_not_above f h = to_below (int_div_euclid f.0 (pos f.1) *ℤ pos f.1) (f.0 *ℤ pos 1) (floor_below f.0 f.1 h)

fraction_greatest : (f g : ℤ × ℕ) → 0 < f.1 → g.1 ≡ 1 → AtMost (Fin g) (Fin f) → AtMost (Fin g) (floor_of (Fin f))
fraction_greatest f g h whole k =
    let e : (g.0 *ℤ pos f.1) ≤ℤ (f.0 *ℤ pos 1) = subst (λ m. (g.0 *ℤ pos f.1) ≤ℤ (f.0 *ℤ pos m)) whole (from_below (g.0 *ℤ pos f.1) (f.0 *ℤ pos g.1) k) in
    let q : ℤ = int_div_euclid f.0 (pos f.1) in
    let r : (g.0 *ℤ pos 1) ≤ℤ (q *ℤ pos 1) = floor_greatest g.0 f.0 f.1 h e in
    to_below (g.0 *ℤ pos 1) (q *ℤ pos g.1) (subst (λ m. (g.0 *ℤ pos 1) ≤ℤ (q *ℤ pos m)) (sym whole) r)

pub floor_not_above : (v : XFrac) → IsNumber v → AtMost (floor_of v) v
floor_not_above (Fin f) h = fraction_not_above f h.positive
floor_not_above PosInf h = refl
floor_not_above NegInf h = refl
floor_not_above NaN h = refl

pub floor_is_greatest : (v w : XFrac) → IsNumber v → IsWhole w → AtMost w v → AtMost w (floor_of v)
floor_is_greatest (Fin f) (Fin g) h whole k = fraction_greatest f g h.positive whole k
floor_is_greatest PosInf (Fin g) h whole k = k
floor_is_greatest NegInf (Fin g) h whole k = k
floor_is_greatest NaN (Fin g) h whole k = k
floor_is_greatest (Fin f) PosInf h whole k = absurd whole
floor_is_greatest (Fin f) NegInf h whole k = absurd whole
floor_is_greatest (Fin f) NaN h whole k = absurd whole
floor_is_greatest PosInf PosInf h whole k = absurd whole
floor_is_greatest PosInf NegInf h whole k = absurd whole
floor_is_greatest PosInf NaN h whole k = absurd whole
floor_is_greatest NegInf PosInf h whole k = absurd whole
floor_is_greatest NegInf NegInf h whole k = absurd whole
floor_is_greatest NegInf NaN h whole k = absurd whole
floor_is_greatest NaN PosInf h whole k = absurd whole
floor_is_greatest NaN NegInf h whole k = absurd whole
floor_is_greatest NaN NaN h whole k = absurd whole

-- ---- the other side: signs turn the order

turned_product : (n : ℤ) (d : ℕ) → neg_ℤ n *ℤ pos d ≡ neg_ℤ (n *ℤ pos d)
turned_product (pos a) d = with_sign-times_pos true a d
turned_product (negsuc a) d = sym (neg_ℤ-neg_ℤ (pos (suc a * d)))

turned_below : (x y : ℤ) → below x y → below (neg_ℤ y) (neg_ℤ x)
turned_below x y h = to_below (neg_ℤ y) (neg_ℤ x) (turned x y (from_below x y h))
  where
    turned : (x y : ℤ) → x ≤ℤ y → neg_ℤ y ≤ℤ neg_ℤ x
    turned x y h = omega (arith, ints)

turned_fractions : (a b : ℤ × ℕ) → AtMost (Fin a) (Fin b) → AtMost (negated (Fin b)) (negated (Fin a))
turned_fractions a b h =
    subst (λ z. below z (neg_ℤ a.0 *ℤ pos b.1)) (sym (turned_product b.0 a.1))
    (subst (λ z. below (neg_ℤ (b.0 *ℤ pos a.1)) z) (sym (turned_product a.0 b.1)) (turned_below (a.0 *ℤ pos b.1) (b.0 *ℤ pos a.1) h))

twice : (f : ℤ × ℕ) → negated (negated (Fin f)) ≡ Fin f
twice f = ap (λ n. Fin (n, f.1)) (neg_ℤ-neg_ℤ f.0)

pub ceiling_not_below : (v : XFrac) → IsNumber v → AtMost v (ceiling_of v)
ceiling_not_below (Fin f) h =
    subst (λ z. AtMost z (ceiling_of (Fin f))) (twice f)
    (turned_fractions (int_div_euclid (neg_ℤ f.0) (pos f.1), 1) (neg_ℤ f.0, f.1) (fraction_not_above (neg_ℤ f.0, f.1) h.positive))
ceiling_not_below PosInf h = refl
ceiling_not_below NegInf h = refl
ceiling_not_below NaN h = refl

pub ceiling_is_least : (v w : XFrac) → IsNumber v → IsWhole w → AtMost v w → AtMost (ceiling_of v) w
ceiling_is_least (Fin f) (Fin g) h whole k =
    let m : AtMost (Fin (neg_ℤ g.0, g.1)) (Fin (neg_ℤ f.0, f.1)) = turned_fractions f g k in
    let r : AtMost (Fin (neg_ℤ g.0, g.1)) (floor_of (Fin (neg_ℤ f.0, f.1))) = fraction_greatest (neg_ℤ f.0, f.1) (neg_ℤ g.0, g.1) h.positive whole m in
    subst (AtMost (ceiling_of (Fin f))) (twice g) (turned_fractions (neg_ℤ g.0, g.1) (int_div_euclid (neg_ℤ f.0) (pos f.1), 1) r)
ceiling_is_least PosInf (Fin g) h whole k = k
ceiling_is_least NegInf (Fin g) h whole k = k
ceiling_is_least NaN (Fin g) h whole k = k
ceiling_is_least (Fin f) PosInf h whole k = absurd whole
ceiling_is_least (Fin f) NegInf h whole k = absurd whole
ceiling_is_least (Fin f) NaN h whole k = absurd whole
ceiling_is_least PosInf PosInf h whole k = absurd whole
ceiling_is_least PosInf NegInf h whole k = absurd whole
ceiling_is_least PosInf NaN h whole k = absurd whole
ceiling_is_least NegInf PosInf h whole k = absurd whole
ceiling_is_least NegInf NegInf h whole k = absurd whole
ceiling_is_least NegInf NaN h whole k = absurd whole
ceiling_is_least NaN PosInf h whole k = absurd whole
ceiling_is_least NaN NegInf h whole k = absurd whole
ceiling_is_least NaN NaN h whole k = absurd whole
