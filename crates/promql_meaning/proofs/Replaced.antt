-- A part of a sum may be replaced by its own sum.
use Rattle.std.proofs.Common.{◌≡◌, ◌∙◌, ℕ, ◌+◌, ◌-◌, ◌*◌, ◌/◌, ◌<◌, ◌≤◌, zero, suc, Bool, true, false, List, [], ◌∷◌, ◌++◌, refl, sym, ap, subst, arith, inl, inr, Some, None}
use Rattle.std.specs.Prelude.{pos, ◌-ℤ◌, ◌&&◌, ◌||◌, nat_le, if◌then◌else◌}
use Rattle.std.specs.Int.{IsGcd, ◌∣◌}
use Rattle.std.specs.List.{AllByRecursion}
use Rattle.std.proofs.lemmas.Bool.{and_from, and_parts, cases_lt, le-leb, leb-true}
use Rattle.std.proofs.lemmas.Int.{ints}
use Rattle.std.proofs.lemmas.Nat.{mul-le}
use Rattle.std.proofs.lemmas.Nat.Gcd.{dvd_trans, le_of_dvd}
use Rattle.std.proofs.Math.Nat.{div-mul_cancel, dvd-mul_left, dvd-mul_right, eq_of_mul-eq-mul_right, le-mul_of_pos_right, one-dvd, pos_of_dvd_of_pos}
use Rattle.xfrac.specs.Divisors.{gcd, lcm}
use Rattle.xfrac.specs.Formed.{lowest-with_sign, reduced_parts, unsigned_abs-with_sign}
use Rattle.xfrac.specs.Fractions.{IsReduced, limit, lowest, with_sign}
use Rattle.xfrac.specs.Gcds.{dvd-quotient, gcd-is, gcd_positive, positive_quotient, product_positive, reduced_apart, reduced_is}
use Rattle.xfrac.specs.Laws.{AloneStandsForOne, IsNumber, JoinedStandsForBoth, LcmIsLeast, LcmIsMultiple}
use Rattle.xfrac.specs.Sums.{Totals, alone, denominator_of, fits, joined, lower, multiple_of, part_above, part_below, sum_of, totals, upper, value_of}
use Rattle.xfrac.specs.declared.value.XFrac.{XFrac}
use Rattle.xfrac.specs.declared.value.XFrac.TheVariants.{Fin, PosInf, NegInf, NaN}

-- ---- two differences in one proportion

up_from : (a b w : ℕ) → a ≡ b + w → pos a -ℤ pos b ≡ pos w
up_from a b w e = omega (arith, ints, e)

down_from : (a b w : ℕ) → b ≡ a + w → pos a -ℤ pos b ≡ with_sign true w
down_from a b w e = omega (arith, ints, e)

scaled_parts : (w l k : ℕ) → 0 < k → 0 < l → (k * w / gcd (k * w) (k * l) ≡ w / gcd w l) × (k * l / gcd (k * w) (k * l) ≡ l / gcd w l)
scaled_parts w l k pk pl =
    let g : ℕ = gcd w l in
    let is : IsGcd w l g = gcd-is w l pl in
    let pg : 0 < g = gcd_positive w l pl in
    let e : w / g * g ≡ w = div-mul_cancel g is.0 in
    let f : l / g * g ≡ l = div-mul_cancel g is.1 in
    reduced_is (w / g) (l / g) (k * w) (k * l) (positive_quotient l g is.1 pl) (product_positive k l pk pl) (reduced_apart w l g pg is) (cross (w / g) (l / g) w l g k e f)
  where
    cross : (p q w l g k : ℕ) → p * g ≡ w → q * g ≡ l → p * (k * l) ≡ k * w * q
    cross p q w l g k e f =
        let h : p * (k * (q * g)) ≡ k * (p * g) * q = omega arith in
        ap (λ z. p * (k * z)) (sym f) ∙ h ∙ ap (λ z. k * z * q) e

lowest_scaled : (s : Bool) (w l k : ℕ) → 0 < k → 0 < l → lowest (with_sign s (k * w)) (k * l) ≡ lowest (with_sign s w) l
lowest_scaled s w l k pk pl =
    let both = scaled_parts w l k pk pl in
    lowest-with_sign s (k * w) (k * l) ∙ ap (λ x. (with_sign s x, k * l / gcd (k * w) (k * l))) both.0 ∙ ap (λ y. (with_sign s (w / gcd w l), y)) both.1
    ∙ sym (lowest-with_sign s w l)

same_lowest : (a b c d k l : ℕ) → 0 < k → 0 < l → a + k * d ≡ b + k * c → lowest (pos a -ℤ pos b) (k * l) ≡ lowest (pos c -ℤ pos d) l
same_lowest a b c d k l pk pl cross =
    elim (cases_lt c d) [
      | inl less ↦
          let w : ℕ = d - c in
          let e : d ≡ c + w = omega arith in
          let f : b ≡ a + k * w = apart a b c d w e cross in
          ap (λ z. lowest z (k * l)) (down_from a b (k * w) f) ∙ lowest_scaled true w l k pk pl ∙ ap (λ z. lowest z l) (sym (down_from c d w e))
      | inr more ↦
          let w : ℕ = c - d in
          let e : c ≡ d + w = omega arith in
          let f : a ≡ b + k * w = apart b a d c w e (sym cross) in
          ap (λ z. lowest z (k * l)) (up_from a b (k * w) f) ∙ lowest_scaled false w l k pk pl ∙ ap (λ z. lowest z l) (sym (up_from c d w e))
    ]
  where
    apart : (a b c d w : ℕ) → d ≡ c + w → a + k * d ≡ b + k * c → b ≡ a + k * w
    apart a b c d w e cross =
        let f : a + k * (c + w) ≡ b + k * c = ap (λ z. a + k * z) (sym e) ∙ cross in
        let g : a + k * (c + w) ≡ a + k * w + k * c = omega arith in
        let h : a + k * w + k * c ≡ b + k * c = sym g ∙ f in
        omega (arith, h)

-- ---- the difference of two numbers over a third, in lowest terms

-- how often the denominator in lowest terms goes into the one that was there
record IsLowest (a b m : ℕ) : Type 0 where
  negative : Bool
  numerator : ℕ
  denominator : ℕ
  is : lowest (pos a -ℤ pos b) m ≡ (with_sign negative numerator, denominator)
  divides : denominator ∣ m
  positive : 0 < denominator
  lowest_terms : numerator ≤ limit → denominator ≤ limit → IsReduced numerator denominator
  same : a + lower negative numerator * (m / denominator) ≡ b + upper negative numerator * (m / denominator)
  few : (upper negative numerator + lower negative numerator) * (m / denominator) ≤ a + b

module _ (w m : ℕ) (pm : 0 < m) where
  abbrev shared : ℕ
  shared = gcd w m

  is_shared : IsGcd w m (gcd w m)
  is_shared = gcd-is w m pm

  -- what was there over the lowest denominator is what was divided out
  divided_out : m / (m / shared) ≡ shared
  divided_out =
      let pg : 0 < shared = gcd_positive w m pm in
      let e : m / shared * shared ≡ m = div-mul_cancel shared is_shared.1 in
      let d : 0 < m / shared = positive_quotient m shared is_shared.1 pm in
      let f : m / (m / shared) * (m / shared) ≡ m = div-mul_cancel (m / shared) (dvd-quotient m shared is_shared.1) in
      eq_of_mul-eq-mul_right (m / shared) d (m / (m / shared)) shared (f ∙ sym e ∙ turned (m / shared) shared)
    where
      turned : (x y : ℕ) → x * y ≡ y * x
      turned x y = omega arith

  times_shared : w / shared * (m / (m / shared)) ≡ w
  times_shared = ap (λ z. w / shared * z) divided_out ∙ div-mul_cancel shared is_shared.0

lowest_of : (a b m : ℕ) → 0 < m → IsLowest a b m
lowest_of a b m pm =
    elim (cases_lt a b) [
      | inl less ↦
          let w : ℕ = b - a in
          let e : b ≡ a + w = omega arith in
          let t : w / gcd w m * (m / (m / gcd w m)) ≡ w = times_shared w m pm in
          record {
            negative = true;
            numerator = w / gcd w m;
            denominator = m / gcd w m;
            is = ap (λ z. lowest z m) (down_from a b w e) ∙ lowest-with_sign true w m;
            divides = dvd-quotient m (gcd w m) (is_shared w m pm).1;
            positive = positive_quotient m (gcd w m) (is_shared w m pm).1 pm;
            lowest_terms = λ n d. reduced_parts w m (w / gcd w m) (m / gcd w m) pm refl refl n d;
            same = ap (λ z. a + z) t ∙ sym e ∙ added b (m / (m / gcd w m));
            few = subst (λ z. z ≤ a + b) (sym (plain_left (w / gcd w m) (m / (m / gcd w m)) ∙ t)) (omega (arith, e));
          }
      | inr more ↦
          let w : ℕ = a - b in
          let e : a ≡ b + w = omega arith in
          let t : w / gcd w m * (m / (m / gcd w m)) ≡ w = times_shared w m pm in
          record {
            negative = false;
            numerator = w / gcd w m;
            denominator = m / gcd w m;
            is = ap (λ z. lowest z m) (up_from a b w e) ∙ lowest-with_sign false w m;
            divides = dvd-quotient m (gcd w m) (is_shared w m pm).1;
            positive = positive_quotient m (gcd w m) (is_shared w m pm).1 pm;
            lowest_terms = λ n d. reduced_parts w m (w / gcd w m) (m / gcd w m) pm refl refl n d;
            same = sym (added a (m / (m / gcd w m))) ∙ e ∙ ap (λ z. b + z) (sym t);
            few = subst (λ z. z ≤ a + b) (sym (plain (w / gcd w m) (m / (m / gcd w m)) ∙ t)) (omega (arith, e));
          }
    ]
  where
    added : (x k : ℕ) → x ≡ x + 0 * k
    added x k = omega arith

    plain_left : (x k : ℕ) → (0 + x) * k ≡ x * k
    plain_left x k = omega arith

    plain : (x k : ℕ) → (x + 0) * k ≡ x * k
    plain x k = omega arith

-- ---- a denominator that divides another, over the least common multiple with a third

module _ (multiple : LcmIsMultiple) (least : LcmIsLeast) where
  pub lcm_positive : (a b : ℕ) → 0 < a → 0 < b → 0 < lcm a b
  lcm_positive a b pa pb = pos_of_dvd_of_pos (least a b (a * b) pa pb (dvd-mul_right a b) (dvd-mul_left b a)) (product_positive a b pa pb)

  record IsOver (m d v : ℕ) : Type 0 where
    factor : ℕ
    positive : 0 < factor
    whole : lcm m v ≡ factor * lcm d v
    beside : lcm m v / v ≡ factor * (lcm d v / v)
    under : lcm m v / m * (m / d) ≡ factor * (lcm d v / d)

  over : (m d v : ℕ) → 0 < m → 0 < d → 0 < v → d ∣ m → IsOver m d v
  over m d v pm pd pv divides =
      let great : ℕ = lcm m v in
      let small : ℕ = lcm d v in
      let of_m : m ∣ great = (multiple m v pm pv).0 in
      let of_v : v ∣ great = (multiple m v pm pv).1 in
      let goes : small ∣ great = least d v great pd pv (dvd_trans d divides of_m) of_v in
      let k : ℕ = great / small in
      let whole : k * small ≡ great = div-mul_cancel small goes in
      record {
        factor = k;
        positive = positive_quotient great small goes (lcm_positive m v pm pv);
        whole = sym whole;
        beside = eq_of_mul-eq-mul_right v pv (great / v) (k * (small / v)) (div-mul_cancel v of_v ∙ sym (scaled k (small / v) v small (div-mul_cancel v (multiple d v pd pv).1) ∙ whole));
        under = eq_of_mul-eq-mul_right d pd (great / m * (m / d)) (k * (small / d))
            (scaled (great / m) (m / d) d m (div-mul_cancel d divides) ∙ div-mul_cancel m of_m ∙ sym (scaled k (small / d) d small (div-mul_cancel d (multiple d v pd pv).0) ∙ whole));
      }
    where
      scaled : (k x d n : ℕ) → x * d ≡ n → k * x * d ≡ k * n
      scaled k x d n e = let f : k * x * d ≡ k * (x * d) = omega arith in f ∙ ap (λ z. k * z) e

  less_times : (x k : ℕ) → 0 < k → x ≤ k * x
  less_times x k pk = let e : x * k ≡ k * x = omega arith in subst (λ z. x ≤ z) e (le-mul_of_pos_right x pk)

  -- what stands over the lesser denominator is not more over the lesser multiple
  less_over : (x y p great g k : ℕ) → 0 < k → great * g ≡ k * p → x * g ≤ y → x * p ≤ y * great
  less_over x y p great g k pk e h =
      let a : x * p ≤ k * (x * p) = less_times (x * p) k pk in
      let b : k * (x * p) ≡ x * (k * p) = omega arith in
      let c : x * (great * g) ≡ x * g * great = omega arith in
      let f : x * g * great ≤ y * great = mul-le (x * g) great y great h (omega arith) in
      let s : k * (x * p) ≡ x * g * great = b ∙ ap (λ z. x * z) (sym e) ∙ c in
      let t : x * p ≤ x * g * great = subst (λ z. x * p ≤ z) s a in
      omega (arith, t, f)

  -- ---- totals that are replaced by those of one number

  record IsReplaced (t u : Totals) (x : XFrac) : Type 0 where
    fits_too : fits (joined (alone x) u) ≡ true
    value : value_of (joined (alone x) u) ≡ value_of (joined t u)

  fits_less : (t u : Totals) (x : XFrac) → 0 < t.multiple → 0 < u.multiple → 0 < (alone x).multiple → (alone x).multiple ∣ t.multiple
      → ((alone x).above + (alone x).below) * (t.multiple / (alone x).multiple) ≤ t.above + t.below → fits (joined t u) ≡ true → fits (joined (alone x) u) ≡ true
  fits_less t u x pt pu px divides few fit =
      let o : IsOver t.multiple (alone x).multiple u.multiple = over t.multiple (alone x).multiple u.multiple pt px pu divides in
      let parts = and_parts _ _ fit in
      let wide : lcm t.multiple u.multiple ≤ limit = leb-true _ _ parts.0 in
      let great = leb-true _ _ parts.1 in
      let narrow : lcm (alone x).multiple u.multiple ≤ lcm t.multiple u.multiple = subst (λ z. lcm (alone x).multiple u.multiple ≤ z) (sym o.whole) (less_times (lcm (alone x).multiple u.multiple) o.factor o.positive) in
      let here = less_over ((alone x).above + (alone x).below) (t.above + t.below) (lcm (alone x).multiple u.multiple / (alone x).multiple) (lcm t.multiple u.multiple / t.multiple) (t.multiple / (alone x).multiple) o.factor o.positive o.under few in
      let there : lcm (alone x).multiple u.multiple / u.multiple ≤ lcm t.multiple u.multiple / u.multiple = subst (λ z. lcm (alone x).multiple u.multiple / u.multiple ≤ z) (sym o.beside) (less_times (lcm (alone x).multiple u.multiple / u.multiple) o.factor o.positive) in
      and_from _ _ (le-leb _ _ (omega (arith, narrow, wide)))
      (le-leb _ _ (together t.above t.below (lcm t.multiple u.multiple / t.multiple) (alone x).above (alone x).below (lcm (alone x).multiple u.multiple / (alone x).multiple) u.above u.below
      (lcm t.multiple u.multiple / u.multiple) (lcm (alone x).multiple u.multiple / u.multiple) here there great))
    where
      together : (a b great c d small e f right left : ℕ) → (c + d) * small ≤ (a + b) * great → left ≤ right → a * great + e * right + (b * great + f * right) ≤ limit
          → c * small + e * left + (d * small + f * left) ≤ limit
      together a b great c d small e f right left h k within =
          let m : (e + f) * left ≤ (e + f) * right = mul-le (e + f) left (e + f) right (omega arith) k in
          let p : c * small + e * left + (d * small + f * left) ≡ (c + d) * small + (e + f) * left = omega arith in
          let q : a * great + e * right + (b * great + f * right) ≡ (a + b) * great + (e + f) * right = omega arith in
          omega (arith, h, m, p, q, within)

  above-signed : (s : Bool) (n d : ℕ) → part_above (Fin (with_sign s n, d)) ≡ upper s n
  above-signed false n d = refl
  above-signed true zero d = refl
  above-signed true (suc n) d = refl

  below-signed : (s : Bool) (n d : ℕ) → part_below (Fin (with_sign s n, d)) ≡ lower s n
  below-signed false n d = refl
  below-signed true zero d = refl
  below-signed true (suc n) d = omega arith

  -- the sums over the greater and over the lesser multiple are in one proportion
  crossed : (a b c d e f great g small k right left : ℕ) → a + d * g ≡ b + c * g → great * g ≡ k * small → right ≡ k * left
      → a * great + e * right + k * (d * small + f * left) ≡ b * great + f * right + k * (c * small + e * left)
  crossed a b c d e f great g small k right left same under beside =
      let x : a * great + e * right + k * (d * small + f * left) ≡ a * great + d * (k * small) + e * right + f * (k * left) = omega arith in
      let y : (a + d * g) * great ≡ a * great + d * (great * g) = omega arith in
      let z : (b + c * g) * great ≡ b * great + c * (great * g) = omega arith in
      let w : b * great + c * (k * small) + e * (k * left) + f * right ≡ b * great + f * right + k * (c * small + e * left) = omega arith in
      x ∙ ap (λ m. a * great + d * m + e * right + f * (k * left)) (sym under) ∙ ap (λ m. m + e * right + f * (k * left)) (sym y ∙ ap (λ m. m * great) same ∙ z)
      ∙ ap (λ m. b * great + c * m + e * right + f * (k * left)) under ∙ ap (λ m. b * great + c * (k * small) + e * m + f * (k * left)) beside
      ∙ ap (λ m. b * great + c * (k * small) + e * (k * left) + f * m) (sym beside) ∙ w

  -- the fraction of a sum, over the greater and over the lesser multiple
  same_fraction : (t u : Totals) (x : XFrac) → 0 < t.multiple → 0 < u.multiple → 0 < (alone x).multiple → (alone x).multiple ∣ t.multiple
      → t.above + (alone x).below * (t.multiple / (alone x).multiple) ≡ t.below + (alone x).above * (t.multiple / (alone x).multiple)
      → lowest (pos (joined (alone x) u).above -ℤ pos (joined (alone x) u).below) (joined (alone x) u).multiple ≡ lowest (pos (joined t u).above -ℤ pos (joined t u).below) (joined t u).multiple
  same_fraction t u x pt pu px divides same =
      let o : IsOver t.multiple (alone x).multiple u.multiple = over t.multiple (alone x).multiple u.multiple pt px pu divides in
      sym (ap (lowest (pos (joined t u).above -ℤ pos (joined t u).below)) o.whole
      ∙ same_lowest (joined t u).above (joined t u).below (joined (alone x) u).above (joined (alone x) u).below o.factor (lcm (alone x).multiple u.multiple) o.positive (lcm_positive (alone x).multiple u.multiple px pu)
      (crossed t.above t.below (alone x).above (alone x).below u.above u.below (lcm t.multiple u.multiple / t.multiple) (t.multiple / (alone x).multiple) (lcm (alone x).multiple u.multiple / (alone x).multiple) o.factor
      (lcm t.multiple u.multiple / u.multiple) (lcm (alone x).multiple u.multiple / u.multiple) same o.under o.beside))

  abbrev totals_by : ℕ → ℕ → ℕ → Bool → Bool → Bool → ℕ → Totals
  totals_by m a b p n v c = record { multiple = m; above = a; below = b; has_positive_infinity = p; has_negative_infinity = n; has_nan = v; count = c }

  no_fraction : (t u : Totals) (x : XFrac) → 0 < t.multiple → 0 < u.multiple → (alone x).multiple ≡ 1 → (alone x).above ≡ 0 → (alone x).below ≡ 0 → fits (joined t u) ≡ true → fits (joined (alone x) u) ≡ true
  no_fraction t u x pt pu one above below fit =
      fits_less t u x pt pu (omega (arith, one)) (subst (λ z. z ∣ t.multiple) (sym one) (one-dvd t.multiple))
      (subst (λ z. (z + (alone x).below) * (t.multiple / (alone x).multiple) ≤ t.above + t.below) (sym above) (subst (λ z. (0 + z) * (t.multiple / (alone x).multiple) ≤ t.above + t.below) (sym below) (nothing (t.multiple / (alone x).multiple) (t.above + t.below))))
      fit
    where
      nothing : (x y : ℕ) → (0 + 0) * x ≤ y
      nothing x y = omega arith

  nan_first : (u : Totals) (v : Bool) (f : XFrac) → (if v || true then NaN else f) ≡ NaN
  nan_first u true f = refl
  nan_first u false f = refl

  -- the totals of a finite sum are replaced by those of its fraction
  replaced_fraction : (m a b c : ℕ) (u : Totals) → 0 < m → 0 < u.multiple → fits (joined (totals_by m a b false false false c) u) ≡ true
      → IsReplaced (totals_by m a b false false false c) u (Fin (lowest (pos a -ℤ pos b) m))
  replaced_fraction m a b c u pm pu fit =
      let r : IsLowest a b m = lowest_of a b m pm in
      subst (λ f. IsReplaced (totals_by m a b false false false c) u (Fin f)) (sym r.is) (by r.negative r.numerator r.denominator r.positive r.divides r.same r.few)
    where
      by : (s : Bool) (n d : ℕ) → 0 < d → d ∣ m → a + lower s n * (m / d) ≡ b + upper s n * (m / d) → (upper s n + lower s n) * (m / d) ≤ a + b
          → IsReplaced (totals_by m a b false false false c) u (Fin (with_sign s n, d))
      by s n d pd divides same few =
          let t : Totals = totals_by m a b false false false c in
          let x : XFrac = Fin (with_sign s n, d) in
          let same' : a + part_below x * (m / d) ≡ b + part_above x * (m / d) =
          ap (λ z. a + z * (m / d)) (below-signed s n d) ∙ same ∙ ap (λ z. b + z * (m / d)) (sym (above-signed s n d)) in
          let few' : (part_above x + part_below x) * (m / d) ≤ a + b =
          subst (λ z. (z + part_below x) * (m / d) ≤ a + b) (sym (above-signed s n d)) (subst (λ z. (upper s n + z) * (m / d) ≤ a + b) (sym (below-signed s n d)) few) in
          record {
            fits_too = fits_less t u x pm pu pd divides few' fit;
            value = ap (λ f. if u.has_nan || (u.has_positive_infinity && u.has_negative_infinity) then NaN else if u.has_positive_infinity then PosInf else if u.has_negative_infinity then NegInf else Fin f) (same_fraction t u x pm pu pd divides same');
          }

  replaced_by : (m a b : ℕ) (p n v : Bool) (c : ℕ) (u : Totals) → 0 < m → 0 < u.multiple → fits (joined (totals_by m a b p n v c) u) ≡ true
      → IsReplaced (totals_by m a b p n v c) u (value_of (totals_by m a b p n v c))
  replaced_by m a b p n true c u pm pu fit =
      record { fits_too = no_fraction (totals_by m a b p n true c) u NaN pm pu refl refl refl fit; value = refl }
  replaced_by m a b true true false c u pm pu fit =
      record { fits_too = no_fraction (totals_by m a b true true false c) u NaN pm pu refl refl refl fit; value = sym (nan_first u u.has_nan PosInf) }
  replaced_by m a b true false false c u pm pu fit =
      record { fits_too = no_fraction (totals_by m a b true false false c) u PosInf pm pu refl refl refl fit; value = refl }
  replaced_by m a b false true false c u pm pu fit =
      record { fits_too = no_fraction (totals_by m a b false true false c) u NegInf pm pu refl refl refl fit; value = refl }
  replaced_by m a b false false false c u pm pu fit = replaced_fraction m a b c u pm pu fit

  -- ---- numbers

  number_by : (m a b : ℕ) (p n v : Bool) (c : ℕ) → 0 < m → fits (totals_by m a b p n v c) ≡ true → IsNumber (value_of (totals_by m a b p n v c))
  number_by m a b p n true c pm fit = tt
  number_by m a b true true false c pm fit = tt
  number_by m a b true false false c pm fit = tt
  number_by m a b false true false c pm fit = tt
  number_by m a b false false false c pm fit =
      let r : IsLowest a b m = lowest_of a b m pm in
      subst (λ f. IsNumber (Fin f)) (sym r.is) (subst (λ z. IsReduced z r.denominator) (sym (unsigned_abs-with_sign r.negative r.numerator)) (r.lowest_terms (few_enough r) (le_limit r)))
    where
      le_limit : (r : IsLowest a b m) → r.denominator ≤ limit
      le_limit r = let k : r.denominator ≤ m = le_of_dvd pm r.divides in let w : m ≤ limit = leb-true m limit (and_parts (nat_le m limit) (nat_le (a + b) limit) fit).0 in omega (arith, k, w)

      one_of : (s : Bool) (x : ℕ) → x ≡ upper s x + lower s x
      one_of true x = omega arith
      one_of false x = omega arith

      few_enough : (r : IsLowest a b m) → r.numerator ≤ limit
      few_enough r =
          let q : 0 < m / r.denominator = positive_quotient m r.denominator r.divides pm in
          let k : r.numerator ≤ r.numerator * (m / r.denominator) = le-mul_of_pos_right r.numerator q in
          let l : r.numerator * (m / r.denominator) ≤ a + b = subst (λ z. z * (m / r.denominator) ≤ a + b) (sym (one_of r.negative r.numerator)) r.few in
          let w : a + b ≤ limit = leb-true (a + b) limit (and_parts (nat_le m limit) (nat_le (a + b) limit) fit).1 in
          omega (arith, k, l, w)

  positive_denominator : (x : XFrac) → IsNumber x → 0 < denominator_of x
  positive_denominator (Fin f) r = r.positive
  positive_denominator PosInf r = omega arith
  positive_denominator NegInf r = omega arith
  positive_denominator NaN r = omega arith

  totals_positive : (xs : List XFrac) → AllByRecursion IsNumber xs → 0 < (totals xs).multiple
  unfolding totals
  totals_positive [] a = omega arith
  totals_positive (x ∷ xs) a = lcm_positive (denominator_of x) (multiple_of xs) (positive_denominator x a.0) (totals_positive xs a.1)

  sum_told : (t : Totals) (x : XFrac) → (if fits t then Some (value_of t) else None) ≡ Some x → (fits t ≡ true) × (value_of t ≡ x)
  sum_told t x e = by (fits t) e
    where
      by : (b : Bool) → (if b then Some (value_of t) else None) ≡ Some x → (b ≡ true) × (value_of t ≡ x)
      by true e = (refl, (let s : value_of t ≡ x = cc in s))
      by false e = absurd (cc)

  sum_is : (t : Totals) (x : XFrac) → fits t ≡ true → value_of t ≡ x → (if fits t then Some (value_of t) else None) ≡ Some x
  sum_is t x f e = ap (λ b. if b then Some (value_of t) else None) f ∙ ap (λ y. Some y) e

  -- the front of a list that has a sum may be replaced by its sum
  pub front_replaced : JoinedStandsForBoth → AloneStandsForOne → (xs ys : List XFrac) (x s : XFrac) → AllByRecursion IsNumber xs → AllByRecursion IsNumber ys
      → sum_of xs ≡ Some x → sum_of (xs ++ ys) ≡ Some s → IsNumber x × (sum_of (x ∷ ys) ≡ Some s)
  front_replaced both one xs ys x s nx ny sum whole =
      let t : Totals = totals xs in
      let u : Totals = totals ys in
      let pt : 0 < t.multiple = totals_positive xs nx in
      let pu : 0 < u.multiple = totals_positive ys ny in
      let told = sum_told t x sum in
      let number : IsNumber x = subst IsNumber told.1 (number_by t.multiple t.above t.below t.has_positive_infinity t.has_negative_infinity t.has_nan t.count pt told.0) in
      let all = sum_told (joined t u) s (ap (λ z. if fits z then Some (value_of z) else None) (both t u xs ys pt pu refl refl) ∙ whole) in
      let r : IsReplaced t u x = subst (IsReplaced t u) told.1 (replaced_by t.multiple t.above t.below t.has_positive_infinity t.has_negative_infinity t.has_nan t.count u pt pu all.0) in
      (number, ap (λ z. if fits z then Some (value_of z) else None) (sym (both (alone x) u (x ∷ []) ys (positive_denominator x number) pu (one x number) refl)) ∙ sum_is (joined (alone x) u) s r.fits_too (r.value ∙ all.1))
