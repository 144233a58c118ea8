-- Lowest terms of ratios, and how they change with digits.
use Rattle.std.proofs.Common.{◌≡◌, ℕ, ◌+◌, ◌-◌, ◌*◌, ◌/◌, ◌<◌, ◌≤◌, refl, sym, subst, ap, ◌∙◌, arith, false, Some, None, ◌⊎◌, inl, inr}
use Rattle.std.specs.Prelude.{pos, ℤ, Option, cond, option_and_then}
use Rattle.std.specs.Int.{IsGcd}
use Prim.Native.Nat.{◌∣◌}
use Rattle.std.proofs.Math.Nat.{div-mul_cancel, eq_of_mul-eq-mul_right, dvd-mul_left, dvd-sub, one-dvd, lt_of_mul-lt-mul_right, le-mul_of_pos_right, mul-lt-mul_of_pos_right}
use Rattle.std.proofs.lemmas.Bool.{cases_lt}
use Rattle.std.proofs.lemmas.Nat.Gcd.{IsGcd-swap, le_of_dvd, dvd_trans}
use Rattle.xfrac.specs.Divisors.{gcd}
use Rattle.xfrac.specs.Fractions.{limit, lowest, is_within}
use Rattle.xfrac.specs.Forming.{formed}
use Rattle.xfrac.specs.declared.value.XFrac.{XFrac}
use Rattle.xfrac.specs.declared.value.XFrac.TheVariants.{Fin}
use Rattle.xfrac.specs.Gcds.{product_positive, gcd-is, gcd_positive, reduced_apart, positive_quotient, reduced_is, dvd_other_factor}
use Rattle.xfrac.specs.Formed.{lowest-with_sign, formed_outside, formed_within}
use Rattle.frac_text.specs.declared.value.Rest.{Rest}
use Rattle.frac_text.specs.Scales.{IsScaled, rest_in}

-- the lowest terms of a ratio
pub record Terms (a b : ℕ) : Type 0 where
  pub equal : a / gcd a b * b ≡ a * (b / gcd a b)
  pub apart : IsGcd (a / gcd a b) (b / gcd a b) 1
  pub positive : 0 < b / gcd a b

cross : (x y a b g : ℕ) → x * g ≡ a → y * g ≡ b → x * b ≡ a * y
cross x y a b g l r =
    let m : x * (y * g) ≡ (x * g) * y = omega arith in
    ap (λ z. x * z) (sym r) ∙ m ∙ ap (λ z. z * y) l

pub terms : (a b : ℕ) → 0 < b → Terms a b
terms a b h =
    let is = gcd-is a b h in
    record {
      equal = cross (a / gcd a b) (b / gcd a b) a b (gcd a b) (div-mul_cancel (gcd a b) is.0) (div-mul_cancel (gcd a b) is.1);
      apart = reduced_apart a b (gcd a b) (gcd_positive a b h) is;
      positive = positive_quotient b (gcd a b) is.1 h;
    }

pub cross_move : (p q a b c e : ℕ) → 0 < b → p * b ≡ a * q → a * e ≡ c * b → p * e ≡ c * q
cross_move p q a b c e h l r =
    let m : (p * e) * b ≡ (p * b) * e = omega arith in
    let n : (a * q) * e ≡ (a * e) * q = omega arith in
    let k : (c * b) * q ≡ (c * q) * b = omega arith in
    eq_of_mul-eq-mul_right b h (p * e) (c * q) (m ∙ ap (λ z. z * e) l ∙ n ∙ ap (λ z. z * q) r ∙ k)

-- equal ratios have the same lowest terms
pub same_terms : (a b c e : ℕ) → 0 < b → 0 < e → a * e ≡ c * b → (c / gcd c e ≡ a / gcd a b) × (e / gcd c e ≡ b / gcd a b)
same_terms a b c e h k same =
    let t = terms a b h in
    reduced_is (a / gcd a b) (b / gcd a b) c e t.positive k t.apart (cross_move (a / gcd a b) (b / gcd a b) a b c e h t.equal same)

held : ℤ × ℕ → Option XFrac
unfolding is_within
held f = cond (is_within f) (Some (Fin f)) None

pub formed_same : (a b c e : ℕ) → 0 < b → 0 < e → a * e ≡ c * b → formed (pos c) e ≡ formed (pos a) b
unfolding held
formed_same a b c e h k same =
    let t = same_terms a b c e h k same in
    let l : lowest (pos c) e ≡ lowest (pos a) b =
    lowest-with_sign false c e ∙ ap (λ x. (pos x, e / gcd c e)) t.0 ∙ ap (λ y. (pos (a / gcd a b), y)) t.1 ∙ sym (lowest-with_sign false a b) in
    ap held l

-- a number whose digits end in those of a ratio has all of the ratio's denominator
cleared : (n d p q a b c e A T : ℕ) → 0 < b * e → n * b ≡ a * d → p * e ≡ c * q → (A * b + a) * e ≡ c * T * b → A * d * q + n * q ≡ p * T * d
cleared n d p q a b c e A T h l r m =
    let x : n * b * (q * e) ≡ a * d * (q * e) = ap (λ z. z * (q * e)) l in
    let y : p * e * (T * d * b) ≡ c * q * (T * d * b) = ap (λ z. z * (T * d * b)) r in
    let z : (A * b + a) * e * (d * q) ≡ c * T * b * (d * q) = ap (λ z. z * (d * q)) m in
    let both : (A * d * q + n * q) * (b * e) ≡ p * T * d * (b * e) = omega arith in
    eq_of_mul-eq-mul_right (b * e) h (A * d * q + n * q) (p * T * d) both

pub divides : (a b c e A T : ℕ) → 0 < b → 0 < e → (A * b + a) * e ≡ c * T * b → b / gcd a b ∣ e / gcd c e
divides a b c e A T h k same =
    let s = terms a b h in
    let t = terms c e k in
    let n : ℕ = a / gcd a b in
    let d : ℕ = b / gcd a b in
    let p : ℕ = c / gcd c e in
    let q : ℕ = e / gcd c e in
    let sum : A * d * q + n * q ≡ p * T * d = cleared n d p q a b c e A T (product_positive b e h k) s.equal t.equal same in
    let part : p * T * d - A * q * d ≡ n * q = omega arith in
    let all : d ∣ n * q = subst (λ x. d ∣ x) part (dvd-sub d (dvd-mul_left d (p * T)) (dvd-mul_left d (A * q))) in
    dvd_other_factor d n q (IsGcd-swap n d 1 s.apart) all

pub beyond : (a b c e A T : ℕ) → 0 < b → 0 < e → (A * b + a) * e ≡ c * T * b → limit < b / gcd a b → limit < e / gcd c e
beyond a b c e A T h k same out =
    let small : b / gcd a b ≤ e / gcd c e = le_of_dvd (terms c e k).positive (divides a b c e A T h k same) in
    omega arith

pub formed_beyond : (c e : ℕ) → limit < e / gcd c e → formed (pos c) e ≡ None
formed_beyond c e out = formed_outside false c e (c / gcd c e) (e / gcd c e) refl refl (inr out)

-- a value above the limit
pub formed_above : (a b : ℕ) → 0 < b → limit * b < a → formed (pos a) b ≡ None
formed_above a b h above =
    let t = terms a b h in
    let more : a ≤ a * (b / gcd a b) = le-mul_of_pos_right a t.positive in
    let less : limit * b < a / gcd a b * b = omega (arith, t.equal) in
    formed_outside false a b (a / gcd a b) (b / gcd a b) refl refl (inl (lt_of_mul-lt-mul_right b less))

numerator_below : (a b : ℕ) → 0 < b → a < b → a / gcd a b < b / gcd a b
numerator_below a b h less =
    let t = terms a b h in
    let n : ℕ = a / gcd a b in
    let d : ℕ = b / gcd a b in
    let more : a * d < b * d = mul-lt-mul_of_pos_right less t.positive in
    let e : n * b < d * b = omega (arith, t.equal) in
    lt_of_mul-lt-mul_right b e

-- what is formed of a ratio below 1
pub scaled : (a b : ℕ) → 0 < b → a < b → (v : Option XFrac) → formed (pos a) b ≡ v → IsScaled (option_and_then rest_in v) a b
scaled a b h less v is =
    by_size (cases_lt limit (b / gcd a b))
  where
    t : Terms a b
    t = terms a b h

    below : a / gcd a b < b / gcd a b
    below = numerator_below a b h less

    by_size : (limit < b / gcd a b) ⊎ (b / gcd a b ≤ limit) → IsScaled (option_and_then rest_in v) a b
    by_size (inl out) =
        let none : v ≡ None = sym is ∙ formed_beyond a b out in
        subst (λ x. IsScaled (option_and_then rest_in x) a b) (sym none) out
    by_size (inr within) =
        let some : v ≡ Some (Fin (pos (a / gcd a b), b / gcd a b)) = sym is ∙ formed_within false a b (a / gcd a b) (b / gcd a b) refl refl (omega (arith, below)) within in
        subst (λ x. IsScaled (option_and_then rest_in x) a b) (sym some) (record { equal = t.equal; apart = t.apart; below = below; within = within })

-- the same ratio, written otherwise
pub scaled_same : (a b c e : ℕ) → 0 < b → 0 < e → a * e ≡ c * b → (r : Option Rest) → IsScaled r a b → IsScaled r c e
scaled_same a b c e h k same None out = subst (λ x. limit < x) (sym (same_terms a b c e h k same).1) out
scaled_same a b c e h k same (Some rest) is =
    record { equal = cross_move rest.n rest.d a b c e h is.equal same; apart = is.apart; below = is.below; within = is.within }

-- ---- a whole part and a rest

whole_apart : (w n d : ℕ) → IsGcd n d 1 → IsGcd (w * d + n) d 1
whole_apart w n d h = (
  one-dvd (w * d + n),
  one-dvd d,
  λ x left right.
      let part : w * d + n - w * d ≡ n = omega arith in
      let more : x ∣ w * d = dvd_trans x right (dvd-mul_left d w) in
      h.2 x (subst (λ y. x ∣ y) part (dvd-sub x left more)) right,
)

pub joined_outside : (w n d : ℕ) → 0 < d → IsGcd n d 1 → limit < w * d → formed (pos (w * d + n)) d ≡ None
joined_outside w n d h apart out =
    let t = reduced_is (w * d + n) d (w * d + n) d h h (whole_apart w n d apart) refl in
    formed_outside false (w * d + n) d (w * d + n) d t.0 t.1 (inl (omega arith))
