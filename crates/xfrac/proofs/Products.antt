-- Products, powers and remainders of ratios in lowest terms.
use Rattle.std.proofs.Common.{◌≡◌, ℕ, ◌+◌, ◌*◌, ◌/◌, ◌%◌, ◌^◌, ◌<◌, ◌≤◌, zero, suc, refl, sym, subst, ap, ◌∙◌, arith, Bool, true, false, ◌==◌, ◌&&◌, Some, None, ◌⊎◌, inl, inr}
use Rattle.std.specs.Prelude.{ℤ, pos, negsuc, neg_ℤ, ◌*ℤ◌, int_rem, int_lt, unsigned_abs, nat_le}
use Prim.Native.Nat.{◌∣◌}
use Rattle.std.specs.Int.{IsGcd, int_pow}
use Rattle.std.proofs.Math.Nat.{div-mul_cancel, one-dvd, zero-mod, pow-suc, pow-zero}
use Rattle.std.proofs.lemmas.Nat.{pow-add, div-add-mod', mod_below}
use Rattle.std.proofs.lemmas.Nat.Gcd.{IsGcd-swap}
use Rattle.std.proofs.lemmas.Bool.{cond-true, cond-false, eq-eqb, ne_eqb, cases_eq, ltb-true, le-leb, and_from, true≢false}
use Rattle.xfrac.specs.Divisors.{gcd, lcm}
use Rattle.xfrac.specs.Fractions.{IsReduced, limit, lowest, with_sign}
use Rattle.xfrac.specs.Forming.{formed}
use Rattle.xfrac.specs.Kinds.{is_zero}
use Rattle.xfrac.specs.Arithmetic.{reciprocal, exact_power, fraction_remainder}
use Rattle.xfrac.specs.declared.value.XFrac.TheVariants.{Fin}
use Rattle.xfrac.specs.Gcds.{product_positive, gcd-is, gcd_positive, reduced_apart, positive_quotient, apart_product, apart_below, reduced_is, dvd-quotient}
use Rattle.xfrac.specs.Formed.{formed_outside, formed_within, unsigned_abs-with_sign}

-- what is left of two ratios when the factors across are divided out is their product in lowest terms
record IsProduct (m d n e p q : ℕ) : Type 0 where
  left : (m * n) / gcd (m * n) (d * e) ≡ p
  right : (d * e) / gcd (m * n) (d * e) ≡ q
  positive : 0 < q
  apart : IsGcd p q 1

cross_product : (m d n e g h m' e' n' d' : ℕ) → m' * g ≡ m → e' * g ≡ e → n' * h ≡ n → d' * h ≡ d → m' * n' * (d * e) ≡ (m * n) * (d' * e')
cross_product m d n e g h m' e' n' d' a b c f =
    let k : m' * n' * (d' * h * (e' * g)) ≡ (m' * g * (n' * h)) * (d' * e') = omega arith in
    ap (λ z. m' * n' * (z * e)) (sym f)
    ∙ ap (λ z. m' * n' * (d' * h * z)) (sym b)
    ∙ k
    ∙ ap (λ z. z * (n' * h) * (d' * e')) a
    ∙ ap (λ z. m * z * (d' * e')) c

is_product : (m d n e : ℕ) → IsReduced m d → IsReduced n e → IsProduct m d n e (m / gcd m e * (n / gcd n d)) (d / gcd n d * (e / gcd m e))
is_product m d n e a b =
    let g : IsGcd m e (gcd m e) = gcd-is m e b.positive in
    let h : IsGcd n d (gcd n d) = gcd-is n d a.positive in
    let pg : 0 < gcd m e = gcd_positive m e b.positive in
    let ph : 0 < gcd n d = gcd_positive n d a.positive in
    let ml : m / gcd m e * gcd m e ≡ m = div-mul_cancel (gcd m e) g.0 in
    let el : e / gcd m e * gcd m e ≡ e = div-mul_cancel (gcd m e) g.1 in
    let nl : n / gcd n d * gcd n d ≡ n = div-mul_cancel (gcd n d) h.0 in
    let dl : d / gcd n d * gcd n d ≡ d = div-mul_cancel (gcd n d) h.1 in
    let m' : ℕ = m / gcd m e in
    let e' : ℕ = e / gcd m e in
    let n' : ℕ = n / gcd n d in
    let d' : ℕ = d / gcd n d in
    let md : IsGcd m' d' 1 = apart_within m d m' d' (dvd-quotient m (gcd m e) g.0) (dvd-quotient d (gcd n d) h.1) a.lowest in
    let ne : IsGcd n' e' 1 = apart_within n e n' e' (dvd-quotient n (gcd n d) h.0) (dvd-quotient e (gcd m e) g.1) b.lowest in
    let me : IsGcd m' e' 1 = reduced_apart m e (gcd m e) pg g in
    let nd : IsGcd n' d' 1 = reduced_apart n d (gcd n d) ph h in
    let top : IsGcd (m' * n') (d' * e') 1 =
    IsGcd-swap (d' * e') (m' * n') 1
    (apart_product d' e' (m' * n')
    (IsGcd-swap (m' * n') d' 1 (apart_product m' n' d' md nd))
    (IsGcd-swap (m' * n') e' 1 (apart_product m' n' e' me ne))) in
    let some : 0 < d' * e' = product_positive d' e' (positive_quotient d (gcd n d) h.1 a.positive) (positive_quotient e (gcd m e) g.1 b.positive) in
    let both = reduced_is (m' * n') (d' * e') (m * n) (d * e) some (product_positive d e a.positive b.positive) top (cross_product m d n e (gcd m e) (gcd n d) m' e' n' d' ml el nl dl) in
    record { left = both.0; right = both.1; positive = some; apart = top }
  where
    apart_within : (a b x y : ℕ) → x ∣ a → y ∣ b → IsGcd a b 1 → IsGcd x y 1
    apart_within a b x y p q h = IsGcd-swap y x 1 (apart_below y b x q (IsGcd-swap x b 1 (apart_below x a b p h)))

module _ (m d n e : ℕ) (l r : ℕ × ℕ) (a : IsReduced m d) (b : IsReduced n e) (le : l ≡ (m / gcd m e, e / gcd m e)) (re : r ≡ (n / gcd n d, d / gcd n d)) where
  parts : IsProduct m d n e (l.0 * r.0) (r.1 * l.1)
  parts =
      subst (λ z. IsProduct m d n e (z.0 * r.0) (r.1 * z.1)) (sym le) (subst (λ z. IsProduct m d n e (m / gcd m e * z.0) (z.1 * (e / gcd m e))) (sym re) (is_product m d n e a b))

  pub product_outside : (s : Bool) → (limit < l.0 * r.0) ⊎ (limit < r.1 * l.1) → formed (with_sign s (m * n)) (d * e) ≡ None
  product_outside s h = formed_outside s (m * n) (d * e) _ _ parts.left parts.right h

  pub product_within : (s : Bool) (p q : ℕ) → p ≡ l.0 * r.0 → q ≡ r.1 * l.1 → p ≤ limit → q ≤ limit → formed (with_sign s (m * n)) (d * e) ≡ Some (Fin (with_sign s p, q))
  product_within s p q x y h k =
      formed_within s (m * n) (d * e) p q (parts.left ∙ sym x) (parts.right ∙ sym y) h k

  pub product_reduced : (p q : ℕ) → p ≡ l.0 * r.0 → q ≡ r.1 * l.1 → p ≤ limit → q ≤ limit → IsReduced p q
  product_reduced p q x y h k =
      record {
        positive = subst (λ z. 0 < z) (sym y) parts.positive;
        numerator_within = h;
        denominator_within = k;
        lowest = subst (λ z. IsGcd z q 1) (sym x) (subst (λ z. IsGcd (l.0 * r.0) z 1) (sym y) parts.apart);
      }

-- ---- signs

negated_zero : (m k : ℕ) → neg_ℤ (pos (0 * k)) ≡ pos (0 * k)
negated_zero m k = ap (λ z. neg_ℤ (pos z)) nothing ∙ sym (ap pos nothing)
  where
    nothing : 0 * k ≡ 0
    nothing = omega arith

pub with_sign-times_pos : (s : Bool) (m k : ℕ) → with_sign s m *ℤ pos k ≡ with_sign s (m * k)
with_sign-times_pos false m k = refl
with_sign-times_pos true zero k = sym (negated_zero 0 k)
with_sign-times_pos true (suc m) k = refl

-- the rest of two magnitudes has the first one's sign
pub int_rem-with_sign : (s t : Bool) (x y : ℕ) → int_rem (with_sign s x) (with_sign t y) ≡ with_sign s (x % y)
int_rem-with_sign false t x y = ap (λ z. pos (x % z)) (unsigned_abs-with_sign t y)
int_rem-with_sign true t zero y =
    ap pos (ap (λ z. 0 % z) (unsigned_abs-with_sign t y) ∙ zero-mod y) ∙ sym (ap (λ z. neg_ℤ (pos z)) (zero-mod y))
int_rem-with_sign true t (suc x) y = ap (λ z. neg_ℤ (pos (suc x % z))) (unsigned_abs-with_sign t y)

-- ---- remainders

remainder_within : (s t : Bool) (m d n e : ℕ) → lcm d e ≤ limit → m * (lcm d e / d) ≤ limit → n * (lcm d e / e) ≤ limit → fraction_remainder (with_sign s m, d) (with_sign t n, e) ≡ Some (Fin (lowest (with_sign s ((m * (lcm d e / d)) % (n * (lcm d e / e)))) (lcm d e)))
remainder_within s t m d n e h p q =
    let l : with_sign s m *ℤ pos (lcm d e / d) ≡ with_sign s (m * (lcm d e / d)) = with_sign-times_pos s m (lcm d e / d) in
    let r : with_sign t n *ℤ pos (lcm d e / e) ≡ with_sign t (n * (lcm d e / e)) = with_sign-times_pos t n (lcm d e / e) in
    let x : nat_le (unsigned_abs (with_sign s m *ℤ pos (lcm d e / d))) limit ≡ true =
    ap (λ z. nat_le (unsigned_abs z) limit) l ∙ ap (λ z. nat_le z limit) (unsigned_abs-with_sign s (m * (lcm d e / d))) ∙ le-leb _ _ p in
    let y : nat_le (unsigned_abs (with_sign t n *ℤ pos (lcm d e / e))) limit ≡ true =
    ap (λ z. nat_le (unsigned_abs z) limit) r ∙ ap (λ z. nat_le z limit) (unsigned_abs-with_sign t (n * (lcm d e / e))) ∙ le-leb _ _ q in
    cond-true _ _ _ (and_from _ _ (le-leb _ _ h) (and_from _ _ x y))
    ∙ ap (λ z. Some (Fin (lowest (int_rem z (with_sign t n *ℤ pos (lcm d e / e))) (lcm d e)))) l
    ∙ ap (λ z. Some (Fin (lowest (int_rem (with_sign s (m * (lcm d e / d))) z) (lcm d e)))) r
    ∙ ap (λ z. Some (Fin (lowest z (lcm d e)))) (int_rem-with_sign s t (m * (lcm d e / d)) (n * (lcm d e / e)))

pub remainder_is : (a b : ℤ × ℕ) (s t : Bool) (m d n e w k l x y : ℕ) → a ≡ (with_sign s m, d) → b ≡ (with_sign t n, e) → w ≡ lcm d e → w ≤ limit → k ≡ w / d → l ≡ w / e → x ≡ m * k → y ≡ n * l → x ≤ limit → y ≤ limit → fraction_remainder a b ≡ Some (Fin (lowest (with_sign s (x % y)) w))
remainder_is a b s t m d n e w k l x y ea eb ew h ek el ex ey p q =
    let fx : x ≡ m * (lcm d e / d) = ex ∙ ap (λ z. m * z) (ek ∙ ap (λ z. z / d) ew) in
    let fy : y ≡ n * (lcm d e / e) = ey ∙ ap (λ z. n * z) (el ∙ ap (λ z. z / e) ew) in
    ap (λ v. fraction_remainder v b) ea
    ∙ ap (λ v. fraction_remainder (with_sign s m, d) v) eb
    ∙ remainder_within s t m d n e (subst (λ z. z ≤ limit) ew h) (subst (λ z. z ≤ limit) fx p) (subst (λ z. z ≤ limit) fy q)
    ∙ ap (λ z. Some (Fin (lowest (with_sign s (z % (n * (lcm d e / e)))) (lcm d e)))) (sym fx)
    ∙ ap (λ z. Some (Fin (lowest (with_sign s (x % z)) (lcm d e)))) (sym fy)
    ∙ ap (λ z. Some (Fin (lowest (with_sign s (x % y)) z))) (sym ew)

pub not_zero : (b : ℤ × ℕ) (t : Bool) (n e : ℕ) → is_zero (Fin b) ≡ false → b ≡ (with_sign t n, e) → 0 < n
not_zero b t zero e h k = absurd (true≢false (sym (nothing t) ∙ ap (λ v. is_zero (Fin v)) (sym k) ∙ h))
  where
    nothing : (t : Bool) → is_zero (Fin (with_sign t 0, e)) ≡ true
    nothing true = refl
    nothing false = refl
not_zero b t (suc n) e h k = omega arith

-- a divisor of a positive number goes into it at least once
pub quotient_positive : (d w : ℕ) → 0 < w → d ∣ w → 0 < w / d
quotient_positive d w h k = positive_quotient w d k h

-- ---- powers

apart_power : (a c k : ℕ) → IsGcd a c 1 → IsGcd (a ^ k) c 1
apart_power a c zero h =
    subst (λ z. IsGcd z c 1) (sym (pow-zero a)) (one-dvd 1, one-dvd c, λ d left right. left)
apart_power a c (suc k) h =
    subst (λ z. IsGcd z c 1) (sym (pow-suc a k)) (apart_product (a ^ k) a c (apart_power a c k h) h)

pub apart_powers : (a b k : ℕ) → IsGcd a b 1 → IsGcd (a ^ k) (b ^ k) 1
apart_powers a b k h =
    IsGcd-swap (b ^ k) (a ^ k) 1 (apart_power b (a ^ k) k (IsGcd-swap (a ^ k) b 1 (apart_power a b k h)))

pub power_positive : (a k : ℕ) → 0 < a → 0 < a ^ k
power_positive a zero h = omega (arith, pow-zero a)
power_positive a (suc k) h =
    subst (λ z. 0 < z) (sym (pow-suc a k)) (product_positive (a ^ k) a (power_positive a k h) h)

pub power_halves : (b k : ℕ) → b ^ k ≡ b ^ (k / 2) * b ^ (k / 2) * b ^ (k % 2)
power_halves b k =
    let e : k / 2 * 2 + k % 2 ≡ k = div-add-mod' k 2 in
    let f : k / 2 + k / 2 + k % 2 ≡ k = omega arith in
    ap (λ z. b ^ z) (sym f) ∙ pow-add b (k / 2 + k / 2) (k % 2) ∙ ap (λ z. z * b ^ (k % 2)) (pow-add b (k / 2) (k / 2))

grows : (h r : ℕ) → 0 < h → 0 < r → (h ≤ h * h * r) × (h * h ≤ h * h * r)
grows zero r p q = absurd (omega arith)
grows (suc h) zero p q = absurd (omega arith)
grows (suc h) (suc r) p q = (omega arith, omega arith)

-- where a square on the way is above a bound, so is the power
pub power_above : (b k n : ℕ) → 0 < b → b ^ k ≤ n → (b ^ (k / 2) ≤ n) × (b ^ (k / 2) * b ^ (k / 2) ≤ n)
power_above b k n h p =
    let e : b ^ k ≡ b ^ (k / 2) * b ^ (k / 2) * b ^ (k % 2) = power_halves b k in
    let g = grows (b ^ (k / 2)) (b ^ (k % 2)) (power_positive b (k / 2) h) (power_positive b (k % 2) h) in
    let u : b ^ (k / 2) ≤ b ^ (k / 2) * b ^ (k / 2) * b ^ (k % 2) = g.0 in
    let v : b ^ (k / 2) * b ^ (k / 2) ≤ b ^ (k / 2) * b ^ (k / 2) * b ^ (k % 2) = g.1 in
    (omega arith, omega arith)

pub power_odd : (b k : ℕ) → k % 2 ≡ 1 → b ^ k ≡ b ^ (k / 2) * b ^ (k / 2) * b
power_odd b k h =
    let one : b ^ 1 ≡ b = pow-suc b 0 ∙ ap (λ z. z * b) (pow-zero b) ∙ omega arith in
    power_halves b k ∙ ap (λ z. b ^ (k / 2) * b ^ (k / 2) * z) (ap (λ z. b ^ z) h ∙ one)

pub power_even : (b k : ℕ) → (k % 2 ≡ 1 → ⊥) → b ^ k ≡ b ^ (k / 2) * b ^ (k / 2)
power_even b k h =
    let less : k % 2 < 2 = mod_below k 2 (omega arith) in
    let even : k % 2 ≡ 0 = omega arith in
    power_halves b k ∙ ap (λ z. b ^ (k / 2) * b ^ (k / 2) * z) (ap (λ z. b ^ z) even ∙ pow-zero b) ∙ omega arith

-- powers of a ratio in lowest terms are in lowest terms
pub raised : (m d k : ℕ) → 0 < d → IsGcd m d 1 → (m ^ k / gcd (m ^ k) (d ^ k) ≡ m ^ k) × (d ^ k / gcd (m ^ k) (d ^ k) ≡ d ^ k)
raised m d k h a =
    reduced_is (m ^ k) (d ^ k) (m ^ k) (d ^ k) (power_positive d k h) (power_positive d k h) (apart_powers m d k a) refl

pub raised_reduced : (m d k p q : ℕ) → 0 < d → IsGcd m d 1 → p ≡ m ^ k → q ≡ d ^ k → p ≤ limit → q ≤ limit → IsReduced p q
raised_reduced m d k p q h a e f x y =
    record {
      positive = subst (λ z. 0 < z) (sym f) (power_positive d k h);
      numerator_within = x;
      denominator_within = y;
      lowest = subst (λ z. IsGcd z q 1) (sym e) (subst (λ z. IsGcd (m ^ k) z 1) (sym f) (apart_powers m d k a));
    }

-- the power of a number with a sign
int_pow-with_sign : (s : Bool) (m k : ℕ) → 0 < m → int_pow (with_sign s m) k ≡ with_sign (s && k % 2 == 1) (m ^ k)
int_pow-with_sign false m k h = refl
int_pow-with_sign true zero k h = absurd (omega arith)
int_pow-with_sign true (suc m) k h =
    let less : k % 2 < 2 = mod_below k 2 (omega arith) in
    elim (cases_eq (k % 2) 1) [
      | inl odd ↦
          let e : (k % 2 == 0) ≡ false = ne_eqb _ _ (λ z. omega arith) in
          cond-false _ _ _ e ∙ ap (λ b. with_sign b (suc m ^ k)) (sym (eq-eqb _ _ odd))
      | inr even ↦
          let e : (k % 2 == 0) ≡ true = eq-eqb _ _ (omega arith) in
          cond-true _ _ _ e ∙ ap (λ b. with_sign b (suc m ^ k)) (sym (ne_eqb _ _ even))
    ]

pub exact_power_up : (a : ℤ × ℕ) (s : Bool) (m d : ℕ) (z : ℤ) (k : ℕ) → a ≡ (with_sign s m, d) → 0 < m → int_lt z (pos 0) ≡ false → k ≡ unsigned_abs z → exact_power a z ≡ formed (with_sign (s && k % 2 == 1) (m ^ k)) (d ^ k)
exact_power_up a s m d (pos n) k e h l f =
    ap (λ v. exact_power v (pos n)) e
    ∙ ap (λ v. formed v (d ^ n)) (int_pow-with_sign s m n h)
    ∙ ap (λ j. formed (with_sign (s && j % 2 == 1) (m ^ j)) (d ^ j)) (sym f)
exact_power_up a s m d (negsuc n) k e h l f = absurd (cc)

reciprocal-with_sign : (s : Bool) (m d : ℕ) → 0 < m → reciprocal (with_sign s m, d) ≡ (with_sign s d, m)
reciprocal-with_sign false m d h = refl
reciprocal-with_sign true zero d h = absurd (omega arith)
reciprocal-with_sign true (suc m) d h = refl

pub exact_power_down : (a : ℤ × ℕ) (s : Bool) (m d : ℕ) (z : ℤ) (k : ℕ) → a ≡ (with_sign s m, d) → 0 < m → 0 < d → int_lt z (pos 0) ≡ true → k ≡ unsigned_abs z → exact_power a z ≡ formed (with_sign (s && k % 2 == 1) (d ^ k)) (m ^ k)
exact_power_down a s m d (pos n) k e h p l f = absurd (omega (arith, ltb-true n 0 l))
exact_power_down a s m d (negsuc n) k e h p l f =
    ap (λ v. exact_power v (negsuc n)) e
    ∙ ap (λ r. formed (int_pow r.0 (suc n)) (r.1 ^ suc n)) (reciprocal-with_sign s m d h)
    ∙ ap (λ v. formed v (m ^ suc n)) (int_pow-with_sign s d (suc n) p)
    ∙ ap (λ j. formed (with_sign (s && j % 2 == 1) (d ^ j)) (m ^ j)) (sym f)
