-- Which decimals end.
use Rattle.std.proofs.Common.{◌≡◌, ℕ, zero, suc, ◌+◌, ◌*◌, ◌/◌, ◌%◌, ◌^◌, ◌<◌, ◌≤◌, refl, sym, subst, ap, ◌∙◌, arith, Bool, true, false, ◌==◌, ◌⊎◌, inl, inr}
use Prim.Native.Nat.{◌∣◌}
use Rattle.std.specs.Int.{IsGcd}
use Rattle.std.proofs.Math.Nat.{div-mul_cancel, dvd-mul_right, mul-dvd-mul_right, one-dvd, dvd_antisymm, mul-le-mul_left, pow-suc, mul-dvd-mul, div-le_self, dvd-mul_left_of_dvd, dvd_of_mul-dvd-mul_right, dvd-add, pow-le-pow_right}
use Rattle.std.proofs.lemmas.Nat.Gcd.{IsGcd-from_mod, IsGcd-swap, dvd_trans, dvd_refl, dvd_of_mod-eq-zero, mod-eq-zero_of_dvd}
use Rattle.std.proofs.lemmas.Nat.{pow-add, div-add-mod'}
use Rattle.std.proofs.lemmas.Bool.{eq-eqb, eqb-true, cases_eq}
use Rattle.xfrac.specs.Divisors.{gcd}
use Rattle.xfrac.specs.Fractions.{limit}
use Rattle.xfrac.specs.Gcds.{gcd-is, gcd_positive, dvd_other_factor, apart_product, reduced_apart, positive_quotient}
use Rattle.frac_text.specs.Spellings.{IsStripped, ends}

-- ---- what divides a power of ten divides the power whose exponent its size gives

apart_power : (f k : ℕ) → IsGcd 10 f 1 → IsGcd (10 ^ k) f 1
apart_power f zero h = (one-dvd 1, one-dvd f, λ d left right. left)
apart_power f (suc k) h =
    subst (λ z. IsGcd z f 1) (sym (pow-suc 10 k)) (apart_product (10 ^ k) 10 f (apart_power f k h) h)

one_from_dvd : (d : ℕ) → d ∣ 1 → d ≡ 1
one_from_dvd d h = dvd_antisymm h (one-dvd d)

-- a number that has no divisor in common with 10 divides no power of it but as 1
apart_one : (f k : ℕ) → IsGcd 10 f 1 → f ∣ 10 ^ k → f ≡ 1
apart_one f k h goes = one_from_dvd f ((apart_power f k h).2 f goes (dvd_refl f))

pub bounded_power : (n d k : ℕ) → 0 < d → d ≤ 2 ^ n → d ∣ 10 ^ k → d ∣ 10 ^ n
bounded_power zero d k pd small goes =
    let e : d ≡ 1 = omega arith in
    subst (λ z. z ∣ 10 ^ 0) (sym e) (one-dvd 1)
bounded_power (suc n) d k pd small goes =
    by_size (cases_eq (gcd 10 d) 1) (λ e pe less h. bounded_power n e k pe less h)
  where
    g : ℕ
    g = gcd 10 d

    is : IsGcd 10 d g
    is = gcd-is 10 d pd

    pg : 0 < g
    pg = gcd_positive 10 d pd

    by_size : (g ≡ 1) ⊎ (g ≡ 1 → ⊥) → ((e : ℕ) → 0 < e → e ≤ 2 ^ n → e ∣ 10 ^ k → e ∣ 10 ^ n) → d ∣ 10 ^ suc n
    by_size (inl e) again =
        let same : d ≡ 1 = apart_one d k (subst (λ z. IsGcd 10 d z) e is) goes in
        subst (λ z. z ∣ 10 ^ suc n) (sym same) (one-dvd (10 ^ suc n))
    by_size (inr more) again =
        let whole : d / g * g ≡ d = div-mul_cancel g is.1 in
        let some : 2 ≤ g = omega (arith, pg, more) in
        let twice : d / g * 2 ≤ d / g * g = mul-le-mul_left (d / g) some in
        let long : 2 ^ suc n ≡ 2 ^ n * 2 = pow-suc 2 n in
        let less : d / g ≤ 2 ^ n = omega (arith, twice, whole, long) in
        let part : d / g ∣ d = subst (λ z. d / g ∣ z) whole (dvd-mul_right (d / g) g) in
        let rest : d / g ∣ 10 ^ n = again (d / g) (positive_quotient d g is.1 pd) less (dvd_trans (d / g) part goes) in
        subst (λ z. z ∣ 10 ^ suc n) whole (subst (λ z. d / g * g ∣ z) (sym (pow-suc 10 n)) (mul-dvd-mul (d / g) g rest is.0))

-- ---- a decimal that ever ends does so by its hundredth place

hundred : (d : ℕ) → d ≤ limit → d ≤ 2 ^ 100
hundred d h = omega arith

pub ends_if_ever : (r d k : ℕ) → 0 < d → d ≤ limit → r * 10 ^ k % d ≡ 0 → ends r d ≡ true
ends_if_ever r d k pd small none =
    eq-eqb _ _ (mod-eq-zero_of_dvd d (subst (λ z. z ∣ r * 10 ^ 100) whole_d (subst (λ z. d / g * g ∣ z) back (mul-dvd-mul_right (d / g) much g))))
  where
    g : ℕ
    g = gcd r d

    is : IsGcd r d g
    is = gcd-is r d pd

    pg : 0 < g
    pg = gcd_positive r d pd

    whole_d : d / g * g ≡ d
    whole_d = div-mul_cancel g is.1

    whole_r : r / g * g ≡ r
    whole_r = div-mul_cancel g is.0

    turned : (x y z w : ℕ) → x * y ≡ w → w * z ≡ x * z * y
    turned x y z w e =
        let f : x * y * z ≡ x * z * y = omega arith in ap (λ a. a * z) (sym e) ∙ f

    apart : d / g ∣ 10 ^ k
    apart =
        dvd_other_factor (d / g) (r / g) (10 ^ k) (IsGcd-swap (r / g) (d / g) 1 (reduced_apart r d g pg is))
        (dvd_of_mul-dvd-mul_right (d / g) pg (subst (λ z. z ∣ r / g * 10 ^ k * g) (sym whole_d) (subst (λ z. d ∣ z) (turned (r / g) g (10 ^ k) r whole_r) (dvd_of_mod-eq-zero d none))))

    less : d / g ≤ d
    less = div-le_self d g

    much : d / g ∣ r / g * 10 ^ 100
    much = dvd-mul_left_of_dvd (d / g) (bounded_power 100 (d / g) k (positive_quotient d g is.1 pd) (hundred (d / g) (omega (arith, less))) apart) (r / g)

    back : r / g * 10 ^ 100 * g ≡ r * 10 ^ 100
    back = sym (turned (r / g) g (10 ^ 100) r whole_r)

-- ---- without twos and fives

apart_two : (f : ℕ) → (f % 2 ≡ 0 → ⊥) → IsGcd 2 f 1
apart_two f h =
    let one : f % 2 ≡ 1 = omega arith in
    IsGcd-swap f 2 1 (IsGcd-from_mod f 2 1 (subst (λ z. IsGcd 2 z 1) (sym one) (one-dvd 2, one-dvd 1, λ d left right. right)))

apart_five : (f : ℕ) → (f % 5 ≡ 0 → ⊥) → IsGcd 5 f 1
apart_five f h =
    IsGcd-swap f 5 1 (IsGcd-from_mod f 5 1 (by_rest (f % 5) (omega arith) h))
  where
    one : (a : ℕ) → IsGcd a 1 1
    one a = (one-dvd a, one-dvd 1, λ d left right. right)

    by_rest : (x : ℕ) → x < 5 → (x ≡ 0 → ⊥) → IsGcd 5 x 1
    by_rest zero small some = absurd (some refl)
    by_rest (suc zero) small some = one 5
    by_rest (suc (suc zero)) small some = IsGcd-from_mod 5 2 1 (one 2)
    by_rest (suc (suc (suc zero))) small some = IsGcd-from_mod 5 3 1 (IsGcd-from_mod 3 2 1 (one 2))
    by_rest (suc (suc (suc (suc zero)))) small some = IsGcd-from_mod 5 4 1 (one 4)
    by_rest (suc (suc (suc (suc (suc x))))) small some = absurd (omega arith)

pub ends_exact : (r d e f : ℕ) → 0 < d → d ≤ limit → IsGcd r d 1 → IsStripped 2 d e → IsStripped 5 e f → (f == 1) ≡ ends r d
ends_exact r d e f pd small apart twos fives =
    by_both (f == 1) (ends r d)
    (λ one. ends_if_ever r d (twos.times + fives.times) pd small (mod-eq-zero_of_dvd d (dvd-mul_left_of_dvd d (ended (eqb-true f 1 one)) r)))
    (λ end. eq-eqb f 1 (only (dvd_other_factor d r (10 ^ 100) (IsGcd-swap r d 1 apart) (dvd_of_mod-eq-zero d (eqb-true _ _ end)))))
  where
    by_both : (x y : Bool) → (x ≡ true → y ≡ true) → (y ≡ true → x ≡ true) → x ≡ y
    by_both true true g h = refl
    by_both false false g h = refl
    by_both true false g h = sym (g refl)
    by_both false true g h = h refl

    fives_goes : f ∣ e
    fives_goes = subst (λ z. f ∣ z) (sym fives.product) (dvd-mul_right f (5 ^ fives.times))

    twos_goes : e ∣ d
    twos_goes = subst (λ z. e ∣ z) (sym twos.product) (dvd-mul_right e (2 ^ twos.times))

    two_goes : (k : ℕ) → 2 ^ k ∣ 10 ^ k
    two_goes zero = dvd_refl 1
    two_goes (suc k) = subst (λ z. z ∣ 10 ^ suc k) (sym (pow-suc 2 k)) (subst (λ z. 2 ^ k * 2 ∣ z) (sym (pow-suc 10 k)) (mul-dvd-mul (2 ^ k) 2 (two_goes k) (dvd_of_mod-eq-zero 2 refl)))

    five_goes : (k : ℕ) → 5 ^ k ∣ 10 ^ k
    five_goes zero = dvd_refl 1
    five_goes (suc k) = subst (λ z. z ∣ 10 ^ suc k) (sym (pow-suc 5 k)) (subst (λ z. 5 ^ k * 5 ∣ z) (sym (pow-suc 10 k)) (mul-dvd-mul (5 ^ k) 5 (five_goes k) (dvd_of_mod-eq-zero 5 refl)))

    ended : f ≡ 1 → d ∣ 10 ^ (twos.times + fives.times)
    ended one =
        let rest : e ≡ 5 ^ fives.times = fives.product ∙ ap (λ z. z * 5 ^ fives.times) one ∙ omega arith in
        let all : d ≡ 2 ^ twos.times * 5 ^ fives.times = twos.product ∙ ap (λ z. z * 2 ^ twos.times) rest ∙ omega arith in
        subst (λ z. z ∣ 10 ^ (twos.times + fives.times)) (sym all)
        (subst (λ z. 2 ^ twos.times * 5 ^ fives.times ∣ z) (sym (pow-add 10 twos.times fives.times)) (mul-dvd-mul (2 ^ twos.times) (5 ^ fives.times) (two_goes twos.times) (five_goes fives.times)))

    odd : f % 2 ≡ 0 → ⊥
    odd h = twos.left (mod-eq-zero_of_dvd 2 (dvd_trans 2 (dvd_of_mod-eq-zero 2 h) fives_goes))

    only : d ∣ 10 ^ 100 → f ≡ 1
    only goes = apart_one f 100 (apart_product 2 5 f (apart_two f odd) (apart_five f fives.left)) (dvd_trans f fives_goes (dvd_trans e twos_goes goes))

-- ---- steps

pub one_more : (p d rest q : ℕ) → (k : ℕ) × (d ≡ rest * p ^ k) → q * p ≡ rest → (k : ℕ) × (d ≡ q * p ^ k)
one_more p d rest q so_far is =
    let turned : q * p * p ^ so_far.0 ≡ q * (p ^ so_far.0 * p) = omega arith in
    (suc so_far.0, so_far.1 ∙ ap (λ z. z * p ^ so_far.0) (sym is) ∙ turned ∙ ap (λ z. q * z) (sym (pow-suc p so_far.0)))

pub rest_apart : (m d r : ℕ) → IsGcd m d 1 → r ≡ m % d → IsGcd r d 1
rest_apart m d r h is = (
  one-dvd r,
  one-dvd d,
  λ x left right.
      let parts : m / d * d + r ≡ m = ap (λ z. m / d * d + z) is ∙ div-add-mod' m d in
      h.2 x (subst (λ z. x ∣ z) parts (dvd-add x (dvd-mul_left_of_dvd x right (m / d)) left)) right,
)

pub ten_below : (k : ℕ) → k ≤ 30 → 10 ^ k ≤ limit
ten_below k h = pow-le-pow_right (omega arith) h
