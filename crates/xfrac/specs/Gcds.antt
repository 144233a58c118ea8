-- What divides what: lemmas of greatest common divisors and lowest terms that the crates above cite too.
use Rattle.std.proofs.Common.{◌≡◌, ℕ, ◌+◌, ◌*◌, ◌/◌, ◌%◌, ◌<◌, ◌≤◌, zero, suc, refl, sym, subst, ap, ◌∙◌, arith, true, inl, inr, ◌==◌, ◌&&◌}
use Prim.Native.Nat.{◌∣◌}
use Rattle.std.specs.Int.{IsGcd}
use Rattle.std.proofs.lemmas.Nat.Gcd.{IsGcd-from_zero, IsGcd-from_mod, same_from_IsGcd, dvd_trans, dvd_antisymm, le_of_dvd, dvd_of_mod-eq-zero, mod-eq-zero_of_dvd, IsGcd-swap}
use Rattle.std.proofs.lemmas.Nat.{mod_below, mod-mul-add, div-add-mod'}
use Rattle.std.proofs.lemmas.Bool.{cases_eq, and_parts, eqb-true, cases_Bool, and_from, eq-eqb, both_ways, cond-true, cond-false}
use Rattle.std.proofs.Math.Nat.{div-mul_cancel, dvd-mul_left, dvd-mul_right, mul-dvd-mul_right, dvd_of_mul-dvd-mul_right, one-dvd, pos_of_dvd_of_pos, eq_of_mul-eq-mul_right, mul-lt-mul_of_pos_right}
use Rattle.xfrac.specs.Divisors.{greatest_divisor, gcd}

-- a product of two numbers above 0 is above 0
pub product_positive : (a b : ℕ) → 0 < a → 0 < b → 0 < a * b
product_positive zero b p q = absurd (omega arith)
product_positive (suc a) zero p q = absurd (omega arith)
product_positive (suc a) (suc b) p q = omega arith

-- a remainder scales with its two numbers
mod_scaled : (a b k : ℕ) → 0 < b → (a * k) % (b * k) ≡ a % b * k
mod_scaled a b zero h =
    let e : a * 0 ≡ 0 = omega arith in
    let f : b * 0 ≡ 0 = omega arith in
    let g : a % b * 0 ≡ 0 = omega arith in
    rw (e, f, g)
mod_scaled a b (suc k) h =
    let below : a % b < b = mod_below a b h in
    let less : a % b * suc k < b * suc k = mul-lt-mul_of_pos_right below (omega arith) in
    let parts : a / b * b + a % b ≡ a = div-add-mod' a b in
    let whole : (a / b * b + a % b) * suc k ≡ a / b * (b * suc k) + a % b * suc k = omega arith in
    subst (λ x. (x * suc k) % (b * suc k) ≡ a % b * suc k) parts (subst (λ x. x % (b * suc k) ≡ a % b * suc k) (sym whole) (mod-mul-add (a / b) (b * suc k) (a % b * suc k) less))

-- a greatest common divisor that scales with its two numbers
record ScalingGcd (a b : ℕ) : Type 0 where
  divisor : ℕ
  is : IsGcd a b divisor
  scaled : (k : ℕ) → IsGcd (a * k) (b * k) (divisor * k)

scaling_gcd : (n a b : ℕ) → b ≤ n → ScalingGcd a b
scaling_gcd n a zero h =
    record { divisor = a; is = IsGcd-from_zero a 0 refl; scaled = λ k. IsGcd-from_zero (a * k) (0 * k) (omega arith) }
scaling_gcd zero a (suc b) h = absurd (omega arith)
scaling_gcd (suc n) a (suc b) h =
    let below : a % suc b < suc b = mod_below a (suc b) (omega arith) in
    let r : ScalingGcd (suc b) (a % suc b) = scaling_gcd n (suc b) (a % suc b) (omega arith) in
    record {
      divisor = r.divisor;
      is = IsGcd-from_mod a (suc b) r.divisor r.is;
      scaled = λ k. IsGcd-from_mod (a * k) (suc b * k) (r.divisor * k) (subst (λ x. IsGcd (suc b * k) x (r.divisor * k)) (sym (mod_scaled a (suc b) k (omega arith))) (r.scaled k));
    }

pub IsGcd-scaled : (a b g k : ℕ) → IsGcd a b g → IsGcd (a * k) (b * k) (g * k)
IsGcd-scaled a b g k h =
    let r : ScalingGcd a b = scaling_gcd b a b (omega arith) in
    subst (λ x. IsGcd (a * k) (b * k) (x * k)) (same_from_IsGcd a b r.divisor g r.is h) (r.scaled k)

-- the definition by search is the greatest common divisor
search_finds : (a b g : ℕ) → 0 < g → IsGcd a b g → (n : ℕ) → g ≤ n → greatest_divisor a b n ≡ g
unfolding greatest_divisor
search_finds a b g positive h zero k = absurd (omega arith)
search_finds a b g positive h (suc n) k =
    elim (cases_Bool (a % suc n == 0 && b % suc n == 0)) [
      | inl e ↦
          let parts : ((a % suc n == 0) ≡ true) × ((b % suc n == 0) ≡ true) = and_parts _ _ e in
          let below : suc n ≤ g = le_of_dvd positive (h.2 (suc n) (dvd_of_mod-eq-zero (suc n) (eqb-true _ _ parts.0)) (dvd_of_mod-eq-zero (suc n) (eqb-true _ _ parts.1))) in
          cond-true _ _ _ e ∙ omega arith
      | inr e ↦
          elim (cases_eq g (suc n)) [
            | inl same ↦
                let both : (a % suc n == 0 && b % suc n == 0) ≡ true =
                subst (λ x. (a % x == 0 && b % x == 0) ≡ true) same (and_from _ _ (eq-eqb _ _ (mod-eq-zero_of_dvd g h.0)) (eq-eqb _ _ (mod-eq-zero_of_dvd g h.1))) in
                absurd (both_ways _ e both)
            | inr other ↦ cond-false _ _ _ e ∙ search_finds a b g positive h n (omega arith)
          ]
    ]

pub gcd-unique : (a b g : ℕ) → 0 < b → IsGcd a b g → gcd a b ≡ g
unfolding gcd
gcd-unique a b g positive h =
    search_finds a b g (pos_of_dvd_of_pos h.1 positive) h b (le_of_dvd positive h.1)

pub gcd-is : (a b : ℕ) → 0 < b → IsGcd a b (gcd a b)
gcd-is a b positive =
    let r : ScalingGcd a b = scaling_gcd b a b (omega arith) in
    subst (IsGcd a b) (sym (gcd-unique a b r.divisor positive r.is)) r.is

pub gcd_positive : (a b : ℕ) → 0 < b → 0 < gcd a b
gcd_positive a b h = pos_of_dvd_of_pos (gcd-is a b h).1 h

-- what divides a product and has no divisor in common with one factor divides the other
pub dvd_other_factor : (d a b : ℕ) → IsGcd d a 1 → d ∣ a * b → d ∣ b
dvd_other_factor d a b h k =
    let g : IsGcd (d * b) (a * b) (1 * b) = IsGcd-scaled d a 1 b h in
    subst (λ x. d ∣ x) (omega arith) (g.2 d (dvd-mul_right d b) k)

-- a divisor of one of two numbers that have none in common has none in common with the other
pub apart_below : (d a b : ℕ) → d ∣ a → IsGcd a b 1 → IsGcd d b 1
apart_below d a b k h = (one-dvd d, one-dvd b, λ e left right. h.2 e (dvd_trans e left k) right)

-- a product of two numbers that each have no divisor in common with a third has none either
pub apart_product : (a b c : ℕ) → IsGcd a c 1 → IsGcd b c 1 → IsGcd (a * b) c 1
apart_product a b c h k = (
  one-dvd (a * b),
  one-dvd c,
  λ d left right. k.2 d (dvd_other_factor d a b (apart_below d c a right (IsGcd-swap a c 1 h)) left) right,
)

-- what is left of two numbers when both are divided by their greatest common divisor
pub reduced_apart : (a b g : ℕ) → 0 < g → IsGcd a b g → IsGcd (a / g) (b / g) 1
reduced_apart a b g p h = (
  one-dvd (a / g),
  one-dvd (b / g),
  λ d left right.
      let l : d * g ∣ a = subst (λ z. d * g ∣ z) (div-mul_cancel g h.0) (mul-dvd-mul_right d left g) in
      let r : d * g ∣ b = subst (λ z. d * g ∣ z) (div-mul_cancel g h.1) (mul-dvd-mul_right d right g) in
      dvd_of_mul-dvd-mul_right d p (subst (λ z. d * g ∣ z) (omega arith) (h.2 (d * g) l r)),
)

-- lowest terms are unique
pub lowest_unique : (p q n d : ℕ) → 0 < q → 0 < d → IsGcd p q 1 → IsGcd n d 1 → p * d ≡ n * q → (p ≡ n) × (q ≡ d)
lowest_unique p q n d pq pd h k e =
    let left : q ∣ d = dvd_other_factor q p d (IsGcd-swap p q 1 h) (subst (λ x. q ∣ x) (sym e) (dvd-mul_left q n)) in
    let right : d ∣ q = dvd_other_factor d n q (IsGcd-swap n d 1 k) (subst (λ x. d ∣ x) e (dvd-mul_left d p)) in
    let same : q ≡ d = dvd_antisymm left right in
    (eq_of_mul-eq-mul_right d pd p n (e ∙ ap (λ x. n * x) same), same)

pub positive_quotient : (a g : ℕ) → g ∣ a → 0 < a → 0 < a / g
positive_quotient a g h p =
    let e : a / g * g ≡ a = div-mul_cancel g h in
    elim (a / g) as (λ q. q * g ≡ a → 0 < q) [
      | zero ↦ λ z. absurd (omega arith)
      | suc q ↦ λ z. omega arith
    ] e

cross_cancel : (p q n d g x y : ℕ) → x * g ≡ n → y * g ≡ d → p * d ≡ n * q → p * y * g ≡ x * q * g
cross_cancel p q n d g x y l r e =
    let f : p * (y * g) ≡ x * g * q = ap (λ z. p * z) r ∙ e ∙ ap (λ z. z * q) (sym l) in
    omega arith

-- a ratio in lowest terms is what any equal ratio gives when it is reduced
pub reduced_is : (p q n d : ℕ) → 0 < q → 0 < d → IsGcd p q 1 → p * d ≡ n * q → (n / gcd n d ≡ p) × (d / gcd n d ≡ q)
reduced_is p q n d pq pd h e =
    let g : ℕ = gcd n d in
    let is : IsGcd n d g = gcd-is n d pd in
    let pg : 0 < g = gcd_positive n d pd in
    let l : n / g * g ≡ n = div-mul_cancel g is.0 in
    let r : d / g * g ≡ d = div-mul_cancel g is.1 in
    let some : 0 < d / g = positive_quotient d g is.1 pd in
    let cross : p * (d / g) * g ≡ n / g * q * g = cross_cancel p q n d g (n / g) (d / g) l r e in
    let both : (n / g ≡ p) × (d / g ≡ q) = lowest_unique (n / g) (d / g) p q some pq (reduced_apart n d g pg is) h (sym (eq_of_mul-eq-mul_right g pg (p * (d / g)) (n / g * q) cross)) in
    both

pub gcd_found : (a b g : ℕ) → 0 < b → IsGcd a b g → (g ≡ gcd a b) × (0 < g)
gcd_found a b g positive h = (sym (gcd-unique a b g positive h), pos_of_dvd_of_pos h.1 positive)

-- what is left of a number when it is divided by a divisor divides it
pub dvd-quotient : (a g : ℕ) → g ∣ a → a / g ∣ a
dvd-quotient a g h = subst (λ z. a / g ∣ z) (div-mul_cancel g h) (dvd-mul_right (a / g) g)
