-- The twos of a number, and common divisors with odd numbers.
use Rattle.std.proofs.Common.{◌≡◌, ℕ, zero, suc, ◌-◌, ◌*◌, ◌/◌, ◌%◌, ◌^◌, ◌<◌, ◌≤◌, sym, subst, ap, ◌∙◌, arith, inl, inr, w64}
use Prim.Native.Nat.{◌∣◌, min}
use Rattle.std.specs.Int.{IsGcd, abs_diff, trailing_zeros}
use Rattle.std.proofs.Math.Nat.{div-mul_cancel, mul-div_cancel', mul-dvd-mul_right, one-dvd, pow-suc, mod-eq_of_lt}
use Rattle.std.proofs.lemmas.Nat.Bits.{bit_at-trailing_zeros}
use Rattle.std.proofs.lemmas.Nat.Gcd.{IsGcd-from_mod, IsGcd-from_sub, IsGcd-swap, dvd_trans, le_of_dvd, dvd_of_mod-eq-zero}
use Rattle.std.proofs.lemmas.Bool.{cases_lt}
use Rattle.xfrac.specs.Gcds.{IsGcd-scaled, apart_below, apart_product, dvd_other_factor, dvd-quotient}

-- a power of two divides a number whose bits below its exponent are all 0
twos_go : (n j : ℕ) → ((i : ℕ) → i < j → n / 2 ^ i % 2 ≡ 0) → 2 ^ j ∣ n
twos_go n zero h = one-dvd n
twos_go n (suc j) h =
    let rest : 2 ^ j ∣ n = twos_go n j (λ i less. h i (omega arith)) in
    let half : 2 ∣ n / 2 ^ j = dvd_of_mod-eq-zero 2 (h j (omega arith)) in
    let more : 2 * 2 ^ j ∣ n / 2 ^ j * 2 ^ j = mul-dvd-mul_right 2 half (2 ^ j) in
    let turn : 2 * 2 ^ j ≡ 2 ^ suc j = (let e : 2 * 2 ^ j ≡ 2 ^ j * 2 = omega arith in e) ∙ sym (pow-suc 2 j) in
    subst (λ z. z ∣ n) turn (subst (λ z. 2 * 2 ^ j ∣ z) (div-mul_cancel (2 ^ j) rest) more)

pub twos_divide : (n j : ℕ) → 0 < n → n < 2 ^ 64 → j ≤ trailing_zeros w64 n → 2 ^ j ∣ n
twos_divide n j some small few = twos_go n j (λ i less. (bit_at-trailing_zeros w64 n some small).2 i (omega arith))

-- what is left without them is odd
pub odd_left : (n : ℕ) → 0 < n → n < 2 ^ 64 → n / 2 ^ trailing_zeros w64 n % 2 ≡ 1
odd_left n some small = (bit_at-trailing_zeros w64 n some small).1

odd_apart : (y k : ℕ) → y % 2 ≡ 1 → IsGcd y (2 ^ k) 1
odd_apart y k odd = IsGcd-swap (2 ^ k) y 1 (powers k)
  where
    two : IsGcd 2 y 1
    two = IsGcd-swap y 2 1 (IsGcd-from_mod y 2 1 (subst (λ z. IsGcd 2 z 1) (sym odd) (one-dvd 2, one-dvd 1, λ d left right. right)))

    powers : (j : ℕ) → IsGcd (2 ^ j) y 1
    powers zero = (one-dvd 1, one-dvd y, λ d left right. left)
    powers (suc j) = subst (λ z. IsGcd z y 1) (sym (pow-suc 2 j)) (apart_product (2 ^ j) 2 y (powers j) two)

-- twos of one number are in no common divisor with an odd one
pub odd_step : (x y k g : ℕ) → y % 2 ≡ 1 → 2 ^ k ∣ x → IsGcd (x / 2 ^ k) y g → IsGcd x y g
odd_step x y k g odd goes h = (
  dvd_trans g h.0 (dvd-quotient x (2 ^ k) goes),
  h.1,
  λ d left right. h.2 d (dvd_other_factor d (2 ^ k) (x / 2 ^ k) (apart_below d y (2 ^ k) right (odd_apart y k odd)) (subst (λ z. d ∣ z) (sym (mul-div_cancel' (2 ^ k) goes)) left)) right,
)

pub difference_step : (x y d m g : ℕ) → d ≡ abs_diff x y → m ≡ min x y → IsGcd d m g → IsGcd x y g
difference_step x y d m g is least h =
    elim (cases_lt x y) [
      | inl less ↦
          let e : d ≡ y - x = omega arith in
          let f : m ≡ x = omega arith in
          IsGcd-swap y x g (IsGcd-from_sub y x g (omega arith) (subst (λ z. IsGcd (y - x) z g) f (subst (λ z. IsGcd z m g) e h)))
      | inr more ↦
          let e : d ≡ x - y = omega arith in
          let f : m ≡ y = omega arith in
          IsGcd-from_sub x y g more (subst (λ z. IsGcd (x - y) z g) f (subst (λ z. IsGcd z m g) e h))
    ]

pub odd_least : (x y m : ℕ) → m ≡ min x y → x % 2 ≡ 1 → y % 2 ≡ 1 → m % 2 ≡ 1
odd_least x y m least h k =
    elim (cases_lt x y) [
      | inl less ↦ let f : m ≡ x = omega arith in ap (λ z. z % 2) f ∙ h
      | inr more ↦ let f : m ≡ y = omega arith in ap (λ z. z % 2) f ∙ k
    ]

-- one turn of the differences
pub one_turn : (a b x y d m : ℕ) → (x ≡ 0 → ⊥) → x < 2 ^ 64 → y % 2 ≡ 1 → d ≡ abs_diff (x / 2 ^ trailing_zeros w64 x) y → m ≡ min (x / 2 ^ trailing_zeros w64 x) y → ((g : ℕ) → IsGcd x y g → IsGcd a b g)
    → (g : ℕ) → IsGcd d m g → IsGcd a b g
one_turn a b x y d m some small odd is least sofar g h =
    sofar g (odd_step x y (trailing_zeros w64 x) g odd (twos_divide x (trailing_zeros w64 x) (omega arith) small (omega arith)) (difference_step (x / 2 ^ trailing_zeros w64 x) y d m g is least h))

-- both numbers over a power of two that divides them
pub shared_twos : (a b k g : ℕ) → 0 < a → a < 2 ^ 64 → 2 ^ k ∣ a → 2 ^ k ∣ b → IsGcd (b / 2 ^ k) (a / 2 ^ k) g → IsGcd b a (g * 2 ^ k % 2 ^ 64)
shared_twos a b k g some small left right h =
    let scaled : IsGcd (b / 2 ^ k * 2 ^ k) (a / 2 ^ k * 2 ^ k) (g * 2 ^ k) = IsGcd-scaled (b / 2 ^ k) (a / 2 ^ k) g (2 ^ k) h in
    let is : IsGcd b a (g * 2 ^ k) = subst (λ z. IsGcd z a (g * 2 ^ k)) (div-mul_cancel (2 ^ k) right) (subst (λ z. IsGcd (b / 2 ^ k * 2 ^ k) z (g * 2 ^ k)) (div-mul_cancel (2 ^ k) left) scaled) in
    let below : g * 2 ^ k ≤ a = le_of_dvd some is.1 in
    let same : g * 2 ^ k % 2 ^ 64 ≡ g * 2 ^ k = mod-eq_of_lt (omega arith) in
    subst (λ z. IsGcd b a z) (sym same) is
