-- An exponent beyond the limit makes any number but 0 too large or too small.
use Rattle.std.proofs.Common.{◌≡◌, ℕ, ◌+◌, ◌-◌, ◌*◌, ◌/◌, ◌^◌, ◌<◌, ◌≤◌, zero, suc, refl, sym, ap, ◌∙◌, arith, Bool, true, false, cond, inl, inr, ◌⊎◌, List, [], ◌∷◌, length}
use Rattle.std.specs.Prelude.{pos}
use Rattle.std.specs.Char.{is_ascii_digit}
use Rattle.std.proofs.Math.Nat.{pow-suc, mul-le-mul_left, mul-le-mul_right, pow-le-pow_right, le-mul_of_pos_right}
use Rattle.std.proofs.lemmas.Nat.{pow-add}
use Rattle.std.proofs.lemmas.Bool.{cases_lt}
use Rattle.xfrac.specs.Divisors.{gcd}
use Rattle.xfrac.specs.Fractions.{limit}
use Rattle.xfrac.specs.Forming.{formed}
use Rattle.frac_text.specs.Capped.{IsCapped}
use Rattle.frac_text.specs.Decimals.{scaled}
use Rattle.frac_text.specs.Digits.{digits_in, number}
use Rattle.frac_text.proofs.Lowest.{Terms, terms, formed_same, formed_above, formed_beyond}
use Rattle.frac_text.proofs.Numbers.{ten_positive, digit_range, number-cons}

pub number_below : (text : List ℕ) → number (digits_in text) < 10 ^ length (digits_in text)
number_below [] = omega arith
number_below (c ∷ text) = by_digit (is_ascii_digit c) refl (number_below text)
  where
    by_digit : (b : Bool) → is_ascii_digit c ≡ b → number (digits_in text) < 10 ^ length (digits_in text)
        → number (cond b (c ∷ digits_in text) (digits_in text)) < 10 ^ length (cond b (c ∷ digits_in text) (digits_in text))
    by_digit false is below = below
    by_digit true is below =
        let range = digit_range c is in
        let long : 10 ^ length (c ∷ digits_in text) ≡ 10 ^ length (digits_in text) * 10 = pow-suc 10 (length (digits_in text)) in
        let most : c - 48 ≤ 9 = omega (arith, range.1) in
        let more = mul-le-mul_right (10 ^ length (digits_in text)) most in
        omega (arith, long, more, below, number-cons c (digits_in text) is)

far : (n k j : ℕ) → 0 < n → k + 31 ≤ j → limit * 10 ^ k < n * 10 ^ j
far n k j some le =
    let e : 10 ^ (k + 31) ≡ 10 ^ k * 10 ^ 31 = pow-add 10 k 31 in
    let f : 10 ^ (k + 31) ≤ 10 ^ j = pow-le-pow_right {n = 10} (omega arith) le in
    let g : 10 ^ j ≤ n * 10 ^ j = omega (arith, mul-le-mul_right (10 ^ j) (let h : 1 ≤ n = omega arith in h)) in
    let p = ten_positive k in
    omega (arith, e, f, g, p)

too_small : (n count j : ℕ) → 0 < n → n < 10 ^ count → count + 31 ≤ j → limit < 10 ^ j / gcd n (10 ^ j)
too_small n count j some few le = by_size (cases_lt limit (10 ^ j / gcd n (10 ^ j)))
  where
    t : Terms n (10 ^ j)
    t = terms n (10 ^ j) (ten_positive j)

    by_size : (limit < 10 ^ j / gcd n (10 ^ j)) ⊎ (10 ^ j / gcd n (10 ^ j) ≤ limit) → limit < 10 ^ j / gcd n (10 ^ j)
    by_size (inl out) = out
    by_size (inr within) =
        let d : ℕ = 10 ^ j / gcd n (10 ^ j) in
        let p : ℕ = n / gcd n (10 ^ j) in
        let positive : 0 < n * d = omega (arith, le-mul_of_pos_right n t.positive) in
        let numerator : 0 < p = positive_factor p (10 ^ j) (omega (arith, t.equal)) in
        let low : 10 ^ j ≤ n * d = omega (arith, t.equal, mul-le-mul_right (10 ^ j) (let h : 1 ≤ p = omega arith in h)) in
        let high : n * d ≤ n * limit = mul-le-mul_left n within in
        let more : n * limit ≤ 10 ^ count * limit = mul-le-mul_right limit (let h : n ≤ 10 ^ count = omega arith in h) in
        let out : limit * 10 ^ count < 1 * 10 ^ j = far 1 count j (omega arith) le in
        absurd (omega arith)
      where
        positive_factor : (p q : ℕ) → 0 < p * q → 0 < p
        positive_factor zero q h = absurd (omega (arith, h))
        positive_factor (suc p) q h = omega arith

by_up : (n places size counted : ℕ) → places + 31 ≤ size → places + 31 ≤ counted → formed (pos (n * 10 ^ counted)) (10 ^ places) ≡ formed (pos (n * 10 ^ size)) (10 ^ places)
by_up zero places size counted a b =
    let e : 0 * 10 ^ counted ≡ 0 * 10 ^ size = omega arith in
    ap (λ x. formed (pos x) (10 ^ places)) e
by_up (suc n) places size counted a b =
    formed_above (suc n * 10 ^ counted) (10 ^ places) (ten_positive places) (far (suc n) places counted (omega arith) b)
    ∙ sym (formed_above (suc n * 10 ^ size) (10 ^ places) (ten_positive places) (far (suc n) places size (omega arith) a))

by_down : (n count j k : ℕ) → n < 10 ^ count → count + 31 ≤ j → count + 31 ≤ k → formed (pos n) (10 ^ k) ≡ formed (pos n) (10 ^ j)
by_down zero count j k few a b = formed_same 0 (10 ^ j) 0 (10 ^ k) (ten_positive j) (ten_positive k) (omega arith)
by_down (suc n) count j k few a b =
    formed_beyond (suc n) (10 ^ k) (too_small (suc n) count k (omega arith) few b) ∙ sym (formed_beyond (suc n) (10 ^ j) (too_small (suc n) count j (omega arith) few a))

-- an exponent that is capped scales as the exponent itself
pub scaled_capped : (n count places : ℕ) (negative : Bool) (size counted : ℕ) → n < 10 ^ count → count + 31 ≤ limit → places + 31 ≤ limit → IsCapped size counted
    → scaled n places negative counted ≡ scaled n places negative size
scaled_capped n count places negative size counted few small short is = by_size negative (cases_lt limit size)
  where
    by_size : (b : Bool) → (limit < size) ⊎ (size ≤ limit) → scaled n places b counted ≡ scaled n places b size
    by_size b (inr within) = ap (λ x. scaled n places b x) (is.within within)
    by_size true (inl out) =
        let beyond = is.beyond out in
        by_down n count (places + size) (places + counted) few (omega (arith, out, small)) (omega (arith, beyond, small))
    by_size false (inl out) =
        let beyond = is.beyond out in
        by_up n places size counted (omega (arith, out, short)) (omega (arith, beyond, short))
