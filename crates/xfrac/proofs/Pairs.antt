-- The sum of two fractions.
use Rattle.std.proofs.Common.{◌≡◌, ℕ, ◌+◌, ◌-◌, ◌*◌, ◌/◌, ◌<◌, ◌≤◌, refl, sym, subst, ap, ◌∙◌, arith, [], ◌∷◌, Bool, true, false, ◌⊎◌, inl, inr, nat_le, Some, None}
use Prim.Native.Nat.{◌∣◌}
use Rattle.std.specs.Prelude.{ℤ, pos, ◌-ℤ◌}
use Rattle.std.specs.Int.{IsGcd}
use Rattle.std.proofs.Math.Nat.{mul-div_cancel_left, div-le_self, div-mul_cancel, dvd-mul_left, dvd-mul_right, dvd-add, dvd-sub, one-dvd}
use Rattle.std.proofs.lemmas.Bool.{cond-true, cond-false, le-leb, lt-leb, and_from, and_left, and_right}
use Rattle.std.proofs.lemmas.Nat.Gcd.{IsGcd-swap, dvd_trans}
use Rattle.xfrac.specs.Divisors.{gcd, lcm}
use Rattle.xfrac.specs.Fractions.{IsReduced, limit, lowest, with_sign}
use Rattle.xfrac.specs.Sums.{Totals, totals, joined, alone, fits, value_of, sum_of, upper, lower}
use Rattle.xfrac.specs.declared.value.XFrac.TheVariants.{Fin}
use Rattle.xfrac.specs.Gcds.{product_positive, gcd-unique, dvd_other_factor, apart_below, reduced_apart, positive_quotient}
use Rattle.xfrac.specs.Formed.{reduced_parts, lowest-with_sign, reduced_whole}
use Rattle.xfrac.specs.Reduced.{IsGcd-one}
use Rattle.xfrac.proofs.Multiples.{lcm-is}
use Rattle.xfrac.proofs.Totalling.{same_totals, totals-single, joined_totals}
use Rattle.xfrac.proofs.Adding.{above-with_sign, below-with_sign, upper_times, lower_times}

-- the totals of two fractions over a common denominator
abbrev pub two : Bool → Bool → ℕ → ℕ → ℕ → Totals
two s t multiple left right =
    record {
      multiple = multiple;
      above = upper s left + upper t right;
      below = lower s left + lower t right;
      has_positive_infinity = false;
      has_negative_infinity = false;
      has_nan = false;
      count = 2;
    }

pub two_joined : (s t : Bool) (m d n e g k l : ℕ) → 0 < d → 0 < e → IsGcd d e g → k ≡ e / g → l ≡ d / g → joined (alone (Fin (with_sign s m, d))) (alone (Fin (with_sign t n, e))) ≡ two s t (d * k) (m * k) (n * l)
unfolding lcm
two_joined s t m d n e g k l pd pe is ik il =
    let found : gcd d e ≡ g = gcd-unique d e g pe is in
    let multiple : lcm d e ≡ d * k = lcm-is d e pe ∙ ap (λ z. d * (e / z)) found ∙ ap (λ z. d * z) (sym ik) in
    let times : lcm d e / d ≡ k = ap (λ z. z / d) multiple ∙ mul-div_cancel_left k pd in
    let other : lcm d e ≡ e * l = ap (λ z. d / z * e) found ∙ ap (λ z. z * e) (sym il) ∙ (let f : l * e ≡ e * l = omega arith in f) in
    let other_times : lcm d e / e ≡ l = ap (λ z. z / e) other ∙ mul-div_cancel_left l pe in
    same_totals multiple
    (part _ _ _ _ _ _ _ _ k l times other_times (above-with_sign s m d) (above-with_sign t n e) (upper_times s m k) (upper_times t n l))
    (part _ _ _ _ _ _ _ _ k l times other_times (below-with_sign s m d) (below-with_sign t n e) (lower_times s m k) (lower_times t n l))
    refl refl refl refl
  where
    part : (a b u v x y p q k l : ℕ) → x ≡ k → y ≡ l → a ≡ u → b ≡ v → u * k ≡ p → v * l ≡ q → a * x + b * y ≡ p + q
    part a b u v x y p q k l ex ey ea eb ep eq =
        ap (λ z. a * z + b * y) ex ∙ ap (λ z. a * k + b * z) ey ∙ ap (λ z. z * k + b * l) ea ∙ ap (λ z. u * k + z * l) eb ∙ ap (λ z. z + v * l) ep ∙ ap (λ z. p + z) eq

pub two_totals : (f h : ℤ × ℕ) (s t : Bool) (m d n e g k l : ℕ) → f ≡ (with_sign s m, d) → h ≡ (with_sign t n, e) → 0 < d → 0 < e → IsGcd d e g → k ≡ e / g → l ≡ d / g → totals (Fin f ∷ Fin h ∷ []) ≡ two s t (d * k) (m * k) (n * l)
two_totals f h s t m d n e g k l ef eh pd pe is ik il =
    let a = Fin (with_sign s m, d) in
    let b = Fin (with_sign t n, e) in
    ap (λ x. totals (Fin x ∷ Fin h ∷ [])) ef ∙ ap (λ x. totals (a ∷ Fin x ∷ [])) eh
    ∙ sym (joined_totals (a ∷ []) (b ∷ []) (alone a) (alone b) (sym (totals-single a pd)) (sym (totals-single b pe)) pd pe)
    ∙ two_joined s t m d n e g k l pd pe is ik il

sums_both : (s t : Bool) (a b : ℕ) → upper s a + upper t b + (lower s a + lower t b) ≡ a + b
sums_both false false a b = omega arith
sums_both false true a b = omega arith
sums_both true false a b = omega arith
sums_both true true a b = omega arith

pub two_fit : (s t : Bool) (m a b : ℕ) → m ≤ limit → a + b ≤ limit → fits (two s t m a b) ≡ true
two_fit s t m a b small few = and_from _ _ (le-leb _ _ small) (ap (λ z. nat_le z limit) (sums_both s t a b) ∙ le-leb _ _ few)

pub two_wide : (s t : Bool) (m a b : ℕ) → limit < m → fits (two s t m a b) ≡ false
two_wide s t m a b wide = and_left _ _ (lt-leb _ _ wide)

pub two_great : (s t : Bool) (m a b : ℕ) → limit < a + b → fits (two s t m a b) ≡ false
two_great s t m a b great = and_right _ _ (ap (λ z. nat_le z limit) (sums_both s t a b) ∙ lt-leb _ _ great)

pub two_none : (f h : ℤ × ℕ) (t : Totals) → totals (Fin f ∷ Fin h ∷ []) ≡ t → fits t ≡ false → sum_of (Fin f ∷ Fin h ∷ []) ≡ None
two_none f h t is out = cond-false _ _ _ (ap fits is ∙ out)

pub two_some : (f h : ℤ × ℕ) (t : Totals) → totals (Fin f ∷ Fin h ∷ []) ≡ t → fits t ≡ true → sum_of (Fin f ∷ Fin h ∷ []) ≡ Some (value_of t)
two_some f h t is fit = cond-true _ _ _ (ap fits is ∙ fit) ∙ ap (λ z. Some (value_of z)) is

-- ---- what divides a sum's numerator and the common denominator

abbrev pub IsSum : ℕ → ℕ → ℕ → Type 0
IsSum t a b = (t ≡ a + b) ⊎ ((t + b ≡ a) ⊎ (t + a ≡ b))

left_from : (x t a b : ℕ) → IsSum t a b → x ∣ t → x ∣ b → x ∣ a
left_from x t a b (inl e) h k =
    let f : t - b ≡ a = omega arith in subst (λ z. x ∣ z) f (dvd-sub x h k)
left_from x t a b (inr (inl e)) h k = subst (λ z. x ∣ z) e (dvd-add x h k)
left_from x t a b (inr (inr e)) h k =
    let f : b - t ≡ a = omega arith in subst (λ z. x ∣ z) f (dvd-sub x k h)

right_from : (x t a b : ℕ) → IsSum t a b → x ∣ t → x ∣ a → x ∣ b
right_from x t a b (inl e) h k =
    let f : t - a ≡ b = omega arith in subst (λ z. x ∣ z) f (dvd-sub x h k)
right_from x t a b (inr (inl e)) h k =
    let f : a - t ≡ b = omega arith in subst (λ z. x ∣ z) f (dvd-sub x k h)
right_from x t a b (inr (inr e)) h k = subst (λ z. x ∣ z) e (dvd-add x h k)

-- a divisor of the numerator and of one denominator's own part is 1
own_apart : (x m d n p q : ℕ) → IsGcd d m 1 → IsGcd p q 1 → p ∣ d → x ∣ p → x ∣ m * q → x ∣ 1
own_apart x m d n p q apart own goes h k =
    let far : IsGcd x m 1 = apart_below x d m (dvd_trans x h goes) apart in
    own.2 x h (dvd_other_factor x m q far k)

pub shared_only : (m d n e g k l t : ℕ) → 0 < g → IsGcd m d 1 → IsGcd n e 1 → IsGcd d e g → k ≡ e / g → l ≡ d / g → IsSum t (m * k) (n * l) → (h : ℕ) → IsGcd t g h → IsGcd t (d * k) h
shared_only m d n e g k l t pg left right is ik il sum h both = (
  both.0,
  dvd_trans h (dvd_trans h both.1 is.0) (dvd-mul_right d k),
  λ x hx hm.
      let c : l * (g * k) ≡ d * k = (let r : l * (g * k) ≡ l * g * k = omega arith in r) ∙ ap (λ z. z * k) whole_d in
      let first : x ∣ g * k = dvd_other_factor x l (g * k) (far_l x hx) (subst (λ z. x ∣ z) (sym c) hm) in
      let r : g * k ≡ k * g = omega arith in
      let second : x ∣ g = dvd_other_factor x k g (far_k x hx) (subst (λ z. x ∣ z) r first) in
      both.2 x hx second,
)
  where
    whole_d : l * g ≡ d
    whole_d = ap (λ z. z * g) il ∙ div-mul_cancel g is.0

    whole_e : k * g ≡ e
    whole_e = ap (λ z. z * g) ik ∙ div-mul_cancel g is.1

    own : IsGcd l k 1
    own = subst (λ z. IsGcd z k 1) (sym il) (subst (λ z. IsGcd (d / g) z 1) (sym ik) (reduced_apart d e g pg is))

    l_goes : l ∣ d
    l_goes = subst (λ z. l ∣ z) whole_d (dvd-mul_right l g)

    k_goes : k ∣ e
    k_goes = subst (λ z. k ∣ z) whole_e (dvd-mul_right k g)

    far_l : (x : ℕ) → x ∣ t → IsGcd x l 1
    far_l x hx = (
      one-dvd x,
      one-dvd l,
      λ y hy hl. own_apart y m d n l k (IsGcd-swap m d 1 left) own l_goes hl (left_from y t (m * k) (n * l) sum (dvd_trans y hy hx) (dvd_trans y hl (dvd-mul_left l n))),
    )

    far_k : (x : ℕ) → x ∣ t → IsGcd x k 1
    far_k x hx = (
      one-dvd x,
      one-dvd k,
      λ y hy hk. own_apart y n e m k l (IsGcd-swap n e 1 right) (IsGcd-swap l k 1 own) k_goes hk (right_from y t (m * k) (n * l) sum (dvd_trans y hy hx) (dvd_trans y hk (dvd-mul_left k m))),
    )

-- ---- reduced by a divisor that is known

below_limit : (a g : ℕ) → a ≤ limit → a / g ≤ limit
below_limit a g h =
    let less : a / g ≤ a = div-le_self a g in omega arith

pub reduced_terms : (m d g p q : ℕ) → 0 < d → IsGcd m d g → p ≡ m / g → q ≡ d / g → m ≤ limit → d ≤ limit → IsReduced p q
reduced_terms m d g p q pd is ip iq small few =
    let found : gcd m d ≡ g = gcd-unique m d g pd is in
    let first : m / gcd m d ≡ p = ap (λ z. m / z) found ∙ sym ip in
    let second : d / gcd m d ≡ q = ap (λ z. d / z) found ∙ sym iq in
    reduced_parts m d p q pd first second (subst (λ z. z ≤ limit) (sym ip) (below_limit m g small)) (subst (λ z. z ≤ limit) (sym iq) (below_limit d g few))

pub lowest_over : (s : Bool) (m d g p q : ℕ) → 0 < d → IsGcd m d g → p ≡ m / g → q ≡ d / g → (with_sign s p, q) ≡ lowest (with_sign s m) d
lowest_over s m d g p q pd is ip iq =
    let found : g ≡ gcd m d = sym (gcd-unique m d g pd is) in
    ap (λ z. (with_sign s z, q)) (ip ∙ ap (λ z. m / z) found) ∙ ap (λ z. (with_sign s (m / gcd m d), z)) (iq ∙ ap (λ z. d / z) found) ∙ sym (lowest-with_sign s m d)

pub scaled_positive : (d e g k : ℕ) → 0 < d → 0 < e → IsGcd d e g → k ≡ e / g → 0 < d * k
scaled_positive d e g k pd pe is ik = product_positive d k pd (subst (λ z. 0 < z) (sym ik) (positive_quotient e g is.1 pe))

-- the value over the common denominator
pub value_over : (s t b : Bool) (a c m n p q r : ℕ) → with_sign b r ≡ pos (upper s a + upper t c) -ℤ pos (lower s a + lower t c) → m ≡ n → a ≡ p → c ≡ q → lowest (with_sign b r) m ≡ lowest (pos (upper s p + upper t q) -ℤ pos (lower s p + lower t q)) n
value_over s t b a c m n p q r is em ea ec =
    ap (λ z. lowest z m) is ∙ ap (λ z. lowest (pos (upper s a + upper t c) -ℤ pos (lower s a + lower t c)) z) em
    ∙ ap (λ z. lowest (pos (upper s z + upper t c) -ℤ pos (lower s z + lower t c)) n) ea ∙ ap (λ z. lowest (pos (upper s p + upper t z) -ℤ pos (lower s p + lower t z)) n) ec

-- ---- whole numbers

pub whole_totals : (f h : ℤ × ℕ) (s t : Bool) (m n d e : ℕ) → f ≡ (with_sign s m, d) → h ≡ (with_sign t n, e) → f.1 ≡ 1 → h.1 ≡ 1 → totals (Fin f ∷ Fin h ∷ []) ≡ two s t 1 m n
whole_totals f h s t m n d e ef eh one other =
    let some : 0 < 1 = omega arith in
    let left : m * 1 ≡ m = omega arith in
    let right : n * 1 ≡ n = omega arith in
    let d_is : d ≡ 1 = sym (ap (λ (z : ℤ × ℕ). z.1) ef) ∙ one in
    let e_is : e ≡ 1 = sym (ap (λ (z : ℤ × ℕ). z.1) eh) ∙ other in
    two_totals f h s t m 1 n 1 1 1 1 (ef ∙ ap (λ (z : ℕ). (with_sign s m, z)) d_is) (eh ∙ ap (λ (z : ℕ). (with_sign t n, z)) e_is) some some (IsGcd-one 1) refl refl
    ∙ ap (λ z. two s t 1 z (n * 1)) left ∙ ap (λ z. two s t 1 m z) right

pub whole_value : (s t b : Bool) (m n r : ℕ) → with_sign b r ≡ pos (upper s m + upper t n) -ℤ pos (lower s m + lower t n) → (with_sign b r, 1) ≡ lowest (pos (upper s m + upper t n) -ℤ pos (lower s m + lower t n)) 1
whole_value s t b m n r is = as_it_stands ∙ ap (λ z. lowest z 1) is
  where
    as_it_stands : (with_sign b r, 1) ≡ lowest (with_sign b r) 1
    as_it_stands =
        let parts : (r / gcd r 1 ≡ r) × (1 / gcd r 1 ≡ 1) = reduced_whole r 1 refl in
        sym (lowest-with_sign b r 1 ∙ ap (λ x. (with_sign b x, 1 / gcd r 1)) parts.0 ∙ ap (λ y. (with_sign b r, y)) parts.1)
