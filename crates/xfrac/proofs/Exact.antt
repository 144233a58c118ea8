-- The sum of two fractions is their exact sum.
use Rattle.std.proofs.Common.{◌≡◌, ℕ, ◌+◌, ◌-◌, ◌*◌, ◌/◌, ◌<◌, ◌≤◌, refl, sym, subst, ap, ◌∙◌, arith, Bool, true, false, [], ◌∷◌, inl, inr, None, nat_le}
use Rattle.std.specs.Prelude.{ℤ, pos, negsuc, neg_ℤ, ◌+ℤ◌, ◌-ℤ◌, ◌*ℤ◌, unsigned_abs, Option, Result, Ok}
use Rattle.std.specs.Option.{ok_or}
use Rattle.std.specs.Int.{IsGcd}
use Rattle.std.proofs.lemmas.Int.{ints}
use Rattle.std.proofs.lemmas.Bool.{and_parts, leb-true, cases_lt}
use Rattle.std.proofs.Math.Nat.{div-mul_cancel}
use Rattle.xfrac.specs.Arithmetic.{arithmetic}
use Rattle.xfrac.specs.Divisors.{gcd}
use Rattle.xfrac.specs.Fractions.{IsReduced, limit, lowest, with_sign}
use Rattle.xfrac.specs.Laws.{IsNumber}
use Rattle.xfrac.specs.Sums.{Totals, totals, fits, value_of, sum_of, upper, lower}
use Rattle.xfrac.specs.declared.value.ArithOp.TheVariants.{Add}
use Rattle.xfrac.specs.declared.value.NumFault.{NumFault}
use Rattle.xfrac.specs.declared.value.NumFault.TheVariants.{Overflow}
use Rattle.xfrac.specs.declared.value.XFrac.{XFrac}
use Rattle.xfrac.specs.declared.value.XFrac.TheVariants.{Fin}
use Rattle.xfrac.specs.Gcds.{product_positive, gcd-is, gcd_positive, reduced_apart, positive_quotient, reduced_is}
use Rattle.xfrac.specs.Formed.{lowest-with_sign, unsigned_abs-with_sign}
use Rattle.xfrac.proofs.Adding.{upper_times, lower_times}
use Rattle.xfrac.proofs.Products.{with_sign-times_pos}
use Rattle.xfrac.proofs.Pairs.{two, two_totals, two_some, two_none, scaled_positive, reduced_terms}
use Rattle.xfrac.proofs.LawProofs.{cross_same}

-- ---- an integer by its sign

abbrev below : ℤ → Bool
below (pos n) = false
below (negsuc n) = true

by_sign : (z : ℤ) → z ≡ with_sign (below z) (unsigned_abs z)
by_sign (pos n) = refl
by_sign (negsuc n) = refl

-- the sums above and below 0, and their difference
abbrev difference : Bool → Bool → ℕ → ℕ → ℤ
difference s t a b = pos (upper s a + upper t b) -ℤ pos (lower s a + lower t b)

by_signs : (s t : Bool) (a b : ℕ) → difference s t a b ≡ with_sign s a +ℤ with_sign t b
by_signs false false a b = omega (arith, ints)
by_signs false true a b = omega (arith, ints)
by_signs true false a b = omega (arith, ints)
by_signs true true a b = omega (arith, ints)

pub magnitude_few : (p q : ℕ) → unsigned_abs (pos p -ℤ pos q) ≤ p + q
magnitude_few p q = omega (arith, ints)

minus_scaled : (p q g : ℕ) → (pos p -ℤ pos q) *ℤ pos g ≡ pos (p * g) -ℤ pos (q * g)
minus_scaled p q g =
    elim (cases_lt p q) [
      | inl less ↦
          let e : (q - p) + p ≡ q = omega arith in
          let f : (q - p) * g + p * g ≡ q * g = (let h : (q - p) * g + p * g ≡ ((q - p) + p) * g = omega arith in h) ∙ ap (λ k. k * g) e in
          ap (λ z. z *ℤ pos g) (down (q - p) p q e) ∙ with_sign-times_pos true (q - p) g ∙ sym (down ((q - p) * g) (p * g) (q * g) f)
      | inr more ↦
          let e : (p - q) + q ≡ p = omega arith in
          let f : (p - q) * g + q * g ≡ p * g = (let h : (p - q) * g + q * g ≡ ((p - q) + q) * g = omega arith in h) ∙ ap (λ k. k * g) e in
          ap (λ z. z *ℤ pos g) (up (p - q) q p e) ∙ sym (up ((p - q) * g) (q * g) (p * g) f)
    ]
  where
    down : (r p q : ℕ) → r + p ≡ q → pos p -ℤ pos q ≡ neg_ℤ (pos r)
    down r p q e = omega (arith, ints)

    up : (r q p : ℕ) → r + q ≡ p → pos p -ℤ pos q ≡ pos r
    up r q p e = omega (arith, ints)

spread : (x y u v g : ℕ) → x * g ≡ u → y * g ≡ v → (x + y) * g ≡ u + v
spread x y u v g e f = omega arith

difference_scaled : (s t : Bool) (a b g : ℕ) → difference s t a b *ℤ pos g ≡ difference s t (a * g) (b * g)
difference_scaled s t a b g =
    minus_scaled (upper s a + upper t b) (lower s a + lower t b) g
    ∙ ap (λ z. pos z -ℤ pos ((lower s a + lower t b) * g)) (spread _ _ _ _ g (upper_times s a g) (upper_times t b g))
    ∙ ap (λ z. pos (upper s (a * g) + upper t (b * g)) -ℤ pos z) (spread _ _ _ _ g (lower_times s a g) (lower_times t b g))

-- ---- lowest terms

-- a factor of both terms changes nothing
lowest_scaled : (s : Bool) (m d g : ℕ) → 0 < d → 0 < g → lowest (with_sign s (m * g)) (d * g) ≡ lowest (with_sign s m) d
lowest_scaled s m d g h k =
    let is : IsGcd m d (gcd m d) = gcd-is m d h in
    let both = reduced_is (m / gcd m d) (d / gcd m d) (m * g) (d * g) (positive_quotient d (gcd m d) is.1 h) (product_positive d g h k) (reduced_apart m d (gcd m d) (gcd_positive m d h) is) (cross (m / gcd m d) m d (d / gcd m d) g (cross_same m d (gcd m d) is)) in
    lowest-with_sign s (m * g) (d * g) ∙ ap (λ x. (with_sign s x, d * g / gcd (m * g) (d * g))) both.0 ∙ ap (λ y. (with_sign s (m / gcd m d), y)) both.1 ∙ sym (lowest-with_sign s m d)
  where
    cross : (x m d y g : ℕ) → x * d ≡ m * y → x * (d * g) ≡ m * g * y
    cross x m d y g e =
        let f : x * d * g ≡ m * y * g = ap (λ z. z * g) e in
        omega arith

scaled_terms : (z : ℤ) (d g : ℕ) → 0 < d → 0 < g → lowest (z *ℤ pos g) (d * g) ≡ lowest z d
scaled_terms z d g h k =
    let s = below z in
    let m = unsigned_abs z in
    ap (λ x. lowest (x *ℤ pos g) (d * g)) (by_sign z) ∙ ap (λ x. lowest x (d * g)) (with_sign-times_pos s m g) ∙ lowest_scaled s m d g h k ∙ ap (λ x. lowest x d) (sym (by_sign z))

signed_number : (s : Bool) (m d : ℕ) → 0 < d → m ≤ limit → d ≤ limit → IsNumber (Fin (lowest (with_sign s m) d))
signed_number s m d h small few =
    subst (λ f. IsReduced (unsigned_abs f.0) f.1) (sym (lowest-with_sign s m d))
    (subst (λ x. IsReduced x (d / gcd m d)) (sym (unsigned_abs-with_sign s (m / gcd m d))) (reduced_terms m d (gcd m d) (m / gcd m d) (d / gcd m d) h (gcd-is m d h) refl refl small few))

pub lowest_number : (z : ℤ) (d : ℕ) → 0 < d → unsigned_abs z ≤ limit → d ≤ limit → IsNumber (Fin (lowest z d))
lowest_number z d h small few = subst (λ x. IsNumber (Fin (lowest x d))) (sym (by_sign z)) (signed_number (below z) (unsigned_abs z) d h small few)

-- ---- the sum

pub fit_parts : (t : Totals) → fits t ≡ true → (t.multiple ≤ limit) × (t.above + t.below ≤ limit)
fit_parts t is =
    let both = and_parts (nat_le t.multiple limit) (nat_le (t.above + t.below) limit) is in
    (leb-true t.multiple limit both.0, leb-true (t.above + t.below) limit both.1)

abbrev answer : Option XFrac → Result XFrac NumFault
answer o = ok_or o Overflow

abbrev found : XFrac → Result XFrac NumFault
found v = Ok v

found_same : (v w : XFrac) → found v ≡ Ok w → v ≡ w
found_same v w is = cc is

-- over the multiple d * k of both denominators, where e ≡ k * g and d ≡ l * g
sum_over : (s t : Bool) (m d n e g k l : ℕ) → 0 < d * k → 0 < g → k * g ≡ e → l * g ≡ d
    → lowest (difference s t (m * k) (n * l)) (d * k) ≡ lowest (with_sign s m *ℤ pos e +ℤ with_sign t n *ℤ pos d) (d * e)
sum_over s t m d n e g k l some h ek dl =
    let left : m * k * g ≡ m * e = (let r : m * k * g ≡ m * (k * g) = omega arith in r) ∙ ap (λ z. m * z) ek in
    let right : n * l * g ≡ n * d = (let r : n * l * g ≡ n * (l * g) = omega arith in r) ∙ ap (λ z. n * z) dl in
    let multiple : d * k * g ≡ d * e = (let r : d * k * g ≡ d * (k * g) = omega arith in r) ∙ ap (λ z. d * z) ek in
    let top : difference s t (m * k) (n * l) *ℤ pos g ≡ with_sign s m *ℤ pos e +ℤ with_sign t n *ℤ pos d =
    difference_scaled s t (m * k) (n * l) g ∙ ap (λ x. difference s t x (n * l * g)) left ∙ ap (λ y. difference s t (m * e) y) right ∙ by_signs s t (m * e) (n * d)
    ∙ ap (λ x. x +ℤ with_sign t (n * d)) (sym (with_sign-times_pos s m e)) ∙ ap (λ y. with_sign s m *ℤ pos e +ℤ y) (sym (with_sign-times_pos t n d)) in
    sym (scaled_terms (difference s t (m * k) (n * l)) (d * k) g some h) ∙ ap (λ z. lowest z (d * k * g)) top ∙ ap (λ w. lowest (with_sign s m *ℤ pos e +ℤ with_sign t n *ℤ pos d) w) multiple

-- by what the totals are
from_totals : (f h : ℤ × ℕ) (o : Totals) (v : XFrac) → totals (Fin f ∷ Fin h ∷ []) ≡ o → answer (sum_of (Fin f ∷ Fin h ∷ [])) ≡ Ok v → (fits o ≡ true) × (value_of o ≡ v)
from_totals f h o v are is = by_fit (fits o) refl
  where
    by_fit : (b : Bool) → fits o ≡ b → (fits o ≡ true) × (value_of o ≡ v)
    by_fit true fit = (fit, found_same (value_of o) v (ap answer (sym (two_some f h o are fit)) ∙ is))
    by_fit false fit =
        let clash : answer None ≡ found v = ap answer (sym (two_none f h o are fit)) ∙ is in
        absurd (cc clash)

pub sum_exact : (a b : ℤ × ℕ) (v : XFrac) → 0 < a.1 → 0 < b.1 → arithmetic Add (Fin a) (Fin b) ≡ Ok v
    → IsNumber v × (v ≡ Fin (lowest (a.0 *ℤ pos b.1 +ℤ b.0 *ℤ pos a.1) (a.1 * b.1)))
sum_exact a b v ha hb is =
    let s : Bool = below a.0 in
    let t : Bool = below b.0 in
    let m : ℕ = unsigned_abs a.0 in
    let n : ℕ = unsigned_abs b.0 in
    let g : ℕ = gcd a.1 b.1 in
    let here : IsGcd a.1 b.1 g = gcd-is a.1 b.1 hb in
    let k : ℕ = b.1 / g in
    let l : ℕ = a.1 / g in
    let are = two_totals a b s t m a.1 n b.1 g k l (ap (λ (z : ℤ). (z, a.1)) (by_sign a.0)) (ap (λ (z : ℤ). (z, b.1)) (by_sign b.0)) ha hb here refl refl in
    let ok = from_totals a b (two s t (a.1 * k) (m * k) (n * l)) v are is in
    let within = fit_parts (two s t (a.1 * k) (m * k) (n * l)) ok.0 in
    let some : 0 < a.1 * k = scaled_positive a.1 b.1 g k ha hb here refl in
    let few : unsigned_abs (difference s t (m * k) (n * l)) ≤ limit = omega (arith, magnitude_few (upper s (m * k) + upper t (n * l)) (lower s (m * k) + lower t (n * l)), within.1) in
    let over = sum_over s t m a.1 n b.1 g k l some (gcd_positive a.1 b.1 hb) (div-mul_cancel g here.1) (div-mul_cancel g here.0) in
    let exact : lowest (difference s t (m * k) (n * l)) (a.1 * k) ≡ lowest (a.0 *ℤ pos b.1 +ℤ b.0 *ℤ pos a.1) (a.1 * b.1) =
    over ∙ ap (λ x. lowest (x *ℤ pos b.1 +ℤ with_sign t n *ℤ pos a.1) (a.1 * b.1)) (sym (by_sign a.0)) ∙ ap (λ y. lowest (a.0 *ℤ pos b.1 +ℤ y *ℤ pos a.1) (a.1 * b.1)) (sym (by_sign b.0)) in (
      subst IsNumber ok.1 (lowest_number (difference s t (m * k) (n * l)) (a.1 * k) some few within.0),
      sym ok.1 ∙ ap (λ f. Fin f) exact,
    )
