-- What is rounded to is the nearest multiple.
use Rattle.std.proofs.Common.{◌≡◌, ℕ, ◌+◌, ◌-◌, ◌*◌, ◌<◌, ◌≤◌, zero, suc, refl, sym, subst, ap, ◌∙◌, arith, ◌⊎◌, inl, inr, Bool, true, false, cond, IsTrue, Option, Some, None, Result, Ok, Err}
use Rattle.std.specs.Prelude.{ℤ, pos, negsuc, neg_ℤ, ◌+ℤ◌, ◌-ℤ◌, ◌*ℤ◌, ◌≤ℤ◌, ◌<ℤ◌, unsigned_abs}
use Rattle.std.specs.Int.{int_div_euclid}
use Rattle.std.specs.Option.{ok_or}
use Rattle.std.specs.Ordering.{int_cmp, is_le}
use Rattle.std.proofs.lemmas.Int.{ints}
use Rattle.std.proofs.lemmas.Bool.{cases_lt}
use Rattle.std.proofs.Math.Nat.{mul-le-mul_right, le_of_mul-le-mul_right}
use Rattle.xfrac.specs.Arithmetic.{arithmetic}
use Rattle.xfrac.specs.Divisors.{gcd}
use Rattle.xfrac.specs.Forming.{formed, floor_of}
use Rattle.xfrac.specs.Fractions.{lowest, is_within}
use Rattle.xfrac.specs.Gcds.{gcd-is, positive_quotient, product_positive}
use Rattle.xfrac.specs.Laws.{IsNumber, LowestIsEqual, SumIsExact, FloorIsNotAbove, FloorIsGreatest}
use Rattle.xfrac.specs.Near.{difference}
use Rattle.xfrac.specs.Sequencing.{◌>>=◌}
use Rattle.xfrac.specs.declared.value.ArithOp.TheVariants.{Add, Mul, Div}
use Rattle.xfrac.specs.declared.value.NumFault.{NumFault}
use Rattle.xfrac.specs.declared.value.NumFault.TheVariants.{Overflow}
use Rattle.xfrac.specs.declared.value.XFrac.{XFrac}
use Rattle.xfrac.specs.declared.value.XFrac.TheVariants.{Fin}
use Rattle.value_fn.specs.Elements.{half, rounded, multiple, IsNearestMultiple, RoundingIsNearest}

-- ---- integers times naturals

minus_times : (m k : ℕ) → neg_ℤ (pos m) *ℤ pos k ≡ neg_ℤ (pos (m * k))
minus_times zero k = let e : 0 * k ≡ 0 = omega arith in ap pos e ∙ sym (ap (λ z. neg_ℤ (pos z)) e)
minus_times (suc m) k = refl

times_times : (z : ℤ) (j k : ℕ) → (z *ℤ pos j) *ℤ pos k ≡ z *ℤ pos (j * k)
times_times (pos n) j k = let e : n * j * k ≡ n * (j * k) = omega arith in ap pos e
times_times (negsuc n) j k =
    let e : suc n * j * k ≡ suc n * (j * k) = omega arith in minus_times (suc n * j) k ∙ ap (λ x. neg_ℤ (pos x)) e

times_swapped : (z : ℤ) (j k : ℕ) → (z *ℤ pos j) *ℤ pos k ≡ (z *ℤ pos k) *ℤ pos j
times_swapped z j k =
    let e : j * k ≡ k * j = omega arith in times_times z j k ∙ ap (λ x. z *ℤ pos x) e ∙ sym (times_times z k j)

plus_times : (z : ℤ) (c k : ℕ) → (z +ℤ pos c) *ℤ pos k ≡ z *ℤ pos k +ℤ pos (c * k)
plus_times (pos n) c k = let e : (n + c) * k ≡ n * k + c * k = omega arith in ap pos e
plus_times (negsuc n) c k =
    elim (cases_lt c (suc n)) [
      | inl less ↦
          let r : ℕ = suc n - c in
          let e : r + c ≡ suc n = omega arith in
          ap (λ z. z *ℤ pos k) (below r c n e) ∙ minus_times r k ∙ sym (down (r * k) (c * k) (suc n * k) (over r c (suc n) k e))
      | inr more ↦
          let r : ℕ = c - suc n in
          let e : r + suc n ≡ c = omega arith in
          ap (λ z. z *ℤ pos k) (above r c n e) ∙ sym (up (r * k) (c * k) (suc n * k) (over r (suc n) c k e))
    ]
  where
    over : (r c n k : ℕ) → r + c ≡ n → r * k + c * k ≡ n * k
    over r c n k e = let h : r * k + c * k ≡ (r + c) * k = omega arith in h ∙ ap (λ z. z * k) e

    below : (r c n : ℕ) → r + c ≡ suc n → negsuc n +ℤ pos c ≡ neg_ℤ (pos r)
    below r c n e = omega (arith, ints)

    above : (r c n : ℕ) → r + suc n ≡ c → negsuc n +ℤ pos c ≡ pos r
    above r c n e = omega (arith, ints)

    down : (r c n : ℕ) → r + c ≡ n → neg_ℤ (pos n) +ℤ pos c ≡ neg_ℤ (pos r)
    down r c n e = omega (arith, ints)

    up : (r c n : ℕ) → r + n ≡ c → neg_ℤ (pos n) +ℤ pos c ≡ pos r
    up r c n e = omega (arith, ints)

-- ---- the order of integers times naturals

order_cases : (x y : ℤ) → (x <ℤ y) ⊎ (y ≤ℤ x)
order_cases (pos a) (pos b) =
    elim (cases_lt a b) [ inl less ↦ inl (omega (arith, ints)) | inr more ↦ inr (omega (arith, ints)) ]
order_cases (pos a) (negsuc b) = inr (omega (arith, ints))
order_cases (negsuc a) (pos b) = inl (omega (arith, ints))
order_cases (negsuc a) (negsuc b) =
    elim (cases_lt b a) [ inl less ↦ inl (omega (arith, ints)) | inr more ↦ inr (omega (arith, ints)) ]

grown : (x y : ℤ) (k : ℕ) → x ≤ℤ y → (x *ℤ pos k) ≤ℤ (y *ℤ pos k)
grown (pos a) (pos b) k h =
    let e : a ≤ b = omega (arith, ints) in out (a * k) (b * k) (mul-le-mul_right k e)
  where
    out : (x y : ℕ) → x ≤ y → pos x ≤ℤ pos y
    out x y h = omega (arith, ints)
grown (pos a) (negsuc b) k h = absurd (omega (arith, ints))
grown (negsuc a) (pos b) k h = out (suc a * k) (b * k)
  where
    out : (x y : ℕ) → neg_ℤ (pos x) ≤ℤ pos y
    out x y = omega (arith, ints)
grown (negsuc a) (negsuc b) k h =
    let e : suc b ≤ suc a = omega (arith, ints) in out (suc a * k) (suc b * k) (mul-le-mul_right k e)
  where
    out : (x y : ℕ) → y ≤ x → neg_ℤ (pos x) ≤ℤ neg_ℤ (pos y)
    out x y h = omega (arith, ints)

shrunk : (x y : ℤ) (k : ℕ) → 0 < k → (x *ℤ pos k) ≤ℤ (y *ℤ pos k) → x ≤ℤ y
shrunk (pos a) (pos b) k some h =
    let e : a * k ≤ b * k = inside (a * k) (b * k) h in
    let f : a ≤ b = le_of_mul-le-mul_right e some in
    omega (arith, ints)
  where
    inside : (x y : ℕ) → pos x ≤ℤ pos y → x ≤ y
    inside x y h = omega (arith, ints)
shrunk (pos a) (negsuc b) k some h = absurd (apart (a * k) (suc b * k) (product_positive (suc b) k (omega arith) some) h)
  where
    apart : (x y : ℕ) → 0 < y → pos x ≤ℤ neg_ℤ (pos y) → ⊥
    apart x y some h = omega (arith, ints)
shrunk (negsuc a) (pos b) k some h = omega (arith, ints)
shrunk (negsuc a) (negsuc b) k some h =
    let e : suc b * k ≤ suc a * k = inside (suc a * k) (suc b * k) h in
    let f : suc b ≤ suc a = le_of_mul-le-mul_right e some in
    omega (arith, ints)
  where
    inside : (x y : ℕ) → neg_ℤ (pos x) ≤ℤ neg_ℤ (pos y) → y ≤ x
    inside x y h = omega (arith, ints)

apart_order : (x y : ℤ) → x <ℤ y → y ≤ℤ x → ⊥
apart_order x y h k = omega (arith, ints)

strictly : (x y : ℤ) (k : ℕ) → 0 < k → x <ℤ y → (x *ℤ pos k) <ℤ (y *ℤ pos k)
strictly x y k some h =
    elim (order_cases (x *ℤ pos k) (y *ℤ pos k)) [ inl less ↦ less | inr more ↦ absurd (apart_order x y h (shrunk y x k some more)) ]

strictly_shrunk : (x y : ℤ) (k : ℕ) → (x *ℤ pos k) <ℤ (y *ℤ pos k) → x <ℤ y
strictly_shrunk x y k h =
    elim (order_cases x y) [ inl less ↦ less | inr more ↦ absurd (apart_order (x *ℤ pos k) (y *ℤ pos k) h (grown y x k more)) ]

-- an integer stands to a/r as to an equal b/k
same_below : (z a b : ℤ) (r k : ℕ) → 0 < r → a *ℤ pos k ≡ b *ℤ pos r → (z *ℤ pos r) ≤ℤ a → (z *ℤ pos k) ≤ℤ b
same_below z a b r k some e h =
    let f : ((z *ℤ pos r) *ℤ pos k) ≤ℤ (a *ℤ pos k) = grown (z *ℤ pos r) a k h in
    shrunk (z *ℤ pos k) b r some (subst (λ x. x ≤ℤ (b *ℤ pos r)) (times_swapped z r k) (subst (λ y. ((z *ℤ pos r) *ℤ pos k) ≤ℤ y) e f))

same_above : (z a b : ℤ) (r k : ℕ) → 0 < k → a *ℤ pos k ≡ b *ℤ pos r → a <ℤ (z *ℤ pos r) → b <ℤ (z *ℤ pos k)
same_above z a b r k some e h =
    let f : (a *ℤ pos k) <ℤ ((z *ℤ pos r) *ℤ pos k) = strictly a (z *ℤ pos r) k some h in
    strictly_shrunk b (z *ℤ pos k) r (subst (λ y. (b *ℤ pos r) <ℤ y) (times_swapped z r k) (subst (λ x. x <ℤ ((z *ℤ pos r) *ℤ pos k)) e f))

-- ---- the nearest of the multiples of y

-- x/y + 1/2 lies in [z, z + 1)
record IsFloored (z x : ℤ) (y : ℕ) : Type 0 where
  below : (z *ℤ pos (y * 2)) ≤ℤ (x *ℤ pos 2 +ℤ pos y)
  above : (x *ℤ pos 2 +ℤ pos y) <ℤ ((z +ℤ pos 1) *ℤ pos (y * 2))

between : (z x : ℤ) (y : ℕ) → IsFloored z x y → (((z *ℤ pos y) *ℤ pos 2) ≤ℤ (x *ℤ pos 2 +ℤ pos y)) × ((x *ℤ pos 2 +ℤ pos y) <ℤ ((z *ℤ pos y) *ℤ pos 2 +ℤ pos (y * 2)))
between z x y is = (
  subst (λ u. u ≤ℤ (x *ℤ pos 2 +ℤ pos y)) (sym (times_times z y 2)) is.below,
  subst (λ u. (x *ℤ pos 2 +ℤ pos y) <ℤ (u +ℤ pos (y * 2))) (sym (times_times z y 2))
      (subst (λ w. (x *ℤ pos 2 +ℤ pos y) <ℤ (z *ℤ pos (y * 2) +ℤ pos w)) one (subst (λ u. (x *ℤ pos 2 +ℤ pos y) <ℤ u) (plus_times z 1 (y * 2)) is.above)),
)
  where
    one : 1 * (y * 2) ≡ y * 2
    one = omega arith

-- where another multiple lies
abbrev IsApart : ℤ → ℤ → ℕ → Type 0
IsApart u w y = (w ≡ u) ⊎ (((u +ℤ pos y) ≤ℤ w) ⊎ ((w +ℤ pos y) ≤ℤ u))

multiples_apart : (z k : ℤ) (y : ℕ) → IsApart (z *ℤ pos y) (k *ℤ pos y) y
multiples_apart z k y =
    elim (order_cases z k) [
      | inl less ↦ inr (inl (step z k (omega (arith, ints))))
      | inr more ↦
          elim (order_cases k z) [
            | inl less ↦ inr (inr (step k z (omega (arith, ints))))
            | inr even ↦ inl (let same : k ≡ z = omega (arith, ints) in ap (λ t. t *ℤ pos y) same)
          ]
    ]
  where
    step : (a b : ℤ) → (a +ℤ pos 1) ≤ℤ b → (a *ℤ pos y +ℤ pos y) ≤ℤ (b *ℤ pos y)
    step a b h =
        let one : 1 * y ≡ y = omega arith in
        subst (λ w. (a *ℤ pos y +ℤ pos w) ≤ℤ (b *ℤ pos y)) one (subst (λ u. u ≤ℤ (b *ℤ pos y)) (plus_times a 1 y) (grown (a +ℤ pos 1) b y h))

nearer : (x u w : ℤ) (y : ℕ) → (u *ℤ pos 2) ≤ℤ (x *ℤ pos 2 +ℤ pos y) → (x *ℤ pos 2 +ℤ pos y) <ℤ (u *ℤ pos 2 +ℤ pos (y * 2)) → IsApart u w y → unsigned_abs (u -ℤ x) ≤ unsigned_abs (w -ℤ x)
nearer x u w y lo hi (inl same) = subst (λ t. unsigned_abs (u -ℤ x) ≤ unsigned_abs (t -ℤ x)) (sym same) (omega arith)
nearer x u w y lo hi (inr (inl after)) = omega (arith, ints)
nearer x u w y lo hi (inr (inr before)) = omega (arith, ints)

farther : (x u w : ℤ) (y : ℕ) → (u *ℤ pos 2) ≤ℤ (x *ℤ pos 2 +ℤ pos y) → (x *ℤ pos 2 +ℤ pos y) <ℤ (u *ℤ pos 2 +ℤ pos (y * 2)) → (u +ℤ pos y) ≤ℤ w → unsigned_abs (w -ℤ x) ≡ unsigned_abs (u -ℤ x) → ⊥
farther x u w y lo hi after same = omega (arith, ints)

nearest_multiple : (z x k : ℤ) (y : ℕ) → IsFloored z x y → unsigned_abs (z *ℤ pos y -ℤ x) ≤ unsigned_abs (k *ℤ pos y -ℤ x)
nearest_multiple z x k y is =
    let both = between z x y is in
    nearer x (z *ℤ pos y) (k *ℤ pos y) y both.0 both.1 (multiples_apart z k y)

upper_multiple : (z x k : ℤ) (y : ℕ) → IsFloored z x y → unsigned_abs (k *ℤ pos y -ℤ x) ≡ unsigned_abs (z *ℤ pos y -ℤ x) → k ≤ℤ z
upper_multiple z x k y is same =
    let both = between z x y is in
    elim (order_cases z k) [
      | inl less ↦ absurd (farther x (z *ℤ pos y) (k *ℤ pos y) y both.0 both.1 (step (omega (arith, ints))) same)
      | inr more ↦ more
    ]
  where
    step : (z +ℤ pos 1) ≤ℤ k → (z *ℤ pos y +ℤ pos y) ≤ℤ (k *ℤ pos y)
    step h =
        let one : 1 * y ≡ y = omega arith in
        subst (λ w. (z *ℤ pos y +ℤ pos w) ≤ℤ (k *ℤ pos y)) one (subst (λ u. u ≤ℤ (k *ℤ pos y)) (plus_times z 1 y) (grown (z +ℤ pos 1) k y h))

-- ---- what rounding forms

abbrev answer : Option XFrac → Result XFrac NumFault
answer o = ok_or o Overflow

abbrev found : XFrac → Result XFrac NumFault
found v = Ok v

found_same : (v w : XFrac) → found v ≡ Ok w → v ≡ w
found_same v w is = cc is

then_ok : (r : Result XFrac NumFault) (next : XFrac → Result XFrac NumFault) (x : XFrac) → (r >>= next) ≡ Ok x → (q : XFrac) × (r ≡ Ok q) × (next q ≡ Ok x)
then_ok (Ok q) next x is = (q, refl, is)
then_ok (Err fault) next x is = absurd (cc is)

formed_ok : (n : ℤ) (d : ℕ) (x : XFrac) → answer (formed n d) ≡ Ok x → x ≡ Fin (lowest n d)
formed_ok n d x is = by_limit (is_within (lowest n d)) is
  where
    by_limit : (b : Bool) → answer (cond b (Some (Fin (lowest n d))) None) ≡ Ok x → x ≡ Fin (lowest n d)
    by_limit true e = sym (found_same (Fin (lowest n d)) x e)
    by_limit false e = absurd (cc e)

lowest_positive : (n : ℤ) (d : ℕ) → 0 < d → 0 < (lowest n d).1
unfolding lowest
lowest_positive n d h = positive_quotient d (gcd (unsigned_abs n) d) (gcd-is (unsigned_abs n) d h).1 h

from_at_most : (x y : ℤ) → IsTrue (is_le (int_cmp x y)) → x ≤ℤ y
from_at_most x y h = grind (arith, ints)

to_at_most : (x y : ℤ) → x ≤ℤ y → IsTrue (is_le (int_cmp x y))
to_at_most x y h = grind (arith, ints)

-- x/y and its half more, with the parts of each step: q / p ≡ x / y, and s / r ≡ (q * 2 + p) / (p * 2)
halves_added : (q x : ℤ) (p y : ℕ) → q *ℤ pos y ≡ x *ℤ pos p → (q *ℤ pos 2 +ℤ pos p) *ℤ pos (y * 2) ≡ (x *ℤ pos 2 +ℤ pos y) *ℤ pos (p * 2)
halves_added q x p y e =
    let left : (q *ℤ pos 2) *ℤ pos (y * 2) ≡ (q *ℤ pos y) *ℤ pos 4 =
    times_times q 2 (y * 2) ∙ (let f : 2 * (y * 2) ≡ y * 4 = omega arith in ap (λ k. q *ℤ pos k) f) ∙ sym (times_times q y 4) in
    let right : (x *ℤ pos 2) *ℤ pos (p * 2) ≡ (x *ℤ pos p) *ℤ pos 4 =
    times_times x 2 (p * 2) ∙ (let f : 2 * (p * 2) ≡ p * 4 = omega arith in ap (λ k. x *ℤ pos k) f) ∙ sym (times_times x p 4) in
    let middle : p * (y * 2) ≡ y * (p * 2) = omega arith in
    plus_times (q *ℤ pos 2) p (y * 2)
    ∙ ap (λ k. (q *ℤ pos 2) *ℤ pos (y * 2) +ℤ pos k) middle
    ∙ ap (λ z. z +ℤ pos (y * (p * 2))) (left ∙ ap (λ z. z *ℤ pos 4) e ∙ sym right)
    ∙ sym (plus_times (x *ℤ pos 2) y (p * 2))

floored : (z s q x : ℤ) (r p y : ℕ) → 0 < r → 0 < p → 0 < y → q *ℤ pos y ≡ x *ℤ pos p → s *ℤ pos (p * 2) ≡ (q *ℤ pos 2 +ℤ pos p) *ℤ pos r
    → (z *ℤ pos r) ≤ℤ s → s <ℤ ((z +ℤ pos 1) *ℤ pos r) → IsFloored z x y
floored z s q x r p y hr hp hy e f lo hi =
    let g = halves_added q x p y e in
    let pp : 0 < p * 2 = omega arith in
    let yy : 0 < y * 2 = omega arith in
    record {
      below = same_below z (q *ℤ pos 2 +ℤ pos p) (x *ℤ pos 2 +ℤ pos y) (p * 2) (y * 2) pp g (same_below z s (q *ℤ pos 2 +ℤ pos p) r (p * 2) hr f lo);
      above = same_above (z +ℤ pos 1) (q *ℤ pos 2 +ℤ pos p) (x *ℤ pos 2 +ℤ pos y) (p * 2) (y * 2) yy g (same_above (z +ℤ pos 1) s (q *ℤ pos 2 +ℤ pos p) r (p * 2) pp f hi);
    }

-- the distance of a multiple of n/d from a/b
distance : (k a : ℤ) (b n d : ℕ) → difference (multiple k (pos n, d)) (a, b) ≡ unsigned_abs (k *ℤ pos (b * n) -ℤ a *ℤ pos d)
distance k a b n d =
    let e : n * b ≡ b * n = omega arith in
    ap (λ u. unsigned_abs (u -ℤ a *ℤ pos d)) (times_times k n b ∙ ap (λ y. k *ℤ pos y) e)

module _ (equal : LowestIsEqual) (exact : SumIsExact) (not_above : FloorIsNotAbove) (greatest : FloorIsGreatest) where
  -- a floor in integers
  floor_parts : (s : ℤ × ℕ) → IsNumber (Fin s) → let z = int_div_euclid s.0 (pos s.1) in ((z *ℤ pos s.1) ≤ℤ s.0) × (s.0 <ℤ ((z +ℤ pos 1) *ℤ pos s.1))
  floor_parts s number =
      let z : ℤ = int_div_euclid s.0 (pos s.1) in
      let one : s.0 *ℤ pos 1 ≡ s.0 = omega (arith, ints) in
      let lo : (z *ℤ pos s.1) ≤ℤ (s.0 *ℤ pos 1) = from_at_most (z *ℤ pos s.1) (s.0 *ℤ pos 1) (not_above (Fin s) number) in (
        subst (λ t. (z *ℤ pos s.1) ≤ℤ t) one lo,
        elim (order_cases s.0 ((z +ℤ pos 1) *ℤ pos s.1)) [
          | inl less ↦ less
          | inr more ↦
              let up : ((z +ℤ pos 1) *ℤ pos s.1) ≤ℤ (s.0 *ℤ pos 1) = subst (λ t. ((z +ℤ pos 1) *ℤ pos s.1) ≤ℤ t) (sym one) more in
              absurd (over z (from_at_most ((z +ℤ pos 1) *ℤ pos 1) (z *ℤ pos 1) (greatest (Fin s) (Fin (z +ℤ pos 1, 1)) number refl (to_at_most ((z +ℤ pos 1) *ℤ pos s.1) (s.0 *ℤ pos 1) up))))
        ],
      )
    where
      over : (z : ℤ) → ((z +ℤ pos 1) *ℤ pos 1) ≤ℤ (z *ℤ pos 1) → ⊥
      over z h = omega (arith, ints)

  -- the quotient in lowest terms, and the half more
  by_steps : (a : ℤ) (b n d : ℕ) (s x : XFrac) → 0 < b → 0 < d → let q = lowest (a *ℤ pos d) (b * suc n) in
      arithmetic Add (Fin q) half ≡ Ok s → arithmetic Mul (floor_of s) (Fin (pos (suc n), d)) ≡ Ok x → (r : ℤ × ℕ) × (x ≡ Fin r) × IsNearestMultiple (a, b) (pos (suc n), d) r
  by_steps a b n d s x hb hd added scaled =
      let y : ℕ = b * suc n in
      let hy : 0 < y = product_positive b (suc n) hb (omega arith) in
      let q : ℤ × ℕ = lowest (a *ℤ pos d) y in
      let hp : 0 < q.1 = lowest_positive (a *ℤ pos d) y hy in
      let sum = exact q (pos 1, 2) s hp (omega arith) added in
      let t : ℤ × ℕ = lowest (q.0 *ℤ pos 2 +ℤ pos 1 *ℤ pos q.1) (q.1 * 2) in
      let number : IsNumber (Fin t) = subst IsNumber sum.1 sum.0 in
      let parts = floor_parts t number in
      let z : ℤ = int_div_euclid t.0 (pos t.1) in
      let made : x ≡ Fin (lowest (z *ℤ pos (suc n)) (1 * d)) = formed_ok (z *ℤ pos (suc n)) (1 * d) x (subst (λ (w : XFrac). arithmetic Mul (floor_of w) (Fin (pos (suc n), d)) ≡ Ok x) sum.1 scaled) in
      let whole : pos 1 *ℤ pos q.1 ≡ pos q.1 = (let e : 1 * q.1 ≡ q.1 = omega arith in ap pos e) in
      let half_more : t.0 *ℤ pos (q.1 * 2) ≡ (q.0 *ℤ pos 2 +ℤ pos q.1) *ℤ pos t.1 =
      equal (q.0 *ℤ pos 2 +ℤ pos 1 *ℤ pos q.1) (q.1 * 2) (omega arith) ∙ ap (λ w. (q.0 *ℤ pos 2 +ℤ w) *ℤ pos t.1) whole in
      let is : IsFloored z (a *ℤ pos d) y = floored z t.0 q.0 (a *ℤ pos d) t.1 q.1 y number.positive hp hy (equal (a *ℤ pos d) y hy) half_more parts.0 parts.1 in (
        lowest (z *ℤ pos (suc n)) (1 * d),
        made,
        record {
          times = z;
          equal = scaled_equal z n d hd;
          nearest = λ k. subst (λ e. e ≤ difference (multiple k (pos (suc n), d)) (a, b)) (sym (distance z a b (suc n) d)) (subst (λ e. unsigned_abs (z *ℤ pos y -ℤ a *ℤ pos d) ≤ e) (sym (distance k a b (suc n) d)) (nearest_multiple z (a *ℤ pos d) k y is));
          upper = λ k same. upper_multiple z (a *ℤ pos d) k y is (sym (distance k a b (suc n) d) ∙ same ∙ distance z a b (suc n) d);
        },
      )
    where
      scaled_equal : (z : ℤ) (n d : ℕ) → 0 < d → (lowest (z *ℤ pos (suc n)) (1 * d)).0 *ℤ pos d ≡ (z *ℤ pos (suc n)) *ℤ pos (lowest (z *ℤ pos (suc n)) (1 * d)).1
      scaled_equal z n d hd =
          let e : 1 * d ≡ d = omega arith in
          ap (λ k. (lowest (z *ℤ pos (suc n)) (1 * d)).0 *ℤ pos k) (sym e) ∙ equal (z *ℤ pos (suc n)) (1 * d) (omega arith)

  by_parts : (v : ℤ × ℕ) (m : ℤ) (d : ℕ) (x : XFrac) → 0 < v.1 → 0 < d → pos 0 <ℤ m → rounded (Fin v) (Fin (m, d)) ≡ Ok x → (r : ℤ × ℕ) × (x ≡ Fin r) × IsNearestMultiple v (m, d) r
  by_parts v (pos zero) d x hb hd some is = absurd (omega (arith, ints))
  by_parts v (negsuc n) d x hb hd some is = absurd (omega (arith, ints))
  by_parts v (pos (suc n)) d x hb hd some is =
      let m : XFrac = Fin (pos (suc n), d) in
      let first = then_ok (arithmetic Div (Fin v) m) (λ quotient. arithmetic Add quotient half >>= λ shifted. arithmetic Mul (floor_of shifted) m) x is in
      let second = then_ok (arithmetic Add first.0 half) (λ shifted. arithmetic Mul (floor_of shifted) m) x first.2 in
      let quotient : first.0 ≡ Fin (lowest (v.0 *ℤ pos d) (v.1 * suc n)) = formed_ok (v.0 *ℤ pos d) (v.1 * suc n) first.0 first.1 in
      by_steps v.0 v.1 n d second.0 x hb hd (subst (λ (w : XFrac). arithmetic Add w half ≡ Ok second.0) quotient second.1) second.2

  pub rounds_to_nearest : RoundingIsNearest
  rounds_to_nearest v m x hv hm some is = by_parts v m.0 m.1 x hv.positive hm.positive some is
