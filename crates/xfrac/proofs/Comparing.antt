-- Comparison of ratios over one denominator, and equality by parts.
use Rattle.std.proofs.Common.{◌≡◌, ℕ, ◌*◌, ◌<◌, ◌↔◌, refl, sym, subst, ap, ◌∙◌, arith, Bool, true, false, inl, inr, IsTrue}
use Rattle.std.specs.Prelude.{ℤ, pos, unsigned_abs, ◌*ℤ◌}
use Rattle.std.specs.declared.cmp.Ordering.{Ordering}
use Rattle.std.specs.declared.cmp.Ordering.TheVariants.{Less, Equal, Greater}
use Rattle.std.specs.Ordering.{nat_cmp, int_cmp, is_eq}
use Rattle.std.specs.Cmp.{nat_cmp_is}
use Rattle.std.proofs.lemmas.Bool.{cases_lt, false≢true}
use Rattle.std.proofs.lemmas.Int.{ints}
use Rattle.std.proofs.Math.Nat.{mul-lt-mul_of_pos_right}
use Rattle.xfrac.specs.Fractions.{IsReduced}
use Rattle.xfrac.specs.Order.{fraction_order}
use Rattle.xfrac.specs.declared.value.XFrac.TheVariants.{Fin}
use Rattle.xfrac.proofs.LawProofs.{equal_numbers}

-- over one denominator the numerators decide
pub same_scaled : (a c k : ℕ) → 0 < k → nat_cmp a c ≡ nat_cmp (a * k) (c * k)
same_scaled a c k h =
    elim (cases_lt a c) [
      | inl less ↦ sym (nat_cmp_is a c Less less) ∙ nat_cmp_is (a * k) (c * k) Less (mul-lt-mul_of_pos_right less h)
      | inr more ↦
          elim (cases_lt c a) [
            | inl above ↦ sym (nat_cmp_is a c Greater above) ∙ nat_cmp_is (a * k) (c * k) Greater (mul-lt-mul_of_pos_right above h)
            | inr under ↦
                let e : a ≡ c = omega arith in
                sym (nat_cmp_is a c Equal e) ∙ nat_cmp_is (a * k) (c * k) Equal (ap (λ z. z * k) e)
          ]
    ]

same_int : (x : ℤ) → int_cmp x x ≡ Equal
same_int x = grind (arith, ints)

equal_answer : (o : Ordering) → is_eq o ≡ true → o ≡ Equal
equal_answer Less e = absurd (false≢true e)
equal_answer Equal e = refl
equal_answer Greater e = absurd (false≢true e)

by_both : (x y : Bool) → (x ≡ true → y ≡ true) → (y ≡ true → x ≡ true) → x ≡ y
by_both true true f g = refl
by_both false false f g = refl
by_both true false f g = sym (f refl)
by_both false true f g = g refl

same_fraction : (a b : ℤ × ℕ) → Fin a ≡ Fin b → a ≡ b
same_fraction a b e = cc

-- of fractions in lowest terms the parts decide
pub equal_by_parts : (a b : ℤ × ℕ) (t : Bool) → IsReduced (unsigned_abs a.0) a.1 → IsReduced (unsigned_abs b.0) b.1 → (IsTrue t ↔ (a ≡ b)) → t ≡ is_eq (fraction_order a b)
equal_by_parts a b t left right is =
    by_both t (is_eq (fraction_order a b))
    (λ h. ap is_eq (subst (λ z. fraction_order a z ≡ Equal) (is.0 h) (reflexive a)))
    (λ h. is.1 (same_fraction a b (equal_numbers (Fin a) (Fin b) left right (equal_answer _ h))))
  where
    reflexive : (f : ℤ × ℕ) → fraction_order f f ≡ Equal
    reflexive f = same_int (f.0 *ℤ pos f.1)

-- of whole numbers the numerators decide
pub wholes_by_numerators : (a b : ℤ × ℕ) → a.1 ≡ 1 → b.1 ≡ 1 → int_cmp a.0 b.0 ≡ fraction_order a b
wholes_by_numerators a b one other =
    let first : a.0 *ℤ pos 1 ≡ a.0 = omega (arith, ints) in
    let second : b.0 *ℤ pos 1 ≡ b.0 = omega (arith, ints) in
    let left : a.0 *ℤ pos b.1 ≡ a.0 = ap (λ (k : ℕ). a.0 *ℤ pos k) other ∙ first in
    let right : b.0 *ℤ pos a.1 ≡ b.0 = ap (λ (k : ℕ). b.0 *ℤ pos k) one ∙ second in
    sym (ap (λ (x : ℤ). int_cmp x (b.0 *ℤ pos a.1)) left ∙ ap (λ (y : ℤ). int_cmp a.0 y) right)
