-- Forming of a sign, a magnitude and a denominator: lemmas that the crates above cite too.
use Rattle.std.proofs.Common.{◌≡◌, ℕ, ◌/◌, ◌<◌, ◌≤◌, zero, suc, refl, sym, subst, ap, ◌∙◌, arith, Bool, true, false, Some, None, ◌⊎◌, inl, inr, nat_le}
use Rattle.std.specs.Prelude.{pos, neg_ℤ, unsigned_abs}
use Rattle.std.specs.Int.{IsGcd}
use Rattle.std.proofs.Math.Nat.{zero-div}
use Rattle.std.proofs.lemmas.Bool.{cond-true, cond-false, le-leb, lt-leb, and_from, and_left, and_right}
use Rattle.xfrac.specs.Divisors.{gcd}
use Rattle.xfrac.specs.Fractions.{IsReduced, limit, lowest, is_within, with_sign}
use Rattle.xfrac.specs.Forming.{formed}
use Rattle.xfrac.specs.Gcds.{gcd-is, gcd_positive, reduced_apart, positive_quotient, reduced_is}
use Rattle.xfrac.specs.Reduced.{IsGcd-one}
use Rattle.xfrac.specs.declared.value.XFrac.TheVariants.{Fin}

pub unsigned_abs-with_sign : (s : Bool) (m : ℕ) → unsigned_abs (with_sign s m) ≡ m
unsigned_abs-with_sign false m = refl
unsigned_abs-with_sign true zero = refl
unsigned_abs-with_sign true (suc m) = refl

pub lowest-with_sign : (s : Bool) (m d : ℕ) → lowest (with_sign s m) d ≡ (with_sign s (m / gcd m d), d / gcd m d)
unfolding lowest
lowest-with_sign false m d = refl
lowest-with_sign true zero d = ap (λ x. (x, d / gcd 0 d)) (nothing (gcd 0 d))
  where
    nothing : (g : ℕ) → pos (0 / g) ≡ neg_ℤ (pos (0 / g))
    nothing g = rw zero-div
lowest-with_sign true (suc m) d = refl

pub formed_outside : (s : Bool) (m d p q : ℕ) → m / gcd m d ≡ p → d / gcd m d ≡ q → (limit < p) ⊎ (limit < q) → formed (with_sign s m) d ≡ None
unfolding is_within
formed_outside s m d p q e f h =
    let l : lowest (with_sign s m) d ≡ (with_sign s p, q) = lowest-with_sign s m d ∙ ap (λ x. (with_sign s x, d / gcd m d)) e ∙ ap (λ y. (with_sign s p, y)) f in
    let w : is_within (with_sign s p, q) ≡ false =
    elim h [
      | inl a ↦ and_left _ _ (ap (λ x. nat_le x limit) (unsigned_abs-with_sign s p) ∙ lt-leb _ _ a)
      | inr b ↦ and_right _ _ (lt-leb _ _ b)
    ] in
    cond-false _ _ _ (ap is_within l ∙ w)

pub formed_within : (s : Bool) (m d p q : ℕ) → m / gcd m d ≡ p → d / gcd m d ≡ q → p ≤ limit → q ≤ limit → formed (with_sign s m) d ≡ Some (Fin (with_sign s p, q))
unfolding is_within
formed_within s m d p q e f a b =
    let l : lowest (with_sign s m) d ≡ (with_sign s p, q) = lowest-with_sign s m d ∙ ap (λ x. (with_sign s x, d / gcd m d)) e ∙ ap (λ y. (with_sign s p, y)) f in
    let w : is_within (with_sign s p, q) ≡ true =
    and_from _ _ (ap (λ x. nat_le x limit) (unsigned_abs-with_sign s p) ∙ le-leb _ _ a) (le-leb _ _ b) in
    cond-true _ _ _ (ap is_within l ∙ w) ∙ ap (λ x. Some (Fin x)) l

pub reduced_parts : (m d p q : ℕ) → 0 < d → m / gcd m d ≡ p → d / gcd m d ≡ q → p ≤ limit → q ≤ limit → IsReduced p q
reduced_parts m d p q h e f a b =
    record {
      positive = subst (λ x. 0 < x) f (positive_quotient d (gcd m d) (gcd-is m d h).1 h);
      numerator_within = a;
      denominator_within = b;
      lowest = subst (λ x. IsGcd x q 1) e (subst (λ y. IsGcd (m / gcd m d) y 1) f (reduced_apart m d (gcd m d) (gcd_positive m d h) (gcd-is m d h)));
    }

-- a whole number is in lowest terms as it stands
pub reduced_whole : (m d : ℕ) → d ≡ 1 → (m / gcd m d ≡ m) × (d / gcd m d ≡ 1)
reduced_whole m d e =
    subst (λ x. (m / gcd m x ≡ m) × (x / gcd m x ≡ 1)) (sym e) (reduced_is m 1 m 1 (omega arith) (omega arith) (IsGcd-one m) refl)
