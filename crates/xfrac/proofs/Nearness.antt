-- The test of nearness on two products of natural numbers.
use Rattle.std.proofs.Common.{◌≡◌, ℕ, ◌+◌, ◌-◌, ◌*◌, ◌<◌, ◌↔◌, zero, suc, arith, Bool, true, false, ◌||◌, nat_lt, ◌==◌, refl, subst}
use Rattle.std.specs.Prelude.{ℤ, pos, negsuc, neg_ℤ, ◌-ℤ◌, ◌<ℤ◌, ◌*ℤ◌, unsigned_abs}
use Rattle.std.proofs.lemmas.Int.{ints}
use Rattle.std.proofs.lemmas.Bool.Decides.{nat_tests}
use Rattle.std.proofs.lemmas.Bool.{eq-eqb, false≢true}
use Rattle.xfrac.specs.Near.{are_near}

between : (x y : ℕ) → unsigned_abs (pos x -ℤ pos y) ≡ (x - y) + (y - x)
between x y = omega (arith, ints)

between_below : (x y : ℕ) → unsigned_abs (neg_ℤ (pos x) -ℤ neg_ℤ (pos y)) ≡ (x - y) + (y - x)
between_below x y = omega (arith, ints)

across : (x y : ℕ) → unsigned_abs (pos x -ℤ neg_ℤ (pos y)) ≡ x + y
across x y = omega (arith, ints)

across_below : (x y : ℕ) → unsigned_abs (neg_ℤ (pos x) -ℤ pos y) ≡ x + y
across_below x y = omega (arith, ints)

alike : (x y d : ℕ) → d ≡ (x - y) + (y - x) → 0 < x + y → ((d == 0 || nat_lt (d * 1000000) (x + y)) ≡ true) ↔ ((x * 999999 < y * 1000001) × (y * 999999 < x * 1000001))
alike x y d e h = (λ t. grind (arith, nat_tests), λ p. grind (arith, nat_tests))

unlike : (x y d : ℕ) → d ≡ x + y → 0 < x + y → (d == 0 || nat_lt (d * 1000000) (x + y)) ≡ false
unlike x y d e h = grind (arith, nat_tests)

sum_positive : (a b d e : ℕ) → 0 < d → 0 < e → 0 < a + b → 0 < a * e + b * d
sum_positive zero zero d e p q h = absurd (omega arith)
sum_positive zero (suc b) d e p q h = omega arith
sum_positive (suc a) b d e p q h = omega arith

both_tests : (a b d e : ℕ) (t : Bool) → ((t ≡ true) ↔ ((a * e * 999999 < b * d * 1000001) × (b * d * 999999 < a * e * 1000001))) → (t ≡ true) ↔ ((a * 999999 * e < b * 1000001 * d) × (b * 999999 * d < a * 1000001 * e))
both_tests a b d e t h = (
  λ s. let p : a * e * 999999 < b * d * 1000001 = (h.0 s).0 in
      let q : b * d * 999999 < a * e * 1000001 = (h.0 s).1 in
      (omega arith, omega arith),
  λ k. let p : a * 999999 * e < b * 1000001 * d = k.0 in
      let q : b * 999999 * d < a * 1000001 * e = k.1 in
      h.1 (omega arith, omega arith),
)

-- of two numbers of one sign that aren't both 0, each has to be less than 1000001/999999 of the other
pub near_alike : (n m : ℤ) (d e : ℕ) → 0 < d → 0 < e → (n <ℤ pos 0 → m <ℤ pos 0) → (m <ℤ pos 0 → n <ℤ pos 0) → 0 < unsigned_abs n + unsigned_abs m → (are_near (n, d) (m, e) ≡ true) ↔ ((unsigned_abs n * 999999 * e < unsigned_abs m * 1000001 * d) × (unsigned_abs m * 999999 * d < unsigned_abs n * 1000001 * e))
near_alike (pos a) (pos b) d e p q f g h =
    both_tests a b d e _ (alike (a * e) (b * d) _ (between (a * e) (b * d)) (sum_positive a b d e p q h))
near_alike (negsuc a) (negsuc b) d e p q f g h =
    both_tests (suc a) (suc b) d e _ (alike (suc a * e) (suc b * d) _ (between_below (suc a * e) (suc b * d)) (sum_positive (suc a) (suc b) d e p q h))
near_alike (pos a) (negsuc b) d e p q f g h =
    let k : pos a <ℤ pos 0 = g (omega (arith, ints)) in absurd (omega (arith, ints))
near_alike (negsuc a) (pos b) d e p q f g h =
    let k : pos b <ℤ pos 0 = f (omega (arith, ints)) in absurd (omega (arith, ints))

-- numbers of two signs that aren't both 0 are not near
pub far_apart : (n m : ℤ) (d e : ℕ) → 0 < d → 0 < e → ((n <ℤ pos 0 → m <ℤ pos 0) → (m <ℤ pos 0 → n <ℤ pos 0) → ⊥) → 0 < unsigned_abs n + unsigned_abs m → are_near (n, d) (m, e) ≡ false
far_apart (pos a) (pos b) d e p q f h = absurd (f (λ k. absurd (omega (arith, ints))) (λ k. absurd (omega (arith, ints))))
far_apart (negsuc a) (negsuc b) d e p q f h = absurd (f (λ k. omega (arith, ints)) (λ k. omega (arith, ints)))
far_apart (pos a) (negsuc b) d e p q f h =
    unlike (a * e) (suc b * d) _ (across (a * e) (suc b * d)) (sum_positive a (suc b) d e p q h)
far_apart (negsuc a) (pos b) d e p q f h =
    unlike (suc a * e) (b * d) _ (across_below (suc a * e) (b * d)) (sum_positive (suc a) b d e p q h)

-- a fraction is near itself
pub near_itself : (a b : ℤ × ℕ) → a ≡ b → are_near a b ≡ true
near_itself a b e = subst (λ z. are_near a z ≡ true) e (nothing (a.0 *ℤ pos a.1))
  where
    or_from_left : (x y : Bool) → x ≡ true → (x || y) ≡ true
    or_from_left true y h = refl
    or_from_left false y h = absurd (false≢true h)

    nothing : (x : ℤ) → (unsigned_abs (x -ℤ x) == 0 || nat_lt (unsigned_abs (x -ℤ x) * 1000000) (unsigned_abs a.0 * a.1 + unsigned_abs a.0 * a.1)) ≡ true
    nothing x =
        let zero : unsigned_abs (x -ℤ x) ≡ 0 = omega (arith, ints) in
        or_from_left _ _ (eq-eqb _ _ zero)
