-- The order of values has to hold of all that look like numbers in a sort; what isn't in lowest terms counts as NaN.
use Rattle.std.proofs.Common.{◌≡◌, ℕ, ◌<◌, Bool, true, false, cond, refl, sym, ap, subst, arith}
use Rattle.std.specs.Prelude.{ℤ, ◌&&◌, ◌||◌, ◌==◌, not, nat_lt, nat_le, unsigned_abs}
use Rattle.std.specs.Int.{IsGcd}
use Rattle.std.specs.Cmp.{IsTotalOrder}
use Rattle.std.specs.Ordering.{ordering_reverse}
use Rattle.std.specs.declared.cmp.Ordering.{Ordering}
use Rattle.std.specs.declared.cmp.Ordering.TheVariants.{Less, Equal}
use Rattle.std.proofs.lemmas.Bool.{and_from, lt-ltb, le-leb, ltb-true}
use Rattle.xfrac.specs.Divisors.{gcd}
use Rattle.xfrac.specs.Fractions.{IsReduced, limit}
use Rattle.xfrac.specs.Gcds.{gcd-is, gcd-unique}
use Rattle.xfrac.specs.Kinds.{is_not_a_number}
use Rattle.xfrac.specs.Laws.{IsNumber, EqualIsSame, LessIsTransitive, OrderIsReversed}
use Rattle.xfrac.specs.Order.{total_order}
use Rattle.xfrac.specs.declared.value.XFrac.{XFrac}
use Rattle.xfrac.specs.declared.value.XFrac.TheVariants.{Fin, PosInf, NegInf, NaN}
use Rattle.promql_meaning.specs.Ranks.{value_order}

-- ---- numbers among all that look like some

pub is_reduced : ℤ × ℕ → Bool
is_reduced f = nat_lt 0 f.1 && (nat_le (unsigned_abs f.0) limit && (nat_le f.1 limit && gcd (unsigned_abs f.0) f.1 == 1))

abbrev pub tidy : XFrac → XFrac
tidy (Fin f) = cond (is_reduced f) (Fin f) NaN
tidy v = v

parts_true : (a b : Bool) → (a && b) ≡ true → (a ≡ true) × (b ≡ true)
parts_true true b h = (refl, h)
parts_true false b h = absurd (cc)

reduced_by : (f : ℤ × ℕ) → is_reduced f ≡ true → IsReduced (unsigned_abs f.0) f.1
unfolding is_reduced
reduced_by f h =
    let one = parts_true (nat_lt 0 f.1) (nat_le (unsigned_abs f.0) limit && (nat_le f.1 limit && gcd (unsigned_abs f.0) f.1 == 1)) h in
    let two = parts_true (nat_le (unsigned_abs f.0) limit) (nat_le f.1 limit && gcd (unsigned_abs f.0) f.1 == 1) one.1 in
    let three = parts_true (nat_le f.1 limit) (gcd (unsigned_abs f.0) f.1 == 1) two.1 in
    let positive : 0 < f.1 = ltb-true 0 f.1 one.0 in
    let same : gcd (unsigned_abs f.0) f.1 ≡ 1 = grind (arith, three.1) in
    record {
      positive = positive;
      numerator_within = grind (arith, two.0);
      denominator_within = grind (arith, three.0);
      lowest = subst (IsGcd (unsigned_abs f.0) f.1) same (gcd-is (unsigned_abs f.0) f.1 positive);
    }

by_reduced : (f : ℤ × ℕ) → IsReduced (unsigned_abs f.0) f.1 → is_reduced f ≡ true
unfolding is_reduced
by_reduced f r =
    let same : gcd (unsigned_abs f.0) f.1 ≡ 1 = gcd-unique (unsigned_abs f.0) f.1 1 r.positive r.lowest in
    and_from _ _ (lt-ltb _ _ r.positive) (and_from _ _ (le-leb _ _ r.numerator_within) (and_from _ _ (le-leb _ _ r.denominator_within) (ap (λ n. n == 1) same)))

pub tidy-is_number : (v : XFrac) → IsNumber (tidy v)
tidy-is_number (Fin f) = by (is_reduced f) refl
  where
    by : (b : Bool) → is_reduced f ≡ b → IsNumber (cond b (Fin f) NaN)
    by true h = reduced_by f h
    by false h = tt
tidy-is_number PosInf = tt
tidy-is_number NegInf = tt
tidy-is_number NaN = tt

pub tidy-same : (v : XFrac) → IsNumber v → tidy v ≡ v
tidy-same (Fin f) r = ap (λ b. cond b (Fin f) NaN) (by_reduced f r)
tidy-same PosInf r = refl
tidy-same NegInf r = refl
tidy-same NaN r = refl

-- ---- NaN comes last

nan_not_less : (x y : XFrac) → is_not_a_number x ≡ true → total_order x y ≡ Less → ⊥
nan_not_less NaN (Fin g) n h = cc
nan_not_less NaN PosInf n h = cc
nan_not_less NaN NegInf n h = cc
nan_not_less NaN NaN n h = cc
nan_not_less (Fin f) y n h = cc
nan_not_less PosInf y n h = cc
nan_not_less NegInf y n h = cc

below_nan : (x z : XFrac) → is_not_a_number x ≡ false → is_not_a_number z ≡ true → total_order x z ≡ Less
below_nan (Fin f) NaN n h = refl
below_nan PosInf NaN n h = refl
below_nan NegInf NaN n h = refl
below_nan NaN z n h = absurd (cc)
below_nan x (Fin g) n h = absurd (cc)
below_nan x PosInf n h = absurd (cc)
below_nan x NegInf n h = absurd (cc)

abbrev pub tidy_order : Bool → XFrac → XFrac → Ordering
tidy_order down v w = value_order down (tidy v) (tidy w)

pub flipped : (a b : Bool) (o p : Ordering) → o ≡ ordering_reverse p → p ≡ ordering_reverse o → cond (not (a || b)) p o ≡ ordering_reverse (cond (not (b || a)) o p)
flipped true true o p e f = e
flipped true false o p e f = e
flipped false true o p e f = e
flipped false false o p e f = f

module _ (equal : EqualIsSame) (reversed : OrderIsReversed) (transitive : LessIsTransitive) where
  either_equal : (b : Bool) (o p : Ordering) (X : Type 0) → (o ≡ Equal → X) → (p ≡ Equal → X) → cond b p o ≡ Equal → X
  either_equal true o p X f g h = g h
  either_equal false o p X f g h = f h

  carried : (x y z : XFrac) → IsNumber x → IsNumber y → IsNumber z → (a b c : Bool) → is_not_a_number x ≡ a → is_not_a_number y ≡ b → is_not_a_number z ≡ c
      → cond (not (a || b)) (total_order y x) (total_order x y) ≡ Less → cond (not (b || c)) (total_order z y) (total_order y z) ≡ Less → cond (not (a || c)) (total_order z x) (total_order x z) ≡ Less
  carried x y z nx ny nz true b c ea eb ec h k = absurd (nan_not_less x y ea h)
  carried x y z nx ny nz false true c ea eb ec h k = absurd (nan_not_less y z eb k)
  carried x y z nx ny nz false false true ea eb ec h k = below_nan x z ea ec
  carried x y z nx ny nz false false false ea eb ec h k = transitive z y x nz ny nx k h

  pub same_of : (down : Bool) (x y : XFrac) → IsNumber x → IsNumber y → value_order down x y ≡ Equal → x ≡ y
  same_of true x y nx ny h = either_equal (not (is_not_a_number x || is_not_a_number y)) (total_order x y) (total_order y x) (x ≡ y) (equal x y nx ny) (λ e. sym (equal y x ny nx e)) h
  same_of false x y nx ny h = equal x y nx ny h

  pub values_total : (down : Bool) → IsTotalOrder (tidy_order down)
  values_total true = record {
    antisymm = λ v w. flipped (is_not_a_number (tidy v)) (is_not_a_number (tidy w)) (total_order (tidy v) (tidy w)) (total_order (tidy w) (tidy v)) (reversed (tidy w) (tidy v)) (reversed (tidy v) (tidy w));
    trans = λ u v w h k. carried (tidy u) (tidy v) (tidy w) (tidy-is_number u) (tidy-is_number v) (tidy-is_number w) (is_not_a_number (tidy u)) (is_not_a_number (tidy v)) (is_not_a_number (tidy w)) refl refl refl h k;
    congr = λ u v w h. ap (λ x. value_order true x (tidy w)) (same_of true (tidy u) (tidy v) (tidy-is_number u) (tidy-is_number v) h);
  }
  values_total false = record {
    antisymm = λ v w. reversed (tidy w) (tidy v);
    trans = λ u v w h k. transitive (tidy u) (tidy v) (tidy w) (tidy-is_number u) (tidy-is_number v) (tidy-is_number w) h k;
    congr = λ u v w h. ap (λ x. value_order false x (tidy w)) (same_of false (tidy u) (tidy v) (tidy-is_number u) (tidy-is_number v) h);
  }
