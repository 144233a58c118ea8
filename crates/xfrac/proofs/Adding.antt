-- Totals with one more number.
use Rattle.std.proofs.Common.{◌≡◌, ℕ, ◌+◌, ◌*◌, ◌/◌, ◌<◌, zero, suc, refl, sym, subst, ap, ◌∙◌, arith, List, [], ◌∷◌, ◌++◌, Bool, true, false, ◌||◌}
use Prim.Native.Nat.{◌∣◌}
use Rattle.std.specs.Prelude.{ℤ}
use Rattle.std.proofs.Math.Nat.{mul-div_cancel_left, div_self, dvd-mul_left, dvd_antisymm}
use Rattle.std.proofs.lemmas.Nat.Gcd.{dvd_refl}
use Rattle.xfrac.specs.AnySize.{AloneStandsForAny}
use Rattle.xfrac.specs.Divisors.{lcm}
use Rattle.xfrac.specs.Fractions.{with_sign}
use Rattle.xfrac.specs.Sums.{Totals, totals, joined, alone, with_part, upper, lower, part_above, part_below, denominator_of}
use Rattle.xfrac.specs.declared.value.XFrac.{XFrac}
use Rattle.xfrac.specs.Laws.{JoinedStandsForBoth, AloneStandsForOne}
use Rattle.xfrac.specs.declared.value.XFrac.TheVariants.{Fin, PosInf, NegInf, NaN}
use Rattle.xfrac.proofs.Multiples.{lcm-dvd, dvd-lcm_left}
use Rattle.xfrac.proofs.Totalling.{same_totals, totals-single, joined_totals}

pub above-with_sign : (s : Bool) (m d : ℕ) → part_above (Fin (with_sign s m, d)) ≡ upper s m
above-with_sign false m d = refl
above-with_sign true zero d = refl
above-with_sign true (suc m) d = refl

pub below-with_sign : (s : Bool) (m d : ℕ) → part_below (Fin (with_sign s m, d)) ≡ lower s m
below-with_sign false m d = refl
below-with_sign true zero d = refl
below-with_sign true (suc m) d = omega arith

pub upper_times : (s : Bool) (m k : ℕ) → upper s m * k ≡ upper s (m * k)
upper_times false m k = refl
upper_times true m k = omega arith

pub lower_times : (s : Bool) (m k : ℕ) → lower s m * k ≡ lower s (m * k)
lower_times false m k = omega arith
lower_times true m k = refl

or_false : (b : Bool) → (b || false) ≡ b
or_false true = refl
or_false false = refl

lcm-dividing : (a b : ℕ) → 0 < a → 0 < b → b ∣ a → lcm a b ≡ a
lcm-dividing a b pa pb h = dvd_antisymm (lcm-dvd a b a pa pb (dvd_refl a) h) (dvd-lcm_left a b pb)

-- a number whose denominator divides the common one
pub joined_dividing : (t : Totals) (s : Bool) (m d k : ℕ) → 0 < t.multiple → 0 < d → k * d ≡ t.multiple → joined t (alone (Fin (with_sign s m, d))) ≡ with_part t s (m * k)
joined_dividing t s m d k pt pd is =
    let goes : d ∣ t.multiple = subst (λ z. d ∣ z) is (dvd-mul_left d k) in
    let e : lcm t.multiple d ≡ t.multiple = lcm-dividing t.multiple d pt pd goes in
    let one : lcm t.multiple d / t.multiple ≡ 1 = ap (λ z. z / t.multiple) e ∙ div_self pt in
    let turned : d * k ≡ t.multiple = (let f : d * k ≡ k * d = omega arith in f) ∙ is in
    let times : lcm t.multiple d / d ≡ k = ap (λ z. z / d) (e ∙ sym turned) ∙ mul-div_cancel_left k pd in
    same_totals e
    (part t.above (upper s m) (upper s (m * k)) _ _ k one times (upper_times s m k) (above-with_sign s m d))
    (part t.below (lower s m) (lower s (m * k)) _ _ k one times (lower_times s m k) (below-with_sign s m d))
    (or_false _) (or_false _) (or_false _) refl
  where
    part : (a u v x y k : ℕ) {w : ℕ} → x ≡ 1 → y ≡ k → u * k ≡ v → w ≡ u → a * x + w * y ≡ a + v
    part a u v x y k {w} one times is same =
        let f : a * 1 ≡ a = omega arith in
        ap (λ z. a * z + w * y) one ∙ ap (λ z. z + w * y) f ∙ ap (λ z. a + w * z) times ∙ ap (λ z. a + z * k) same ∙ ap (λ z. a + z) is

-- a list with one more number
pub stands_for_more : (t : Totals) (x : XFrac) (xs : List XFrac) → 0 < t.multiple → 0 < denominator_of x → t ≡ totals xs → joined t (alone x) ≡ totals (xs ++ x ∷ [])
stands_for_more t x xs pt px is = joined_totals xs (x ∷ []) t (alone x) is (sym (totals-single x px)) pt px

-- the same of a fraction that is split
pub joined_split : (t : Totals) (f : ℤ × ℕ) (s : Bool) (m d k n : ℕ) → t.multiple ≡ n → 0 < n → f ≡ (with_sign s m, d) → 0 < d → k * d ≡ n → joined t (alone (Fin f)) ≡ with_part t s (m * k)
joined_split t f s m d k n same pn is pd goes =
    ap (λ x. joined t (alone (Fin x))) is ∙ joined_dividing t s m d k (subst (λ z. 0 < z) (sym same) pn) pd (goes ∙ sym same)

pub joined_stands : JoinedStandsForBoth
joined_stands a b xs ys pa pb is also = joined_totals xs ys a b is also pa pb

pub any_stands : AloneStandsForAny
any_stands x has = sym (totals-single x has)

pub alone_stands : AloneStandsForOne
alone_stands (Fin f) is = any_stands (Fin f) is.positive
alone_stands PosInf is = any_stands PosInf (omega arith)
alone_stands NegInf is = any_stands NegInf (omega arith)
alone_stands NaN is = any_stands NaN (omega arith)
