-- The rank of a quantile lies among the places of the values.
use Rattle.std.proofs.Common.{◌≡◌, ◌∙◌, ℕ, suc, ◌*◌, ◌/◌, ◌<◌, ◌≤◌, Bool, true, false, cond, Some, None, Ok, refl, sym, ap, subst, arith, ltb}
use Rattle.std.specs.Prelude.{pos, negsuc, ◌*ℤ◌, int_lt, unsigned_abs}
use Rattle.std.specs.Option.{ok_or}
use Rattle.std.specs.Ordering.{is_gt, is_lt}
use Rattle.std.specs.declared.cmp.Ordering.TheVariants.{Less, Equal, Greater}
use Rattle.std.proofs.lemmas.Bool.{false≢true, ltb-false, ltb-true}
use Rattle.std.proofs.Math.Nat.{div-le_of_le-mul, mul-le-mul_right, le_of_mul-le-mul_right}
use Rattle.xfrac.specs.Arithmetic.{arithmetic, whole_number}
use Rattle.xfrac.specs.Divisors.{gcd}
use Rattle.xfrac.specs.Forming.{floor_of}
use Rattle.xfrac.specs.Fractions.{lowest, is_within}
use Rattle.xfrac.specs.Kinds.{is_not_a_number}
use Rattle.xfrac.specs.Laws.{IsNumber, LowestIsEqual}
use Rattle.xfrac.specs.Order.{compares}
use Rattle.xfrac.specs.declared.value.ArithOp.TheVariants.{Mul}
use Rattle.xfrac.specs.declared.value.CompareOp.TheVariants.{Lt, Gt}
use Rattle.xfrac.specs.declared.value.NumFault.TheVariants.{Overflow}
use Rattle.xfrac.specs.declared.value.XFrac.{XFrac}
use Rattle.xfrac.specs.declared.value.XFrac.TheVariants.{Fin, PosInf, NegInf, NaN}
use Rattle.window_fn.specs.Aggregates.{place_of}
use Rattle.window_fn.proofs.Sorting.{neg_below}

-- a quotient that is at most k times 1
below_share : (a b n d k : ℕ) → 0 < d → n ≤ d → a * d ≡ n * k * b → a / b ≤ k
below_share a b n d k pd le eq =
    let u : n * (k * b) ≤ d * (k * b) = mul-le-mul_right (k * b) le in
    let v : a * d ≤ b * k * d = omega arith in
    div-le_of_le-mul b (le_of_mul-le-mul_right v pd)

floor_within : LowestIsEqual → (n d k : ℕ) → 0 < d → n ≤ d → place_of (floor_of (Fin (lowest (pos n *ℤ pos k) d))) ≤ k
unfolding lowest
floor_within equal n d k pd le =
    below_share (n * k / gcd (n * k) d) (d / gcd (n * k) d) n d k pd le (ap unsigned_abs (equal (pos n *ℤ pos k) d pd))

-- a number that is formed is the one in lowest terms
is_formed : (b : Bool) (l r : XFrac) → ok_or (cond b (Some l) None) Overflow ≡ Ok r → l ≡ r
is_formed true l r e = cc
is_formed false l r e = absurd (cc)

-- a number below 0 is refused, and so is one above 1
below_zero : (n d : ℕ) → compares Lt (Fin (negsuc n, d)) (whole_number 0) ≡ true
below_zero n d = ap (λ b. is_lt (cond b Less (cond (int_lt (pos 0 *ℤ pos d) (negsuc n *ℤ pos 1)) Greater Equal))) (neg_below (suc n * 1) (0 * d) (omega arith))

not_above : (a b : ℕ) (p q : Bool) → ltb a b ≡ p → ltb b a ≡ q → is_gt (cond p Less (cond q Greater Equal)) ≡ false → a ≤ b
not_above a b true q ep eq h = let l = ltb-true a b ep in omega arith
not_above a b false true ep eq h = absurd (cc)
not_above a b false false ep eq h = ltb-false b a eq

pub rank_within : LowestIsEqual → (q r : XFrac) (k : ℕ) → IsNumber q → is_not_a_number q ≡ false → compares Lt q (whole_number 0) ≡ false → compares Gt q (whole_number 1) ≡ false → arithmetic Mul q (whole_number k) ≡ Ok r → place_of (floor_of r) ≤ k
rank_within equal NaN r k number is low high e = absurd (false≢true (sym is))
rank_within equal PosInf r k number is low high e = absurd (false≢true (sym high))
rank_within equal NegInf r k number is low high e = absurd (false≢true (sym low))
rank_within equal (Fin (negsuc n, d)) r k number is low high e = absurd (false≢true (sym low ∙ below_zero n d))
rank_within equal (Fin (pos n, d)) r k number is low high e =
    let at_most : n * 1 ≤ 1 * d = not_above (n * 1) (1 * d) (ltb (n * 1) (1 * d)) (ltb (1 * d) (n * 1)) refl refl high in
    let l = Fin (lowest (pos n *ℤ pos k) (d * 1)) in
    subst (λ v. place_of (floor_of v) ≤ k) (is_formed (is_within (lowest (pos n *ℤ pos k) (d * 1))) l r e)
    (floor_within equal n (d * 1) k (omega (arith, number.positive)) (omega arith))
