-- Which fractions are in lowest terms: lemmas that the crates above cite too.
use Rattle.std.proofs.Common.{ℕ, ◌≤◌, arith}
use Rattle.std.proofs.Math.Nat.{one-dvd}
use Rattle.std.specs.Int.{IsGcd}
use Rattle.xfrac.specs.Fractions.{IsReduced, limit}

-- 1 is the greatest common divisor of any number and 1
pub IsGcd-one : (m : ℕ) → IsGcd m 1 1
IsGcd-one m = (one-dvd m, one-dvd 1, λ d left right. right)

pub whole_is_reduced : (m : ℕ) → m ≤ limit → IsReduced m 1
whole_is_reduced m within = record { positive = omega arith; numerator_within = within; denominator_within = omega arith; lowest = IsGcd-one m }
