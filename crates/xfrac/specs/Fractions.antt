-- Fractions in lowest terms within a limit. (This project's own.)
use Rattle.std.specs.Prelude.{ℕ, ◌<◌, ◌≤◌, ◌/◌, ℤ, pos, neg_ℤ, int_div, unsigned_abs, nat_le, ◌&&◌, Bool, true, false}
use Rattle.std.specs.Int.{IsGcd}
use Rattle.xfrac.specs.Divisors.{gcd}

-- the greatest magnitude of a numerator, and the greatest denominator: 10^30
abbrev pub limit : ℕ
limit = 1000000000000000000000000000000

-- a fraction of this magnitude and denominator is in lowest terms and within the limit
pub record IsReduced (magnitude denominator : ℕ) : Type 0 where
  pub positive : 0 < denominator
  pub numerator_within : magnitude ≤ limit
  pub denominator_within : denominator ≤ limit
  pub lowest : IsGcd magnitude denominator 1

-- the fraction n/d in lowest terms
unfoldable pub lowest : ℤ → ℕ → ℤ × ℕ
lowest n d = (int_div n (pos (gcd (unsigned_abs n) d)), d / gcd (unsigned_abs n) d)

-- neither the numerator's magnitude nor the denominator is above the limit
unfoldable pub is_within : ℤ × ℕ → Bool
is_within f = nat_le (unsigned_abs f.0) limit && nat_le f.1 limit

-- the number of this magnitude, below 0 where the sign says so
abbrev pub with_sign : Bool → ℕ → ℤ
with_sign false m = pos m
with_sign true m = neg_ℤ (pos m)
