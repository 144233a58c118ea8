-- Which results a test script takes as equal. (The rule of promqltest, on exact numbers.)
use Rattle.std.specs.Prelude.{ℕ, ℤ, pos, ◌+◌, ◌*◌, ◌-ℤ◌, ◌*ℤ◌, Bool, true, false, ◌||◌, ◌==◌, nat_lt, unsigned_abs}
use Rattle.xfrac.specs.declared.value.XFrac.{XFrac}
use Rattle.xfrac.specs.declared.value.XFrac.TheVariants.{Fin, PosInf, NegInf, NaN}

-- |a - b|, over the product of the denominators
abbrev pub difference : ℤ × ℕ → ℤ × ℕ → ℕ
difference a b = unsigned_abs (a.0 *ℤ pos b.1 -ℤ b.0 *ℤ pos a.1)

-- |a| + |b|, over the product of the denominators
abbrev pub joint_magnitude : ℤ × ℕ → ℤ × ℕ → ℕ
joint_magnitude a b = unsigned_abs a.0 * b.1 + unsigned_abs b.0 * a.1

-- two fractions are equal, or |a - b| * 10^6 < |a| + |b|
abbrev pub are_near : ℤ × ℕ → ℤ × ℕ → Bool
are_near a b = difference a b == 0 || nat_lt (difference a b * 1000000) (joint_magnitude a b)

-- two numbers are both NaN, or equal, or finite and near
abbrev pub is_near : XFrac → XFrac → Bool
is_near (Fin a) (Fin b) = are_near a b
is_near PosInf PosInf = true
is_near NegInf NegInf = true
is_near NaN NaN = true
is_near _ _ = false
