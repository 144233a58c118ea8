-- Greatest common divisors and least common multiples. (Elementary arithmetic.)
use Rattle.std.specs.Prelude.{ℕ, zero, suc, ◌*◌, ◌/◌, ◌%◌, ◌&&◌, ◌==◌, if◌then◌else◌}

-- the greatest number up to a bound that divides both
unfoldable pub greatest_divisor : ℕ → ℕ → ℕ → ℕ
greatest_divisor a b zero = 1
greatest_divisor a b (suc k) =
    if a % suc k == 0 && b % suc k == 0 then suc k else greatest_divisor a b k

-- the greatest common divisor of a number and a positive number
unfoldable pub gcd : ℕ → ℕ → ℕ
gcd a b = greatest_divisor a b b

-- the least common multiple of two positive numbers
unfoldable pub lcm : ℕ → ℕ → ℕ
lcm a b = a / gcd a b * b
