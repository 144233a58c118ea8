-- The instants of a grid.
use Rattle.std.proofs.Common.{◌≡◌, ◌≤◌, ◌<◌, ℕ, ◌+◌, ◌*◌, ◌/◌, arith, refl}
use Rattle.std.specs.Prelude.{ℤ, pos, negsuc, ◌-ℤ◌, ◌*ℤ◌, ◌≤ℤ◌, unsigned_abs}
use Rattle.std.proofs.Math.Nat.{mul-le-mul_left}
use Rattle.std.proofs.lemmas.Int.{ints}
use Rattle.ticks.specs.Grids.{step_count}
use Rattle.ticks.specs.declared.moment.Ms.{Ms}

times_within : (k s d : ℕ) → k < d / s + 1 → 0 < s → k * s ≤ d
times_within k s d lt some =
    let least : s * k ≤ s * (d / s) = mul-le-mul_left s (omega arith) in
    omega (arith, least)

-- so many steps from the start on are a number of milliseconds, and not more than to the end
pub steps_within : (s e d : ℤ) (k : ℕ) → pos 1 ≤ℤ d → k < step_count s e d → (w : ℕ) × (pos k *ℤ d ≡ pos w) × (w ≤ unsigned_abs (e -ℤ s))
steps_within s e (pos n) k forward lt = (k * n, refl, times_within k n (unsigned_abs (e -ℤ s)) lt (omega (arith, ints, forward)))
steps_within s e (negsuc n) k forward lt = absurd (omega (arith, ints, forward))

span_of : (z : ℤ) → pos 0 ≤ℤ z → z ≡ pos (unsigned_abs z)
span_of (pos n) h = refl
span_of (negsuc n) h = absurd (omega (arith, ints, h))

-- how long a grid is
pub span_is : (s e : ℤ) → s ≤ℤ e → (e -ℤ s) ≡ pos (unsigned_abs (e -ℤ s))
span_is s e ordered = span_of (e -ℤ s) (omega (arith, ints, ordered))

abbrev pub as_time : ℤ → Ms
as_time z = record { 0 = z }
