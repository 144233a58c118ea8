-- One half is formed.
use Rattle.std.proofs.Common.{◌≡◌, refl, Some}
use Rattle.std.specs.Prelude.{pos, unsigned_abs}
use Rattle.xfrac.specs.Divisors.{gcd, greatest_divisor}
use Rattle.xfrac.specs.Fractions.{lowest, is_within}
use Rattle.xfrac.specs.Forming.{formed}
use Rattle.value_fn.specs.Elements.{half}

pub half_is_formed : formed (pos 1) (unsigned_abs (pos 2)) ≡ Some half
unfolding lowest is_within gcd greatest_divisor
half_is_formed = refl
