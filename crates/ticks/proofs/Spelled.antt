-- The spelling of a duration other than none.
use Rattle.std.proofs.Common.{◌≡◌, ◌++◌, zero, suc, ℤ, pos, negsuc, refl, unsigned_abs}
use Rattle.ticks.specs.Spellings.{parts, sign, spelling}
use Rattle.ticks.specs.Units.{units}

pub spelling-nonzero : (z : ℤ) → (z ≡ pos 0 → ⊥) → sign z ++ parts units (unsigned_abs z) ≡ spelling z
spelling-nonzero (pos zero) other = absurd (other refl)
spelling-nonzero (pos (suc n)) other = refl
spelling-nonzero (negsuc n) other = refl
