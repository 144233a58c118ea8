-- A part of a number below 1, in lowest terms, as long as its denominator is within the limit. This is this project's
-- own, for reading digits from the last one on.
use Rattle.std.specs.Prelude.{◌≡◌, ℕ, ◌<◌, ◌≤◌, ◌*◌, ◌/◌, Option, Some, None, unsigned_abs}
use Rattle.std.specs.Int.{IsGcd}
use Rattle.frac_text.specs.declared.value.Rest.{Rest}
use Rattle.xfrac.specs.Divisors.{gcd}
use Rattle.xfrac.specs.Fractions.{limit}
use Rattle.xfrac.specs.declared.value.XFrac.{XFrac}
use Rattle.xfrac.specs.declared.value.XFrac.TheVariants.{Fin}

-- these are the lowest terms of a/b, which is below 1
pub record IsRest (rest : Rest) (a b : ℕ) : Type 0 where
  pub equal : rest.n * b ≡ a * rest.d
  pub apart : IsGcd rest.n rest.d 1
  pub below : rest.n < rest.d
  pub within : rest.d ≤ limit

-- there are such terms, or the denominator of a/b in lowest terms is outside the limit
abbrev pub IsScaled : Option Rest → ℕ → ℕ → Type 0
IsScaled None a b = limit < b / gcd a b
IsScaled (Some rest) a b = IsRest rest a b

-- the terms of a fraction
abbrev pub rest_in : XFrac → Option Rest
rest_in (Fin f) = Some (record { n = unsigned_abs f.0; d = f.1 })
rest_in _ = None
