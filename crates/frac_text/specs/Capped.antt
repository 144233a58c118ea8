-- Counts that may stand still beyond the limit. This is this project's own, for exponents of any length.
use Rattle.std.specs.Prelude.{◌≡◌, ℕ, ◌<◌, ◌≤◌, Option, Some, None, ⊤}
use Rattle.frac_text.specs.Decimals.{Power}
use Rattle.frac_text.specs.declared.decimal.Exponent.{Exponent}
use Rattle.xfrac.specs.Fractions.{limit}

pub record IsCapped (size counted : ℕ) : Type 0 where
  pub within : size ≤ limit → counted ≡ size
  pub beyond : limit < size → limit ≤ counted
  pub fits : counted ≤ limit

abbrev pub IsCount : Option ℕ → Option ℕ → Type 0
IsCount None None = ⊤
IsCount (Some size) (Some counted) = IsCapped size counted
IsCount _ _ = ⊥

abbrev pub IsPower : Option Power → Option Exponent → Type 0
IsPower None None = ⊤
IsPower (Some power) (Some exponent) = (exponent.negative ≡ power.negative) × IsCapped power.size exponent.size
IsPower _ _ = ⊥
