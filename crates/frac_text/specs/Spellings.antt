-- The one spelling of a number that is written. It is this project's own: a plain decimal where it ends, else a fraction.
use Rattle.std.specs.Prelude.{◌≡◌, ℕ, zero, suc, ◌+◌, ◌*◌, ◌/◌, ◌%◌, ◌^◌, ℤ, pos, negsuc, unsigned_abs, ◌≤ℤ◌, Bool, true, ◌==◌, if◌then◌else◌, List, [], ◌∷◌, ◌++◌, decimal, codes, ⊤}
use Rattle.xfrac.specs.declared.value.XFrac.{XFrac}
use Rattle.xfrac.specs.declared.value.XFrac.TheVariants.{Fin, PosInf, NegInf, NaN}

-- the digits of r/d after the point, by long division: as many as stand before nothing is left, and at most so many
unfoldable pub places : ℕ → ℕ → ℕ → List ℕ
places zero r d = []
places (suc more) r d = if r == 0 then [] else (48 + r * 10 / d) ∷ places more (r * 10 % d) d

-- a number below 1 as what stands after the whole digits
abbrev pub tail : ℕ → ℕ → List ℕ
tail r d = if r == 0 then [] else codes "." ++ places 100 r d

-- the decimal places of r/d end, which they do by the 100th if they ever do
abbrev pub ends : ℕ → ℕ → Bool
ends r d = r * 10 ^ 100 % d == 0

-- a number without a factor, as often as it divides it
pub record IsStripped (factor whole rest : ℕ) : Type 0 where
  pub times : ℕ
  pub product : whole ≡ rest * factor ^ times
  pub left : rest % factor ≡ 0 → ⊥

-- m/d as a decimal where that ends, else as a fraction
abbrev pub magnitude_text : ℕ → ℕ → List ℕ
magnitude_text m d = if ends (m % d) d then decimal (m / d) ++ tail (m % d) d else decimal m ++ (codes "/" ++ decimal d)

abbrev pub sign : ℤ → List ℕ
sign (pos n) = []
sign (negsuc n) = codes "-"

abbrev pub spelling : XFrac → List ℕ
spelling (Fin f) = sign f.0 ++ magnitude_text (unsigned_abs f.0) f.1
spelling PosInf = codes "+Inf"
spelling NegInf = codes "-Inf"
spelling NaN = codes "NaN"

-- the spelling is no fraction
abbrev pub is_plain : XFrac → Bool
is_plain (Fin f) = ends (unsigned_abs f.0 % f.1) f.1
is_plain _ = true

-- the spelling has no sign
abbrev pub IsUnsigned : XFrac → Type 0
IsUnsigned (Fin f) = pos 0 ≤ℤ f.0
IsUnsigned NaN = ⊤
IsUnsigned _ = ⊥
