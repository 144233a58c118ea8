-- The sum of a list of numbers, formed over the least common multiple of the denominators. (This project's own.)
use Rattle.std.specs.Prelude.{◌≡◌, ℕ, ◌+◌, ◌*◌, ◌/◌, ◌^◌, ◌<◌, ◌≤◌, pos, negsuc, ◌-ℤ◌, Bool, ◌&&◌, ◌||◌, nat_le, List, [], ◌∷◌, sum_by, length, Option, Some, None, if◌then◌else◌}
use Rattle.std.specs.List.{list_any}
use Rattle.xfrac.specs.Divisors.{lcm}
use Rattle.xfrac.specs.Fractions.{limit, lowest}
use Rattle.xfrac.specs.Kinds.{is_not_a_number, is_positive_infinity, is_negative_infinity}
use Rattle.xfrac.specs.declared.value.XFrac.{XFrac}
use Rattle.xfrac.specs.declared.value.XFrac.TheVariants.{Fin, PosInf, NegInf, NaN}

-- what a list of numbers comes to before its sum is reduced
pub record Totals : Type 0 where
  -- the common denominator
  pub multiple : ℕ
  -- the sums of the numerators over it that are above 0, and of the magnitudes of those below
  pub above : ℕ
  pub below : ℕ
  pub has_positive_infinity : Bool
  pub has_negative_infinity : Bool
  pub has_nan : Bool
  pub count : ℕ

-- a number's denominator; the infinities and NaN add nothing to the common one
abbrev pub denominator_of : XFrac → ℕ
denominator_of (Fin f) = f.1
denominator_of _ = 1

-- how far a number's numerator is above 0, and below it
abbrev pub part_above : XFrac → ℕ
part_above (Fin (pos n, d)) = n
part_above _ = 0

abbrev pub part_below : XFrac → ℕ
part_below (Fin (negsuc n, d)) = n + 1
part_below _ = 0

-- the same for the numerator over a common denominator m
abbrev pub above_over : ℕ → XFrac → ℕ
above_over m x = part_above x * (m / denominator_of x)

abbrev pub below_over : ℕ → XFrac → ℕ
below_over m x = part_below x * (m / denominator_of x)

-- the least common multiple of the denominators
abbrev pub multiple_of : List XFrac → ℕ
multiple_of [] = 1
multiple_of (x ∷ xs) = lcm (denominator_of x) (multiple_of xs)

unfoldable pub totals : List XFrac → Totals
totals xs =
    record {
      multiple = multiple_of xs;
      above = sum_by (above_over (multiple_of xs)) xs;
      below = sum_by (below_over (multiple_of xs)) xs;
      has_positive_infinity = list_any is_positive_infinity xs;
      has_negative_infinity = list_any is_negative_infinity xs;
      has_nan = list_any is_not_a_number xs;
      count = length xs;
    }

-- the totals of one number
abbrev pub alone : XFrac → Totals
alone x =
    record {
      multiple = denominator_of x;
      above = part_above x;
      below = part_below x;
      has_positive_infinity = is_positive_infinity x;
      has_negative_infinity = is_negative_infinity x;
      has_nan = is_not_a_number x;
      count = 1;
    }

-- what is kept of a sum stands for this list
abbrev pub StandsFor : Totals → List XFrac → Type 0
StandsFor t xs = t ≡ totals xs

-- neither the common denominator nor the sum of the magnitudes over it is above the limit
abbrev pub fits : Totals → Bool
fits t = nat_le t.multiple limit && nat_le (t.above + t.below) limit

-- NaN where one is there or both infinities are, the infinity that is there, or the sum of the fractions
abbrev pub value_of : Totals → XFrac
value_of t =
    if t.has_nan || (t.has_positive_infinity && t.has_negative_infinity) then NaN
    else if t.has_positive_infinity then PosInf
    else if t.has_negative_infinity then NegInf
    else Fin (lowest (pos t.above -ℤ pos t.below) t.multiple)

-- the sum of a list, which there is where its totals are within the limits, whatever infinities or NaN are there
abbrev pub sum_of : List XFrac → Option XFrac
sum_of xs = if fits (totals xs) then Some (value_of (totals xs)) else None

-- the totals of two lists together, from the totals of each: both brought over their least common multiple
abbrev pub joined : Totals → Totals → Totals
joined a b =
    let m = lcm a.multiple b.multiple in
    record {
      multiple = m;
      above = a.above * (m / a.multiple) + b.above * (m / b.multiple);
      below = a.below * (m / a.multiple) + b.below * (m / b.multiple);
      has_positive_infinity = a.has_positive_infinity || b.has_positive_infinity;
      has_negative_infinity = a.has_negative_infinity || b.has_negative_infinity;
      has_nan = a.has_nan || b.has_nan;
      count = a.count + b.count;
    }

-- a magnitude that a sign puts above 0 or below it
abbrev pub upper : Bool → ℕ → ℕ
upper negative m = if negative then 0 else m

abbrev pub lower : Bool → ℕ → ℕ
lower negative m = if negative then m else 0

-- the totals with one more numerator over their common denominator
abbrev pub with_part : Totals → Bool → ℕ → Totals
with_part t negative part =
    record {
      multiple = t.multiple;
      above = t.above + upper negative part;
      below = t.below + lower negative part;
      has_positive_infinity = t.has_positive_infinity;
      has_negative_infinity = t.has_negative_infinity;
      has_nan = t.has_nan;
      count = t.count + 1;
    }

-- totals that are held: within the limits, of fewer than 2^96 numbers
pub record IsHeld (multiple above below count : ℕ) : Type 0 where
  pub positive : 0 < multiple
  pub multiple_within : multiple ≤ limit
  pub magnitude_within : above + below ≤ limit
  pub few : count < 2 ^ 96
