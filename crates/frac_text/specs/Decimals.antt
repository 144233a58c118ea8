-- Decimal numbers: digits with an optional point and an optional exponent. (PromQL's literals.)
use Rattle.std.specs.Prelude.{ℕ, ◌+◌, ◌*◌, ◌^◌, pos, Bool, true, false, ◌==◌, ◌&&◌, ◌||◌, not, nat_lt, if◌then◌else◌, List, [], ◌∷◌, ◌++◌, length, Option, Some, None}
use Rattle.frac_text.specs.Digits.{front, back, is_run, digits_in, number}
use Rattle.xfrac.specs.Forming.{formed}
use Rattle.xfrac.specs.declared.value.XFrac.{XFrac}

-- an exponent: its sign and its size
pub record Power : Type 0 where
  pub negative : Bool
  pub size : ℕ

-- digits that are the whole text
abbrev pub count_of : Bool → List ℕ → Option ℕ
count_of grouped text = if (length (back grouped text) == 0 && is_run false text) then Some (number (digits_in text)) else None

abbrev pub power : Bool → Option ℕ → Option Power
power negative None = None
power negative (Some size) = Some (record { negative = negative; size = size })

-- an exponent has an optional sign
abbrev pub signed_exponent : Bool → List ℕ → Option Power
signed_exponent grouped [] = None
signed_exponent grouped (first ∷ rest) =
    if first == 45 then power true (count_of grouped rest)
    else if first == 43 then power false (count_of grouped rest)
    else power false (count_of grouped (first ∷ rest))

-- what stands after the digits: nothing, or `e` or `E` and an exponent
abbrev pub exponent_of : Bool → List ℕ → Option Power
exponent_of grouped [] = power false (Some 0)
exponent_of grouped (first ∷ rest) = if (first == 101 || first == 69) then signed_exponent grouped rest else None

-- what stands after the whole digits: a point and the fraction's digits, and what stands after these
abbrev pub fraction_of : Bool → List ℕ → List ℕ
fraction_of grouped [] = []
fraction_of grouped (first ∷ rest) = if first == 46 then front grouped rest else []

abbrev pub ending_of : Bool → List ℕ → List ℕ
ending_of grouped [] = []
ending_of grouped (first ∷ rest) = if first == 46 then back grouped rest else first ∷ rest

abbrev pub is_optional_run : List ℕ → Bool
is_optional_run run = length run == 0 || is_run false run

-- digits stand on at least one side of the point
abbrev pub are_digits : List ℕ → List ℕ → Bool
are_digits whole fraction = is_optional_run whole && (is_optional_run fraction && not (length whole == 0 && length fraction == 0))

-- the digits before and after the point together, how many stand after it, and the exponent
pub record Decimal : Type 0 where
  pub digits : List ℕ
  pub places : ℕ
  pub exponent : Power

abbrev pub decimal_from : List ℕ → List ℕ → Option Power → Option Decimal
decimal_from whole fraction None = None
decimal_from whole fraction (Some exponent) = Some (record { digits = digits_in whole ++ digits_in fraction; places = length (digits_in fraction); exponent = exponent })

-- the decimal number that a text spells
abbrev pub decimal_of : Bool → List ℕ → Option Decimal
decimal_of grouped text =
    if are_digits (front grouped text) (fraction_of grouped (back grouped text))
    then decimal_from (front grouped text) (fraction_of grouped (back grouped text)) (exponent_of grouped (ending_of grouped (back grouped text)))
    else None

-- a number with its point so many places to the left, times a power of ten, where its lowest terms are within the limits
abbrev pub scaled : ℕ → ℕ → Bool → ℕ → Option XFrac
scaled n places true size = formed (pos n) (10 ^ (places + size))
scaled n places false size = formed (pos (n * 10 ^ size)) (10 ^ places)

abbrev pub value_of : Decimal → Option XFrac
value_of d = scaled (number d.digits) d.places d.exponent.negative d.exponent.size

-- digits alone, more than one, and the first is 0
abbrev pub has_leading_zero : Bool → List ℕ → Bool
has_leading_zero grouped [] = false
has_leading_zero grouped (first ∷ rest) = first == 48 && (length (back grouped (first ∷ rest)) == 0 && nat_lt 1 (length (digits_in (first ∷ rest))))
