-- What reading a text of a number answers. (PromQL's literals, and the numbers of the promqltest format. The limits are
-- this project's own.)
use Rattle.std.specs.Prelude.{ℕ, pos, Bool, true, false, not, length, drop, ◌==◌, ◌&&◌, if◌then◌else◌, List, [], ◌∷◌, map, codes, bytes_eq, Option, Some, None, Result, Ok, Err}
use Rattle.std.specs.Char.{to_ascii_lowercase}
use Rattle.frac_text.specs.Decimals.{Decimal, decimal_of, value_of, has_leading_zero}
use Rattle.frac_text.specs.declared.digits.Base.TheVariants.{Sixteen}
use Rattle.frac_text.specs.declared.refusal.NumberRefusal.{NumberRefusal}
use Rattle.frac_text.specs.declared.refusal.NumberRefusal.TheVariants.{BadNumber, NumberRange, LeadingZero}
use Rattle.frac_text.specs.Digits.{is_run_in, number_in}
use Rattle.frac_text.specs.Hexadecimals.{is_hexadecimal}
use Rattle.xfrac.specs.Forming.{formed, negated}
use Rattle.xfrac.specs.declared.value.XFrac.{XFrac}
use Rattle.xfrac.specs.declared.value.XFrac.TheVariants.{PosInf, NaN}

-- a value outside the limits is NumberRange, which comes before LeadingZero
abbrev pub judged : Bool → Option XFrac → Result XFrac NumberRefusal
judged leading_zero None = Err NumberRange
judged leading_zero (Some v) = if leading_zero then Err LeadingZero else Ok v

abbrev pub decimal_answer : Bool → Option Decimal → Result XFrac NumberRefusal
decimal_answer leading_zero None = Err BadNumber
decimal_answer leading_zero (Some d) = judged leading_zero (value_of d)

abbrev pub is_word : List ℕ → List ℕ → Bool
is_word text word = bytes_eq (map to_ascii_lowercase text) word

-- `Inf` and `NaN` in any case, and decimal numbers
abbrev pub plain_answer : Bool → List ℕ → Result XFrac NumberRefusal
plain_answer grouped text =
    if is_word text (codes "inf") then Ok PosInf
    else if is_word text (codes "nan") then Ok NaN
    else decimal_answer (has_leading_zero grouped text) (decimal_of grouped text)

abbrev pub turned : Result XFrac NumberRefusal → Result XFrac NumberRefusal
turned (Ok v) = Ok (negated v)
turned (Err e) = Err e

-- a script's number has an optional sign, and no underscore
abbrev pub script_answer : List ℕ → Result XFrac NumberRefusal
script_answer [] = Err BadNumber
script_answer (first ∷ rest) =
    if first == 45 then turned (plain_answer false rest)
    else if first == 43 then plain_answer false rest
    else plain_answer false (first ∷ rest)

-- at least one digit stands after the prefix
abbrev pub hexadecimal_answer : List ℕ → Result XFrac NumberRefusal
hexadecimal_answer digits =
    if (not (length digits == 0) && is_run_in Sixteen true digits) then judged false (formed (pos (number_in Sixteen digits)) 1) else Err BadNumber

-- a literal has no sign, and single underscores between two digits
abbrev pub literal_answer : List ℕ → Result XFrac NumberRefusal
literal_answer text = if is_hexadecimal text then hexadecimal_answer (drop 2 text) else plain_answer true text
