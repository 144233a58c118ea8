-- Numbers and durations. What a number is, and what a duration, is said by their readers. Here stands how far the digits at
-- the front of a text go: a number's digits, with a point and with an exponent's sign, and all letters, digits and
-- underscores behind them. (PromQL's literals and durations.)
use Rattle.std.specs.Prelude.{ℕ, ◌+◌, Bool, true, false, ◌==◌, ◌&&◌, ◌||◌, not, if◌then◌else◌, List, [], ◌∷◌, take, drop, Result, Ok, Err}
use Rattle.std.specs.Char.{is_ascii_alphanumeric, is_ascii_digit, is_ascii_hexdigit}
use Rattle.std.specs.List.{prefix_len}
use Rattle.frac_text.specs.Decimals.{are_digits, fraction_of, is_optional_run}
use Rattle.frac_text.specs.Digits.{front, back, is_part}
use Rattle.frac_text.specs.Hexadecimals.{is_hexadecimal}
use Rattle.frac_text.specs.Readings.{literal_answer}
use Rattle.frac_text.specs.declared.refusal.NumberRefusal.{NumberRefusal}
use Rattle.frac_text.specs.declared.refusal.NumberRefusal.TheVariants.{BadNumber as NoNumber, NumberRange as OutOfLimits, LeadingZero as ZeroFirst}
use Rattle.promql_ast.specs.declared.refusal.QueryRefusal.TheVariants.{BadNumber, NumberRange, LeadingZero, BadDuration, DurationRange}
use Rattle.promql_lex.specs.declared.token.TokenKind.{TokenKind}
use Rattle.promql_lex.specs.declared.token.TokenKind.TheVariants.{Number, Duration, Bad}
use Rattle.ticks.specs.declared.moment.Ms.{Ms}
use Rattle.ticks.specs.declared.refusal.TickRefusal.{TickRefusal}
use Rattle.ticks.specs.declared.refusal.TickRefusal.TheVariants.{OutOfRange}
use Rattle.ticks.specs.Durations.{duration_answer}
use Rattle.xfrac.specs.declared.value.XFrac.{XFrac}

-- a digit, or a point and a digit
abbrev pub begins_with_digit : List ℕ → Bool
begins_with_digit [] = false
begins_with_digit (byte ∷ bytes) = is_ascii_digit byte

abbrev pub begins_number : ℕ → List ℕ → Bool
begins_number byte bytes = is_ascii_digit byte || (byte == 46 && begins_with_digit bytes)

abbrev pub is_word_byte : ℕ → Bool
is_word_byte byte = is_ascii_alphanumeric byte || byte == 95

-- a point and the digits behind it
abbrev pub fraction_len : List ℕ → ℕ
fraction_len [] = 0
fraction_len (first ∷ rest) = if first == 46 then 1 + prefix_len (is_part true) rest else 0

-- a point belongs to digits that are well formed, or to none
abbrev pub point_len : List ℕ → List ℕ → ℕ
point_len whole rest = if is_optional_run whole then fraction_len rest else 0

-- the digits at the front, and a point and the digits behind it
abbrev pub mantissa_len : List ℕ → ℕ
mantissa_len text = prefix_len (is_part true) text + point_len (front true text) (back true text)

-- well formed digits with an optional point, at least one on either side
abbrev pub is_mantissa : List ℕ → Bool
is_mantissa text = are_digits (front true text) (fraction_of true (back true text))

-- `e` or `E`, a sign and a digit
abbrev pub begins_exponent : List ℕ → Bool
begins_exponent (letter ∷ (sign ∷ (digit ∷ rest))) = (letter == 101 || letter == 69) && ((sign == 43 || sign == 45) && is_ascii_digit digit)
begins_exponent _ = false

-- the letter and the sign of an exponent behind a number's digits
abbrev pub exponent_len : List ℕ → List ℕ → ℕ
exponent_len mantissa rest = if (is_mantissa mantissa && begins_exponent rest) then 2 else 0

abbrev pub signed_len : List ℕ → ℕ
signed_len text = mantissa_len text + exponent_len (take (mantissa_len text) text) (drop (mantissa_len text) text)

-- and all letters, digits and underscores behind that
abbrev pub run_len : List ℕ → ℕ
run_len text = signed_len text + prefix_len is_word_byte (drop (signed_len text) text)

-- a run is in hexadecimal digits where one stands right behind `0x` or `0X`
abbrev pub counts_in_hexadecimal : List ℕ → Bool
counts_in_hexadecimal (first ∷ (second ∷ (digit ∷ rest))) = is_hexadecimal (first ∷ (second ∷ [])) && is_ascii_hexdigit digit
counts_in_hexadecimal _ = false

-- a unit's letter, which in a hexadecimal run is no digit, and what a count ends with
abbrev pub begins_unit : Bool → ℕ → Bool
begins_unit hexadecimal byte = byte == 121 || (byte == 119 || (byte == 104 || (byte == 109 || (byte == 115 || (byte == 100 && not hexadecimal)))))

abbrev pub ends_count : Bool → ℕ → Bool
ends_count hexadecimal byte = if hexadecimal then is_ascii_hexdigit byte else (is_ascii_digit byte || byte == 46)

-- a unit's letter stands right behind a count (`behind`: a count stands before the text)
abbrev pub has_unit : Bool → Bool → List ℕ → Bool
has_unit hexadecimal behind [] = false
has_unit hexadecimal behind (byte ∷ bytes) = (behind && begins_unit hexadecimal byte) || has_unit hexadecimal (ends_count hexadecimal byte) bytes

abbrev pub has_units : List ℕ → Bool
has_units run = has_unit (counts_in_hexadecimal run) false run

-- a run that is neither a number nor a duration
abbrev pub bad_kind : ℕ → List ℕ → TokenKind
bad_kind at run = if has_units run then Bad (BadDuration at) else Bad (BadNumber at)

abbrev pub duration_kind : ℕ → List ℕ → Result Ms TickRefusal → TokenKind
duration_kind at run (Ok duration) = Duration duration
duration_kind at run (Err OutOfRange) = Bad (DurationRange at)
duration_kind at run (Err other) = bad_kind at run

abbrev pub read_kind : ℕ → List ℕ → Result XFrac NumberRefusal → TokenKind
read_kind at run (Ok value) = Number value
read_kind at run (Err OutOfLimits) = Bad (NumberRange at)
read_kind at run (Err ZeroFirst) = Bad (LeadingZero at)
read_kind at run (Err NoNumber) = duration_kind at run (duration_answer run)

-- what a whole run is: the number or the duration that its reader gives, or the refusal
abbrev pub number_kind : ℕ → List ℕ → TokenKind
number_kind at run = read_kind at run (literal_answer run)
