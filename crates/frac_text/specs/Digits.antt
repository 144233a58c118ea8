-- Runs of digits, and the numbers that they stand for. (PromQL's literals.)
use Rattle.std.specs.Prelude.{ℕ, Bool, true, false, ◌==◌, ◌&&◌, ◌||◌, if◌then◌else◌, List, [], ◌∷◌, take, drop}
use Rattle.std.specs.Char.{is_ascii_digit, is_ascii_hexdigit}
use Rattle.std.specs.List.{filter, prefix_len}
use Rattle.std.specs.Str.Parse.{digits_value}
use Rattle.frac_text.specs.declared.digits.Base.{Base}
use Rattle.frac_text.specs.declared.digits.Base.TheVariants.{Ten, Sixteen}

-- a byte of a run: a digit or, where digits may be grouped, an underscore
abbrev pub is_part : Bool → ℕ → Bool
is_part grouped byte = is_ascii_digit byte || (grouped && byte == 95)

-- the run at the front of a text, and what stands after it
abbrev pub front : Bool → List ℕ → List ℕ
front grouped text = take (prefix_len (is_part grouped) text) text

abbrev pub back : Bool → List ℕ → List ℕ
back grouped text = drop (prefix_len (is_part grouped) text) text

-- the digits of a base
abbrev pub is_digit : Base → ℕ → Bool
is_digit Ten = is_ascii_digit
is_digit Sixteen = is_ascii_hexdigit

-- what a place is worth more than the next
abbrev pub radix : Base → ℕ
radix Ten = 10
radix Sixteen = 16

-- a run ends with a digit, and each byte that is none is an underscore right after a digit (`after`: the run may begin with one)
abbrev pub is_run_in : Base → Bool → List ℕ → Bool
is_run_in base after [] = after
is_run_in base after (byte ∷ bytes) = if is_digit base byte then is_run_in base true bytes else (after && (byte == 95 && is_run_in base false bytes))

-- a run of decimal digits
abbrev pub is_run : Bool → List ℕ → Bool
is_run = is_run_in Ten

-- the number that the digits of a run stand for
abbrev pub number_in : Base → List ℕ → ℕ
number_in base text = digits_value (radix base) (filter (is_digit base) text)

-- the digits of a run
abbrev pub digits_in : List ℕ → List ℕ
digits_in text = filter is_ascii_digit text

-- the number that decimal digits stand for
abbrev pub number : List ℕ → ℕ
number digits = digits_value 10 digits
