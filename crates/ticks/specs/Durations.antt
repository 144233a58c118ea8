-- Durations, as the Prometheus querying documentation spells them: one or more pairs of digits and a unit, from the
-- longest unit to the shortest, each at most once. The limit of 100 years is this project's own.
use Rattle.std.specs.Prelude.{◌≡◌, ℕ, ◌+◌, ◌*◌, ◌<◌, ◌≤◌, Bool, ◌&&◌, nat_lt, if◌then◌else◌, List, [], ◌∷◌, ◌++◌, length, bytes_eq, pos, Option, None, Some, option_map, Result, Ok, Err, IsTrue, ⊤}
use Rattle.std.specs.Char.{is_ascii_digit}
use Rattle.std.specs.Str.Parse.{digits_value}
use Rattle.ticks.specs.declared.moment.Ms.{Ms}
use Rattle.ticks.specs.declared.refusal.TickRefusal.{TickRefusal}
use Rattle.ticks.specs.declared.refusal.TickRefusal.TheVariants.{BadDuration, OutOfRange}
use Rattle.ticks.specs.declared.unit.Unit.{Unit}
use Rattle.ticks.specs.declared.unit.Unit.TheVariants.{Year}
use Rattle.ticks.specs.Runs.{digits_of, after_digits, name_at, after_name}
use Rattle.ticks.specs.Units.{milliseconds_in, name_of, units}

abbrev pub AreDigits : List ℕ → Type 0
AreDigits [] = ⊤
AreDigits (byte ∷ bytes) = IsTrue (is_ascii_digit byte) × AreDigits bytes

-- the number that decimal digits stand for
abbrev pub number : List ℕ → ℕ
number digits = digits_value 10 digits

-- the text of pairs of digits and a unit
abbrev pub text_of : List (List ℕ × Unit) → List ℕ
text_of [] = []
text_of (pair ∷ pairs) = pair.0 ++ (name_of pair.1 ++ text_of pairs)

-- the milliseconds that they stand for together
abbrev pub total : List (List ℕ × Unit) → ℕ
total [] = 0
total (pair ∷ pairs) = number pair.0 * milliseconds_in pair.1 + total pairs

-- each pair has a digit or more and a unit shorter than the one before it
abbrev pub AreFalling : ℕ → List (List ℕ × Unit) → Type 0
AreFalling longest [] = ⊤
AreFalling longest (pair ∷ pairs) =
    (0 < length pair.0) × AreDigits pair.0 × (milliseconds_in pair.1 < longest) × AreFalling (milliseconds_in pair.1) pairs

-- the text is that of pairs whose units are shorter than this and falling, and they stand for so many milliseconds
pub record Spells (longest : ℕ) (text : List ℕ) (n : ℕ) : Type 0 where
  pub pairs : List (List ℕ × Unit)
  pub falling : AreFalling longest pairs
  pub spelled : text_of pairs ≡ text
  pub amount : total pairs ≡ n

-- the text is one pair or more, of any units
pub record IsDuration (text : List ℕ) (n : ℕ) : Type 0 where
  pub some : 0 < length text
  pub spells : Spells (milliseconds_in Year + 1) text n

-- the text begins with digits, and this unit's name stands between them and the next digit
abbrev pub begins_with : Unit → List ℕ → Bool
begins_with unit text = nat_lt 0 (length (digits_of text)) && bytes_eq (name_of unit) (name_at (after_digits text))

-- the milliseconds of a text of pairs that have these units in their order, each at most once
unfoldable pub sum_by : List Unit → List ℕ → Option ℕ
sum_by [] [] = Some 0
sum_by [] (byte ∷ bytes) = None
sum_by (unit ∷ shorter) text =
    if begins_with unit text
    then option_map (λ more. number (digits_of text) * milliseconds_in unit + more) (sum_by shorter (after_name (after_digits text)))
    else sum_by shorter text

-- the milliseconds of the duration that a text spells, if it spells one
unfoldable pub duration_in : List ℕ → Option ℕ
duration_in [] = None
duration_in (byte ∷ bytes) = sum_by units (byte ∷ bytes)

abbrev pub hundred_years : ℕ
hundred_years = 100 * milliseconds_in Year

-- a duration of at most 100 years is taken
abbrev pub within_years : Option ℕ → Result Ms TickRefusal
within_years None = Err BadDuration
within_years (Some n) = if nat_lt hundred_years n then Err OutOfRange else Ok (record { 0 = pos n })

-- what reading a text of a duration answers
abbrev pub duration_answer : List ℕ → Result Ms TickRefusal
duration_answer text = within_years (duration_in text)

-- a count that may stand still beyond the limit
pub record IsCapped (n counted : ℕ) : Type 0 where
  pub within : n ≤ hundred_years → counted ≡ n
  pub beyond : hundred_years < n → hundred_years < counted
