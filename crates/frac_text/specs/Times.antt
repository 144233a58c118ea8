-- Times: a duration, or a number of seconds that is a whole number of milliseconds, with an optional sign. (PromQL's
-- durations and `@` times. The limit of 10^14 milliseconds is this project's own.)
use Rattle.std.specs.Prelude.{◌≡◌, ℕ, ◌*◌, ◌/◌, ◌%◌, ◌<◌, ◌≤◌, ◌^◌, ◌⊎◌, ⊤, unsigned_abs, ◌==◌, ◌||◌, nat_lt, if◌then◌else◌, Bool, false, List, [], ◌∷◌, Option, None, Some, Result, Ok, Err}
use Rattle.ticks.specs.declared.Ms.{Ms}
use Rattle.ticks.specs.Durations.{IsDuration, duration_in, hundred_years}
use Rattle.frac_text.specs.Readings.{literal_answer}
use Rattle.frac_text.specs.declared.refusal.NumberRefusal.{NumberRefusal}
use Rattle.frac_text.specs.declared.refusal.NumberRefusal.TheVariants.{BadNumber, LeadingZero, NumberRange}
use Rattle.frac_text.specs.declared.refusal.TimeRefusal.{TimeRefusal}
use Rattle.frac_text.specs.declared.refusal.TimeRefusal.TheVariants.{BadTime, OutOfRange}
use Rattle.xfrac.specs.Fractions.{limit, with_sign}
use Rattle.xfrac.specs.declared.value.XFrac.{XFrac}
use Rattle.xfrac.specs.declared.value.XFrac.TheVariants.{Fin}

abbrev pub time_limit : ℕ
time_limit = 10 ^ 14

-- the quotient of a division that leaves nothing
abbrev pub exact_quotient : ℕ → ℕ → Option ℕ
exact_quotient m d = if m % d == 0 then Some (m / d) else None

-- a number of seconds as a whole number of milliseconds, if it is one
abbrev pub milliseconds_of : XFrac → Option ℕ
milliseconds_of (Fin f) = exact_quotient (unsigned_abs f.0 * 1000) f.1
milliseconds_of _ = None

-- a number of milliseconds is taken up to a limit
abbrev pub up_to : ℕ → ℕ → Result ℕ TimeRefusal
up_to most n = if nat_lt most n then Err OutOfRange else Ok n

abbrev pub whole_answer : Option ℕ → Result ℕ TimeRefusal
whole_answer None = Err BadTime
whole_answer (Some n) = up_to time_limit n

-- the milliseconds of seconds, by what reading their literal answers
abbrev pub seconds_answer : Result XFrac NumberRefusal → Result ℕ TimeRefusal
seconds_answer (Ok value) = whole_answer (milliseconds_of value)
seconds_answer (Err NumberRange) = Err OutOfRange
seconds_answer (Err BadNumber) = Err BadTime
seconds_answer (Err LeadingZero) = Err BadTime

-- the milliseconds of a duration if the text spells one, else of seconds
abbrev pub duration_or_seconds : Option ℕ → List ℕ → Result ℕ TimeRefusal
duration_or_seconds (Some n) text = up_to hundred_years n
duration_or_seconds None text = seconds_answer (literal_answer text)

unfoldable pub amount_answer : List ℕ → Result ℕ TimeRefusal
amount_answer text = duration_or_seconds (duration_in text) text

-- a time is negative where a minus sign stands before it, and a plus sign changes nothing
abbrev pub is_negative : List ℕ → Bool
is_negative [] = false
is_negative (first ∷ rest) = first == 45

-- what stands after the sign, if there is one
abbrev pub amount_of : List ℕ → List ℕ
amount_of [] = []
amount_of (first ∷ rest) = if (first == 45 || first == 43) then rest else first ∷ rest

abbrev pub signed : Bool → Result ℕ TimeRefusal → Result Ms TimeRefusal
signed negative (Ok n) = Ok (record { 0 = with_sign negative n })
signed negative (Err refusal) = Err refusal

-- what reading a text of a time answers
abbrev pub time_answer : List ℕ → Result Ms TimeRefusal
time_answer text = signed (is_negative text) (amount_answer (amount_of text))

-- a number of seconds is this whole number of milliseconds
abbrev pub IsMilliseconds : XFrac → ℕ → Type 0
IsMilliseconds (Fin f) n = unsigned_abs f.0 * 1000 ≡ n * f.1
IsMilliseconds _ n = ⊥

-- the text is a number of seconds, and they are this whole number of milliseconds
pub record IsSeconds (text : List ℕ) (n : ℕ) : Type 0 where
  pub value : XFrac
  pub reads : literal_answer text ≡ Ok value
  pub whole : IsMilliseconds value n

abbrev pub IsNoDuration : List ℕ → Type 0
IsNoDuration text = (n : ℕ) → IsDuration text n → ⊥

-- a duration of at most 100 years, or a text that is no duration but a number of seconds up to the limit
abbrev pub IsTaken : List ℕ → ℕ → Type 0
IsTaken text n = (IsDuration text n × (n ≤ hundred_years)) ⊎ (IsNoDuration text × IsSeconds text n × (n ≤ time_limit))

-- seconds beyond the limit, or a number outside the limits of numbers
abbrev pub IsLate : List ℕ → Type 0
IsLate text = ((n : ℕ) × IsSeconds text n × (time_limit < n)) ⊎ (literal_answer text ≡ Err NumberRange)

-- a longer duration, or a text that is no duration but such seconds
abbrev pub IsBeyond : List ℕ → Type 0
IsBeyond text = ((n : ℕ) × IsDuration text n × (hundred_years < n)) ⊎ (IsNoDuration text × IsLate text)

-- neither a duration nor a whole number of milliseconds in seconds nor a number outside the limits of numbers
abbrev pub IsNoTime : List ℕ → Type 0
IsNoTime text = IsNoDuration text × ((n : ℕ) → IsSeconds text n → ⊥) × (literal_answer text ≡ Err NumberRange → ⊥)

-- the parts of a fraction are within the limit
abbrev pub IsBounded : XFrac → Type 0
IsBounded (Fin f) = (unsigned_abs f.0 ≤ limit) × (0 < f.1) × (f.1 ≤ limit)
IsBounded _ = ⊤
