-- What a word of a script spells. (The promqltest format, and the names of PromQL's grammar.)
use Rattle.std.specs.Prelude.{ℕ, Bool, false, if◌then◌else◌, List, [], ◌∷◌, ◌==◌, ◌||◌, ◌&&◌, nat_lt, not, map, Result, Ok, Err, pos, int_lt, codes, bytes_eq}
use Rattle.ticks.specs.declared.moment.Ms.{Ms}
use Rattle.std.specs.Char.{is_ascii_alphabetic, is_ascii_alphanumeric, to_ascii_lowercase}
use Rattle.std.specs.List.{list_all, list_any}
use Rattle.std.specs.Str.{is_utf8}
use Rattle.frac_text.specs.Readings.{script_answer}
use Rattle.frac_text.specs.Times.{time_answer}
use Rattle.frac_text.specs.declared.refusal.NumberRefusal.{NumberRefusal}
use Rattle.frac_text.specs.declared.refusal.NumberRefusal.TheVariants as numbers
use Rattle.frac_text.specs.declared.refusal.TimeRefusal.{TimeRefusal}
use Rattle.xfrac.specs.declared.value.XFrac.{XFrac}
use Rattle.script_read.specs.Outcomes.{then_try}
use Rattle.script_read.specs.declared.fault.LineFault.{LineFault}
use Rattle.script_read.specs.declared.fault.LineFault.TheVariants.{Malformed, NumberRange}

-- a byte above 127 stands in no number and no time
abbrev pub is_ascii : List ℕ → Bool
is_ascii text = list_all (λ byte. nat_lt byte 128) text

-- a number beyond the limits is told apart from what is no number
abbrev pub number_fault : NumberRefusal → LineFault
number_fault numbers.NumberRange = NumberRange
number_fault numbers.BadNumber = Malformed
number_fault numbers.LeadingZero = Malformed

abbrev pub spelled_or_refused : Result XFrac NumberRefusal → Result XFrac LineFault
spelled_or_refused (Ok value) = Ok value
spelled_or_refused (Err refusal) = Err (number_fault refusal)

-- a number of the script format: a decimal number, Inf or NaN, with an optional sign
abbrev pub number_spelled : List ℕ → Result XFrac LineFault
number_spelled text = if is_ascii text then spelled_or_refused (script_answer text) else Err Malformed

abbrev pub time_or_refused : Result Ms TimeRefusal → Result Ms LineFault
time_or_refused (Ok time) = Ok time
time_or_refused (Err refusal) = Err Malformed

-- a time: an optional sign, and a duration or seconds
abbrev pub time_spelled : List ℕ → Result Ms LineFault
time_spelled text = if is_ascii text then time_or_refused (time_answer text) else Err Malformed

abbrev pub if_positive : Ms → Result Ms LineFault
if_positive time = if int_lt (pos 0) time.0 then Ok time else Err Malformed

-- a duration of a script: a positive time
abbrev pub interval_spelled : List ℕ → Result Ms LineFault
interval_spelled text = then_try (time_spelled text) if_positive

-- bytes of a line as a text (they are one, since a file is, and they are cut off between bytes below 128)
abbrev pub text_told : List ℕ → Result (List ℕ) LineFault
text_told bytes = if is_utf8 bytes then Ok bytes else Err Malformed

abbrev pub starts_name : ℕ → Bool
starts_name byte = is_ascii_alphabetic byte || (byte == 95 || byte == 58)

abbrev pub continues_name : ℕ → Bool
continues_name byte = is_ascii_alphanumeric byte || (byte == 95 || byte == 58)

-- a letter, an underscore or a colon, and then these and digits
abbrev pub is_identifier : List ℕ → Bool
is_identifier [] = false
is_identifier (first ∷ rest) = starts_name first && list_all continues_name rest

-- the words that name no metric, in any case: numbers, and those that are modifiers of operators
abbrev pub reserved_words : List (List ℕ)
reserved_words = codes "inf" ∷ codes "nan" ∷ codes "bool" ∷ codes "on" ∷ codes "ignoring" ∷ codes "group_left" ∷ codes "group_right" ∷ codes "atan2" ∷ []

abbrev pub is_word : List ℕ → List ℕ → Bool
is_word text word = bytes_eq (map to_ascii_lowercase text) word

abbrev pub is_reserved : List ℕ → Bool
is_reserved text = list_any (is_word text) reserved_words

-- a bare metric's name, as the grammar of PromQL takes it at an operand's place
abbrev pub is_metric_name : List ℕ → Bool
is_metric_name text = is_identifier text && not (is_reserved text)
