-- The items of a series: numbers, gaps, markers of staleness, and runs of numbers. (The promqltest format.)
use Rattle.std.specs.Prelude.{ℕ, ◌+◌, ◌^◌, Bool, if◌then◌else◌, ◌==◌, ◌&&◌, ◌||◌, not, nat_lt, List, [], ◌∷◌, take, drop, position, Option, None, Some, option_map, Result, Ok, Err, codes, bytes_eq}
use Rattle.std.specs.List.{list_all}
use Rattle.std.specs.Char.{is_ascii_digit}
use Rattle.std.specs.Str.Parse.{digits_value}
use Rattle.xfrac.specs.Arithmetic.{whole_number}
use Rattle.xfrac.specs.Forming.{negated}
use Rattle.xfrac.specs.declared.value.XFrac.{XFrac}
use Rattle.script_read.specs.Lines.{is_empty}
use Rattle.script_read.specs.Outcomes.{then_give, then_try}
use Rattle.script_read.specs.Words.{number_spelled}
use Rattle.script_read.specs.declared.script.SeriesItem.{SeriesItem}
use Rattle.script_read.specs.declared.script.SeriesItem.TheVariants.{Gap, Stale, Run}
use Rattle.script_read.specs.declared.fault.LineFault.{LineFault}
use Rattle.script_read.specs.declared.fault.LineFault.TheVariants.{Malformed}

-- how often: decimal digits, for a number below 2^32
abbrev pub count_spelled : List ℕ → Result ℕ LineFault
count_spelled text =
    if (not (is_empty text) && (list_all is_ascii_digit text && nat_lt (digits_value 10 text) (2 ^ 32))) then Ok (digits_value 10 text) else Err Malformed

abbrev pub is_sign : ℕ → Bool
is_sign byte = byte == 43 || byte == 45

-- `e` or `E`: a sign right behind it is that of an exponent
abbrev pub is_exponent : ℕ → Bool
is_exponent byte = byte == 101 || byte == 69

-- the place of the first sign that stands for a step, behind a byte
abbrev pub step_behind : ℕ → List ℕ → Option ℕ
step_behind before [] = None
step_behind before (byte ∷ bytes) = if (is_sign byte && not (is_exponent before)) then Some 0 else option_map (λ place. place + 1) (step_behind byte bytes)

-- The place of the sign between the first value of a run and its step: it doesn't stand at the front.
abbrev pub step_place : List ℕ → Option ℕ
step_place [] = None
step_place (first ∷ rest) = option_map (λ place. place + 1) (step_behind first rest)

-- a step is the number behind its sign, turned behind a minus
abbrev pub step_signed : List ℕ → Result XFrac LineFault
step_signed [] = Err Malformed
step_signed (sign ∷ rest) = if sign == 45 then then_give (number_spelled rest) negated else number_spelled rest

-- the first value of a run, and its step; without one the value stays the same
abbrev pub run_values : Option ℕ → List ℕ → Result (XFrac × XFrac) LineFault
run_values None text = then_give (number_spelled text) (λ first. (first, whole_number 0))
run_values (Some place) text = then_try (number_spelled (take place text)) (λ first. then_give (step_signed (drop place text)) (λ by. (first, by)))

-- a run of so many values more than the first
abbrev pub run_spelled : List ℕ → List ℕ → Result SeriesItem LineFault
run_spelled values count = then_try (run_values (step_place values) values) (λ run.
    then_give (count_spelled count) (λ more. Run run.0 run.1 more))

-- one number is a run with none more
abbrev pub value_spelled : List ℕ → Result SeriesItem LineFault
value_spelled text = then_give (number_spelled text) (λ first. Run first (whole_number 0) 0)

-- gaps: `_`, or `_` and how many
abbrev pub gap_spelled : List ℕ → Result SeriesItem LineFault
gap_spelled [] = Ok (Gap 1)
gap_spelled (first ∷ count) = if first == 120 then then_give (count_spelled count) Gap else Err Malformed

-- values, and how many more where an `x` stands
abbrev pub values_spelled : Option ℕ → List ℕ → Result SeriesItem LineFault
values_spelled None text = value_spelled text
values_spelled (Some place) text = run_spelled (take place text) (drop (place + 1) text)

-- what a word that isn't `stale` says
abbrev pub item_unmarked : List ℕ → Result SeriesItem LineFault
item_unmarked [] = Err Malformed
item_unmarked (first ∷ rest) =
    if first == 95 then gap_spelled rest else values_spelled (position (λ byte. byte == 120) (first ∷ rest)) (first ∷ rest)

abbrev pub item_spelled : List ℕ → Result SeriesItem LineFault
item_spelled word = if bytes_eq word (codes "stale") then Ok Stale else item_unmarked word
