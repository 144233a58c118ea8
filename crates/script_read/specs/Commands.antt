-- The lines that are commands: `clear`; `load <duration>`; `eval<mode> instant at <time> <expr>`; and
-- `eval<mode> range from <time> to <time> step <duration> <expr>`, with the mode empty, `_fail`, `_warn`, `_info` or, for
-- instants, `_ordered`. The expression is the rest of the line, and is not read here. (The promqltest format.)
use Rattle.std.specs.Prelude.{ℕ, true, false, if◌then◌else◌, List, [], ◌∷◌, pos, bytes_eq, codes, Option, None, Some, Result, Ok, Err}
use Rattle.ticks.specs.declared.moment.Ms.{Ms}
use Rattle.script_read.specs.Expects.{filled}
use Rattle.script_read.specs.Lines.{behind_word, first_word}
use Rattle.script_read.specs.Moments.{grid_taken}
use Rattle.ticks.specs.Moments.{Moments}
use Rattle.script_read.specs.Outcomes.{then_give, then_try}
use Rattle.script_read.specs.Words.{interval_spelled, time_spelled}
use Rattle.script_read.specs.declared.expectation.Mode.{Mode}
use Rattle.script_read.specs.declared.expectation.Mode.TheVariants.{Plain, Fail, Warn, Info, Ordered}
use Rattle.script_read.specs.declared.fault.LineFault.{LineFault}
use Rattle.script_read.specs.declared.fault.LineFault.TheVariants.{Malformed, NativeHistogram}

-- what a command's line asks for
pub data Order : Type 0 where
  Clearing : Order
  Loading : Ms → Order
  Evaluating : Mode → Moments → List ℕ → Order

-- what stands behind a word that has to stand at the front of a text
abbrev pub after_word : List ℕ → List ℕ → Result (List ℕ) LineFault
after_word word text = if bytes_eq (first_word text) word then Ok (behind_word text) else Err Malformed

-- a time or a duration behind a word, and what stands behind it
abbrev pub time_after : List ℕ → List ℕ → Result (Ms × List ℕ) LineFault
time_after word text = then_try (after_word word text) (λ behind. then_give (time_spelled (first_word behind)) (λ time. (time, behind_word behind)))

abbrev pub duration_after : List ℕ → List ℕ → Result (Ms × List ℕ) LineFault
duration_after word text = then_try (after_word word text) (λ behind. then_give (interval_spelled (first_word behind)) (λ time. (time, behind_word behind)))

-- one instant; the step has no meaning there
abbrev pub moment_at : Ms → Moments
moment_at at = record { start = at; end = at; step = record { 0 = pos 1 }; instant = true }

abbrev pub moments_from : Ms → Ms → Ms → Moments
moments_from start end step = record { start = start; end = end; step = step; instant = false }

-- a grid that is taken, and an expression of at least one byte
abbrev pub evaluated : Mode → Moments → List ℕ → Result Order LineFault
evaluated mode m text = then_try (grid_taken m) (λ taken. then_give (filled text) (Evaluating mode taken))

-- `at <time> <expr>`
abbrev pub instant_heading : Mode → List ℕ → Result Order LineFault
instant_heading mode text = then_try (time_after (codes "at") text) (λ at. evaluated mode (moment_at at.0) at.1)

-- `from <time> to <time> step <duration> <expr>`
abbrev pub range_heading : Mode → List ℕ → Result Order LineFault
range_heading mode text = then_try (time_after (codes "from") text) (λ start. then_try (time_after (codes "to") start.1) (λ end.
    then_try (duration_after (codes "step") end.1) (λ step. evaluated mode (moments_from start.0 end.0 step.0) step.1)))

-- an order is asked of instants alone
abbrev pub range_of : Mode → List ℕ → Result Order LineFault
range_of Ordered text = Err Malformed
range_of mode text = range_heading mode text

abbrev pub eval_heading : Mode → List ℕ → Result Order LineFault
eval_heading mode text =
    if bytes_eq (first_word text) (codes "instant") then instant_heading mode (behind_word text)
    else if bytes_eq (first_word text) (codes "range") then range_of mode (behind_word text)
    else Err Malformed

-- the mode that a word names, if it begins an evaluation
abbrev pub eval_mode : List ℕ → Option Mode
eval_mode word =
    if bytes_eq word (codes "eval") then Some Plain
    else if bytes_eq word (codes "eval_fail") then Some Fail
    else if bytes_eq word (codes "eval_warn") then Some Warn
    else if bytes_eq word (codes "eval_info") then Some Info
    else if bytes_eq word (codes "eval_ordered") then Some Ordered
    else None

abbrev pub evaluation_of : Option Mode → List ℕ → Result Order LineFault
evaluation_of None text = Err Malformed
evaluation_of (Some mode) text = eval_heading mode text

-- nothing stands behind
abbrev pub if_alone : Order → List ℕ → Result Order LineFault
if_alone order [] = Ok order
if_alone order (byte ∷ bytes) = Err Malformed

-- `load <duration>`, behind its first word
abbrev pub load_heading : List ℕ → Result Order LineFault
load_heading text = then_try (interval_spelled (first_word text)) (λ interval. if_alone (Loading interval) (behind_word text))

abbrev pub heading_worded : List ℕ → List ℕ → Result Order LineFault
heading_worded word behind =
    if bytes_eq word (codes "clear") then if_alone Clearing behind
    else if bytes_eq word (codes "load") then load_heading behind
    else if bytes_eq word (codes "load_with_nhcb") then Err NativeHistogram
    else evaluation_of (eval_mode word) behind

-- what the line of a command asks for
abbrev pub heading_of : List ℕ → Result Order LineFault
heading_of text = heading_worded (first_word text) (behind_word text)
