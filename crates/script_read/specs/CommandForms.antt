-- The forms of commands, one by one. (The promqltest format.)
use Rattle.std.specs.Prelude.{◌≡◌, ◌≢◌, ℕ, List, [], ◌∷◌, codes, Some, Ok, IsTrue}
use Rattle.ticks.specs.declared.moment.Ms.{Ms}
use Rattle.script_read.specs.Commands.{Order, Clearing, Loading, Evaluating, eval_mode, moment_at, moments_from}
use Rattle.ticks.specs.Moments.{is_grid}
use Rattle.script_read.specs.Parted.{Parted, IsFilled}
use Rattle.script_read.specs.Words.{interval_spelled, time_spelled}
use Rattle.script_read.specs.declared.expectation.Mode.{Mode}
use Rattle.script_read.specs.declared.expectation.Mode.TheVariants.{Ordered}

pub data IsCommand : List ℕ → Order → Type 0 where
  -- `clear`
  clear_line : (text : List ℕ) → Parted (codes "clear" ∷ []) [] text → IsCommand text Clearing
  -- `load <duration>`
  load_line : (text duration : List ℕ) (interval : Ms) → Parted (codes "load" ∷ (duration ∷ [])) [] text → interval_spelled duration ≡ Ok interval
      → IsCommand text (Loading interval)
  -- `eval<mode> instant at <time> <expr>`
  eval_instant : (text word time expression : List ℕ) (mode : Mode) (at : Ms)
      → Parted (word ∷ (codes "instant" ∷ (codes "at" ∷ (time ∷ [])))) expression text → IsFilled expression
      → eval_mode word ≡ Some mode → time_spelled time ≡ Ok at → IsTrue (is_grid (moment_at at))
      → IsCommand text (Evaluating mode (moment_at at) expression)
  -- `eval<mode> range from <time> to <time> step <duration> <expr>`
  eval_range : (text word first last duration expression : List ℕ) (mode : Mode) (start end step : Ms)
      → Parted (word ∷ (codes "range" ∷ (codes "from" ∷ (first ∷ (codes "to" ∷ (last ∷ (codes "step" ∷ (duration ∷ [])))))))) expression text
      → IsFilled expression → eval_mode word ≡ Some mode → mode ≢ Ordered
      → time_spelled first ≡ Ok start → time_spelled last ≡ Ok end → interval_spelled duration ≡ Ok step → IsTrue (is_grid (moments_from start end step))
      → IsCommand text (Evaluating mode (moments_from start end step) expression)
