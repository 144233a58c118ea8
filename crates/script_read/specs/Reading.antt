-- Which files are scripts, and what their commands are. (The promqltest format.)
--
-- A file's lines stand in blocks, parted by empty lines. The first line of a block is a command; behind `load` the others
-- are series, behind `eval` they are expectations and results, and behind `clear` the next is a command again. The first
-- line that fits no form at its place is refused. The patterns are those that are kept once the file is read.
use Rattle.std.specs.Prelude.{ℕ, Bool, true, false, if◌then◌else◌, List, [], ◌∷◌, length, nat_lt, Option, None, Some, Result, Ok, Err}
use Rattle.ticks.specs.declared.moment.Ms.{Ms}
use Rattle.script_read.specs.Commands.{Order, Clearing, Loading, Evaluating, heading_of}
use Rattle.script_read.specs.Expects.{expectation_added, is_expectation, mode_wants}
use Rattle.script_read.specs.Items.{item_spelled}
use Rattle.script_read.specs.Lines.{Numbered, blocks_of, broken_line, words_behind}
use Rattle.ticks.specs.Moments.{Moments}
use Rattle.script_read.specs.Outcomes.{PatternList, each_of, in_front, joined, then_give, then_try}
use Rattle.script_read.specs.Quotes.{has_histogram, without_comment}
use Rattle.script_read.specs.Refusals.{at_line, limit}
use Rattle.script_read.specs.Results.{result_added}
use Rattle.script_read.specs.Series.{LabelList, series_at}
use Rattle.script_read.specs.declared.expectation.Mode.{Mode}
use Rattle.script_read.specs.declared.fault.LineFault.{LineFault}
use Rattle.script_read.specs.declared.fault.LineFault.TheVariants as lines
use Rattle.script_read.specs.declared.fault.ReadFault.{ReadFault}
use Rattle.script_read.specs.declared.fault.ReadFault.TheVariants.{Refused}
use Rattle.script_read.specs.declared.script.Expectations.{Expectations}
use Rattle.script_read.specs.declared.script.ScriptRefusal.TheVariants.{NotUtf8, TooLarge}
use Rattle.script_read.specs.declared.script.SeriesItem.{SeriesItem}
use Rattle.script_read.specs.declared.script.SeriesLine.{SeriesLine}

-- ---- what a command does

pub data Deed : Type 0 where
  Clears : Deed
  Loads : Ms → List SeriesLine → Deed
  Evaluates : Moments → List ℕ → Expectations → Deed

-- a command: the number of its line, and what it does
pub record Instruction : Type 0 where
  pub line : ℕ
  pub deed : Deed

-- ---- the lines behind `load`

-- one item or more
abbrev pub items_spelled : List (List ℕ) → Result (List SeriesItem) LineFault
items_spelled [] = Err lines.Malformed
items_spelled (word ∷ words) = each_of item_spelled (word ∷ words)

-- a series has a label, and items behind it
abbrev pub line_with : ℕ → LabelList → List ℕ → Result SeriesLine LineFault
line_with line [] behind = Err lines.Malformed
line_with line (pair ∷ pairs) behind =
    then_give (items_spelled (words_behind behind)) (λ items. record { line = line; labels = pair ∷ pairs; items = items })

-- `{{` outside quotes and comments is told before all else
abbrev pub series_uncommented : ℕ → List ℕ → Result SeriesLine LineFault
series_uncommented line text =
    if has_histogram text then Err lines.NativeHistogram else then_try (series_at text) (λ series. line_with line series.0 series.1)

abbrev pub series_worded : ℕ → List ℕ → Result SeriesLine LineFault
series_worded line text = series_uncommented line (without_comment text)

abbrev pub series_of : Numbered → Result SeriesLine ReadFault
series_of line = at_line line.number (series_worded line.number line.text)

abbrev pub series_lines : List Numbered → Result (List SeriesLine) ReadFault
series_lines body = each_of series_of body

-- ---- the lines behind `eval`

-- a line beside the earlier ones
abbrev pub body_line : PatternList → Moments → Expectations → List ℕ → Result Expectations LineFault
body_line kept m e text = if is_expectation text then expectation_added kept e m.instant text else result_added m e text

abbrev pub expected_after : PatternList → Moments → Expectations → List Numbered → Result Expectations ReadFault
expected_after kept m e [] = Ok e
expected_after kept m e (line ∷ body) = then_try (at_line line.number (body_line kept m e line.text)) (λ more. expected_after kept m more body)

-- ---- commands

abbrev pub load_of : ℕ → Ms → List Numbered → Result Instruction ReadFault
load_of line interval body = then_give (series_lines body) (λ series. record { line = line; deed = Loads interval series })

abbrev pub eval_of : PatternList → ℕ → Mode → Moments → List ℕ → List Numbered → Result Instruction ReadFault
eval_of kept line mode m text body =
    then_give (expected_after kept m (mode_wants mode) body) (λ expected. record { line = line; deed = Evaluates m text expected })

-- the command of a line, with the lines behind it
abbrev pub command_headed : PatternList → ℕ → List Numbered → Order → Result Instruction ReadFault
command_headed kept line body Clearing = Ok (record { line = line; deed = Clears })
command_headed kept line body (Loading interval) = load_of line interval body
command_headed kept line body (Evaluating mode m text) = eval_of kept line mode m text body

abbrev pub command_of : PatternList → Numbered → List Numbered → Result Instruction ReadFault
command_of kept line body = then_try (at_line line.number (heading_of line.text)) (command_headed kept line.number body)

abbrev pub is_clear : Deed → Bool
is_clear Clears = true
is_clear _ = false

-- the lines behind a `clear` say commands; those behind another command are its own
abbrev pub followed : Result (List Instruction) ReadFault → Instruction → Result (List Instruction) ReadFault
followed later command = if is_clear command.deed then in_front (command ∷ []) later else Ok (command ∷ [])

-- the commands of a block
abbrev pub commands_in : PatternList → List Numbered → Result (List Instruction) ReadFault
commands_in kept [] = Ok []
commands_in kept (line ∷ body) = then_try (command_of kept line body) (followed (commands_in kept body))

abbrev pub commands_of : PatternList → List (List Numbered) → Result (List Instruction) ReadFault
commands_of kept [] = Ok []
commands_of kept (block ∷ blocks) = joined (commands_in kept block) (commands_of kept blocks)

-- ---- files

abbrev pub text_read : PatternList → Option ℕ → List ℕ → Result (List Instruction) ReadFault
text_read kept (Some line) bytes = Err (Refused (NotUtf8 line))
text_read kept None bytes = commands_of kept (blocks_of bytes)

-- what a file says where these patterns are kept: a script's commands, or its refusal
abbrev pub reading : PatternList → List ℕ → Result (List Instruction) ReadFault
reading kept bytes = if nat_lt limit (length bytes) then Err (Refused TooLarge) else text_read kept (broken_line bytes) bytes
