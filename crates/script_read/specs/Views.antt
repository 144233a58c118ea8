-- What the reader's values stand for.
use Rattle.std.specs.Prelude.{◌≡◌, ◌++◌, List, map, Result, Ok, Err}
use Rattle.std.specs.Borrow.{Bor}
use Rattle.script_read.specs.Commands.{Order, Clearing, Loading, Evaluating}
use Rattle.script_read.specs.Expects.{Expectation, Tested, Anything, Message, Search, InOrder, Failing, Warning, Informing, WithoutWarnings, WithoutInfos}
use Rattle.script_read.specs.Lines.{Numbered}
use Rattle.ticks.specs.Moments.{Moments, moments_in}
use Rattle.script_read.specs.Outcomes.{PatternList, Refuses, in_front}
use Rattle.script_read.specs.Reading.{Deed, Clears, Loads, Evaluates, Instruction}
use Rattle.script_read.specs.Series.{Series}
use Rattle.script_read.specs.declared.command.Evaluation.{Evaluation}
use Rattle.script_read.specs.declared.command.Heading.{Heading}
use Rattle.script_read.specs.declared.command.Heading.TheVariants as heads
use Rattle.script_read.specs.declared.expectation.Asked.{Asked}
use Rattle.script_read.specs.declared.expectation.Asked.TheVariants as asks
use Rattle.script_read.specs.declared.expectation.Test.{Test}
use Rattle.script_read.specs.declared.expectation.Test.TheVariants as tests
use Rattle.script_read.specs.declared.fault.ReadFault.{ReadFault}
use Rattle.script_read.specs.declared.line.Line.{Line}
use Rattle.script_read.specs.declared.script.Command.{Command}
use Rattle.script_read.specs.declared.script.Script.{Script}
use Rattle.script_read.specs.declared.script.What.{What}
use Rattle.script_read.specs.declared.script.What.TheVariants.{Clear, Load, Eval}
use Rattle.script_read.specs.declared.series.SeriesRead.{SeriesRead}

abbrev pub numbered : Line → Numbered
numbered line = record { number = line.number; text = line.text.now }

-- a block of lines
abbrev pub block_of : Bor (List Line) → List Numbered
block_of block = map numbered block.now

-- the labels of a series, and what stands behind it
abbrev pub series_read : SeriesRead → Series
series_read series = (series.labels, series.behind.now)

abbrev pub test_seen : Test → Tested
test_seen tests.Any = Anything
test_seen (tests.Message text) = Message text.now
test_seen (tests.Search text) = Search text.now

abbrev pub asked_seen : Asked → Expectation
asked_seen asks.Ordered = InOrder
asked_seen (asks.Fail test) = Failing (test_seen test)
asked_seen (asks.Warn test) = Warning (test_seen test)
asked_seen (asks.Info test) = Informing (test_seen test)
asked_seen asks.NoWarn = WithoutWarnings
asked_seen asks.NoInfo = WithoutInfos

abbrev pub moments_asked : Evaluation → Moments
moments_asked asked = moments_in asked.grid asked.instant

abbrev pub evaluation_seen : Evaluation → Order
evaluation_seen asked = Evaluating asked.mode (moments_asked asked) asked.text.now

abbrev pub heading_seen : Heading → Order
heading_seen heads.Clear = Clearing
heading_seen (heads.Load interval) = Loading interval
heading_seen (heads.Eval asked) = evaluation_seen asked

abbrev pub deed_of : What → Deed
deed_of Clear = Clears
deed_of (Load interval lines) = Loads interval lines
deed_of (Eval grid instant text expected) = Evaluates (moments_in grid instant) text expected

-- a command of a script
abbrev pub instruction : Command → Instruction
instruction command = record { line = command.line; deed = deed_of command.what }

abbrev pub instructions : List Command → List Instruction
instructions commands = map instruction commands

abbrev pub script_seen : Script → List Instruction
script_seen script = instructions script.commands

-- commands were added that are said of the patterns that are kept then
abbrev pub AddsCommands : {X : Type 0} → Result X ReadFault → List Command → List Command → PatternList → (PatternList → Result (List Instruction) ReadFault) → Type 0
AddsCommands (Ok _) before now kept said = (more : PatternList) → in_front (instructions before) (said (kept ++ more)) ≡ Ok (instructions now)
AddsCommands (Err fault) before now kept said = Refuses fault (said kept)
