use Rattle.std.proofs.Common.{◌≡◌, ◌++◌, drop, map}
use Rattle.script_read.specs.Expects.{Gathers}
use Rattle.script_read.specs.Outcomes.{PatternList, in_front}
use Rattle.script_read.specs.Reading.{commands_of}
use Rattle.script_read.specs.Views.{block_of, instructions, numbered}
use Rattle.script_read.proofs.reader.read_lines.Given as goal

abbrev pub invariant-loop-block : goal.invariant-loop-block
invariant-loop-block l = record {
  said : (more : PatternList) → in_front (instructions l.commands) (commands_of (l.searches ++ more) (map block_of (drop l.block-index l.block-items)))
      ≡ commands_of (l.searches ++ more) (map block_of l.block-items);
  grows : Gathers (map numbered l.lines) l.fn.searches l.searches;
}
