use Rattle.std.proofs.Common.{◌≡◌, ◌++◌, Contains, length, map}
use Rattle.script_read.specs.Expects.{Gathers}
use Rattle.script_read.specs.Lines.{Numbered}
use Rattle.script_read.specs.Outcomes.{PatternList, in_front}
use Rattle.script_read.specs.Reading.{commands_in}
use Rattle.script_read.specs.Views.{instructions, numbered}
use Rattle.script_read.proofs.reader.read_block.Given as goal

abbrev pub invariant-loop-rest : goal.invariant-loop-rest
invariant-loop-rest l = record {
  said : (more : PatternList) → in_front (instructions l.commands) (commands_in (l.searches ++ more) (map numbered l.rest))
      ≡ in_front (instructions l.fn.commands) (commands_in (l.searches ++ more) (map numbered l.block));
  among : (line : Numbered) → Contains (map numbered l.rest) line → Contains (map numbered l.block) line;
  grows : Gathers (map numbered l.block) l.fn.searches l.searches;
}

abbrev pub decreases-loop-rest : goal.decreases-loop-rest
decreases-loop-rest l = length l.rest
