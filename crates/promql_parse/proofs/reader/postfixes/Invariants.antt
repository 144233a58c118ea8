use Rattle.std.proofs.Common.{◌≤◌, length}
use Rattle.promql_parse.specs.Reading.{postfix_turn}
use Rattle.promql_parts.specs.Reads.{all_turns}
use Rattle.promql_parts.specs.Turns.{Going}
use Rattle.promql_parse.proofs.reader.postfixes.Given as goal

abbrev pub invariant-loop-more : goal.invariant-loop-more
invariant-loop-more l = record {
  going : Going (postfix_turn l.source.end) l.operand l.rest (all_turns (postfix_turn l.source.end) l.fn.first l.lexemes);
  within : length l.rest ≤ length l.lexemes;
}

abbrev pub decreases-loop-more : goal.decreases-loop-more
decreases-loop-more l = length l.rest
