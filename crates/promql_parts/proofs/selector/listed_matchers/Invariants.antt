use Rattle.std.proofs.Common.{◌≤◌, [], length}
use Rattle.promql_parts.specs.Selectors.{matchers_turn}
use Rattle.promql_parts.specs.Reads.{all_turns}
use Rattle.promql_parts.specs.Turns.{Going}
use Rattle.promql_parts.proofs.selector.listed_matchers.Given as goal

abbrev pub invariant-loop-more : goal.invariant-loop-more
invariant-loop-more l = record {
  going : Going (matchers_turn l.end) l.matchers l.rest (all_turns (matchers_turn l.end) [] l.lexemes);
  within : length l.rest ≤ length l.lexemes;
}

abbrev pub decreases-loop-more : goal.decreases-loop-more
decreases-loop-more l = length l.rest
