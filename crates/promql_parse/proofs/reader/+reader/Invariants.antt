use Rattle.std.proofs.Common.{◌*◌, ◌+◌, ◌-◌, ◌≤◌, length}
use Rattle.promql_parse.specs.Build.{no_arguments}
use Rattle.promql_parse.specs.Reading.{arguments_turn, chain_turn, level_at, within}
use Rattle.promql_parts.specs.Reads.{all_turns}
use Rattle.promql_parts.specs.Turns.{Going}
use Rattle.promql_parse.proofs.reader.+reader.Given as goal

-- the budget of nesting bounds the calls, and within it the levels
abbrev pub decreases-minus_at : goal.decreases-minus_at
decreases-minus_at l = 40 * l.budget + 1

abbrev pub decreases-plus_at : goal.decreases-plus_at
decreases-plus_at l = 40 * l.budget + 1

abbrev pub decreases-paren_at : goal.decreases-paren_at
decreases-paren_at l = 40 * l.budget + 1

abbrev pub decreases-exponent_at : goal.decreases-exponent_at
decreases-exponent_at l = 40 * l.budget + 1

abbrev pub decreases-call_at : goal.decreases-call_at
decreases-call_at l = 40 * l.budget + 1

abbrev pub decreases-aggregate_at : goal.decreases-aggregate_at
decreases-aggregate_at l = 40 * l.budget + 1

abbrev pub decreases-raised_at : goal.decreases-raised_at
decreases-raised_at l = 40 * l.budget + 10

abbrev pub decreases-power_behind : goal.decreases-power_behind
decreases-power_behind l = 40 * l.budget + 2

abbrev pub decreases-named_at : goal.decreases-named_at
decreases-named_at l = 40 * l.budget + 2

abbrev pub decreases-aggregation_at : goal.decreases-aggregation_at
decreases-aggregation_at l = 40 * l.budget + 2

abbrev pub decreases-word_at : goal.decreases-word_at
decreases-word_at l = 40 * l.budget + 3

abbrev pub decreases-primary_at : goal.decreases-primary_at
decreases-primary_at l = 40 * l.budget + 4

abbrev pub decreases-operand_at : goal.decreases-operand_at
decreases-operand_at l = 40 * l.budget + 5

abbrev pub decreases-power_at : goal.decreases-power_at
decreases-power_at l = 40 * l.budget + 6

abbrev pub decreases-unary_at : goal.decreases-unary_at
decreases-unary_at l = 40 * l.budget + 7

abbrev pub decreases-arguments_turn : goal.decreases-arguments_turn
decreases-arguments_turn l = 40 * l.budget + 25

abbrev pub decreases-listed_arguments : goal.decreases-listed_arguments
decreases-listed_arguments l = 40 * l.budget + 26

abbrev pub decreases-arguments_at : goal.decreases-arguments_at
decreases-arguments_at l = 40 * l.budget + 27

abbrev pub decreases-body_at : goal.decreases-body_at
decreases-body_at l = 40 * l.budget + 28

abbrev pub decreases-call_arguments : goal.decreases-call_arguments
decreases-call_arguments l = 40 * l.budget + 28

abbrev pub decreases-grouped_behind : goal.decreases-grouped_behind
decreases-grouped_behind l = 40 * l.budget + 29

abbrev pub decreases-grouped_before : goal.decreases-grouped_before
decreases-grouped_before l = 40 * l.budget + 29

abbrev pub decreases-grouped : goal.decreases-grouped
decreases-grouped l = 40 * l.budget + 30

abbrev pub decreases-level_at : goal.decreases-level_at
decreases-level_at l = 40 * l.budget + 3 * l.level + 9

abbrev pub decreases-chain_turn : goal.decreases-chain_turn
decreases-chain_turn l = 40 * l.budget + 3 * l.level + 8

abbrev pub decreases-side_at : goal.decreases-side_at
decreases-side_at l = 40 * l.budget + 3 * l.level + 7

abbrev pub invariant-listed_arguments-loop-more : goal.invariant-listed_arguments-loop-more
invariant-listed_arguments-loop-more l = record {
  going :
      Going (arguments_turn l.source.end (level_at l.source.end (within l.source.end l.budget) 5)) l.sofar l.rest
      (all_turns (arguments_turn l.source.end (level_at l.source.end (within l.source.end l.budget) 5)) no_arguments l.lexemes);
  within : length l.rest ≤ length l.lexemes;
}

abbrev pub decreases-listed_arguments-loop-more : goal.decreases-listed_arguments-loop-more
decreases-listed_arguments-loop-more l = length l.rest

abbrev pub invariant-level_at-loop-more : goal.invariant-level_at-loop-more
invariant-level_at-loop-more l = record {
  going :
      Going (chain_turn l.source.end l.level (level_at l.source.end (within l.source.end l.budget) (l.level - 1))) l.left l.rest
      (level_at l.source.end (within l.source.end l.budget) l.level l.lexemes);
  within : length l.rest ≤ length l.lexemes;
}

abbrev pub decreases-level_at-loop-more : goal.decreases-level_at-loop-more
decreases-level_at-loop-more l = length l.rest
