use Rattle.std.proofs.Common.{◌≤◌, [], length}
use Rattle.promql_parts.specs.Labels.{labels_turn}
use Rattle.promql_parts.specs.Reads.{all_turns}
use Rattle.promql_parts.specs.Turns.{Going}
use Rattle.promql_parts.proofs.labels.listed_labels.Given as goal

abbrev pub invariant-loop-more : goal.invariant-loop-more
invariant-loop-more l = record {
  going : Going (labels_turn l.taken l.end) l.labels l.rest (all_turns (labels_turn l.taken l.end) [] l.lexemes);
  within : length l.rest ≤ length l.lexemes;
}

abbrev pub decreases-loop-more : goal.decreases-loop-more
decreases-loop-more l = length l.rest
