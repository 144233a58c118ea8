use Rattle.promql_parse.proofs.QueriesWithin.{Spanned, queries_are_open}
use Rattle.promql_parse.proofs.laws.queries_are_open.Goals as goal

pub returns : goal.returns
returns c =
    let spanned : Spanned = record {
      ranges = c.parts_lie_within_limits.ensures.ranges;
      steps = c.parts_lie_within_limits.ensures.steps;
      offsets = c.parts_lie_within_limits.ensures.offsets;
      times = c.parts_lie_within_limits.ensures.times;
    } in λ ls e nodes is. c.edged_trees_stay.ensures _ e (queries_are_open spanned ls e nodes is)
