use Rattle.promql_parse.proofs.QueriesWithin.{Spanned, depths_are_told, queries_are_within}
use Rattle.promql_parse.proofs.laws.queries_lie_within_limits.Goals as goal

pub returns : goal.returns
returns c =
    let spanned : Spanned = record {
      ranges = c.parts_lie_within_limits.ensures.ranges;
      steps = c.parts_lie_within_limits.ensures.steps;
      offsets = c.parts_lie_within_limits.ensures.offsets;
      times = c.parts_lie_within_limits.ensures.times;
    } in record { within = queries_are_within spanned c.parts_lie_within_limits.ensures.rules; depths = depths_are_told spanned }
