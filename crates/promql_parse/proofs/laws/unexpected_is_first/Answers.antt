use Rattle.promql_parse.proofs.Found.{Parts}
use Rattle.promql_parse.proofs.Stop.{Stopping, unexpected_is_first}
use Rattle.promql_parse.proofs.laws.unexpected_is_first.Goals as goal

pub returns : goal.returns
returns c =
    let known : Parts = record {
      groupings = c.what_is_read_is_a_part.ensures.groupings;
      braces = c.what_is_read_is_a_part.ensures.braces;
      brackets = c.what_is_read_is_a_part.ensures.brackets;
      offsets = c.what_is_read_is_a_part.ensures.offsets;
      times = c.what_is_read_is_a_part.ensures.times;
      matchings = c.what_is_read_is_a_part.ensures.matchings;
    } in
    let stopping : Stopping = record {
      groupings = c.parts_stop_where_they_can_go_on.ensures.groupings;
      braces = c.parts_stop_where_they_can_go_on.ensures.braces;
      brackets = c.parts_stop_where_they_can_go_on.ensures.brackets;
      offsets = c.parts_stop_where_they_can_go_on.ensures.offsets;
      times = c.parts_stop_where_they_can_go_on.ensures.times;
      matchings = c.parts_stop_where_they_can_go_on.ensures.matchings;
    } in unexpected_is_first known stopping
