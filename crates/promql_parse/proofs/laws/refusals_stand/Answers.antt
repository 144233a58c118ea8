use Rattle.promql_parse.proofs.Found.{Parts}
use Rattle.promql_parse.proofs.PhrasesRead.{Known}
use Rattle.promql_parse.proofs.Stand.{Standing, no_query_begins_so, refusal_stands}
use Rattle.promql_parse.proofs.laws.refusals_stand.Goals as goal

pub returns : goal.returns
returns c =
    let sound : Parts = record {
      groupings = c.what_is_read_is_a_part.ensures.groupings;
      braces = c.what_is_read_is_a_part.ensures.braces;
      brackets = c.what_is_read_is_a_part.ensures.brackets;
      offsets = c.what_is_read_is_a_part.ensures.offsets;
      times = c.what_is_read_is_a_part.ensures.times;
      matchings = c.what_is_read_is_a_part.ensures.matchings;
    } in
    let known : Known = record {
      grouped = c.each_part_is_read.ensures.groupings;
      braced = c.each_part_is_read.ensures.braces;
      brackets = c.each_part_is_read.ensures.brackets;
      offset = c.each_part_is_read.ensures.offsets;
      time = c.each_part_is_read.ensures.times;
      modifier = c.each_part_is_read.ensures.modifiers;
    } in
    let standing : Standing = record {
      grouping = c.refusals_of_parts_stand.ensures.grouping;
      grouping_behind = c.refusals_of_parts_stand.ensures.grouping_behind;
      braces = c.refusals_of_parts_stand.ensures.braces;
      brackets = c.refusals_of_parts_stand.ensures.brackets;
      offset = c.refusals_of_parts_stand.ensures.offset;
      time = c.refusals_of_parts_stand.ensures.time;
      matching = c.refusals_of_parts_stand.ensures.matching;
    } in record { stands = refusal_stands sound known standing; out = no_query_begins_so sound known standing }
