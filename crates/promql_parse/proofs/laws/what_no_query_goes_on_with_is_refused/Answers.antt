use Rattle.promql_parse.proofs.Behind.{refused_behind}
use Rattle.promql_parse.proofs.Found.{Parts}
use Rattle.promql_parse.proofs.PhrasesRead.{Known}
use Rattle.promql_parse.proofs.laws.what_no_query_goes_on_with_is_refused.Goals as goal

pub returns : goal.returns
returns c =
    let sound : Parts = record {
      groupings = c.what_is_read_is_a_part.ensures.groupings;
      braces = c.what_is_read_is_a_part.ensures.braces;
      brackets = c.what_is_read_is_a_part.ensures.brackets;
      offsets = c.what_is_read_is_a_part.ensures.offsets;
      times = c.what_is_read_is_a_part.ensures.times;
      matchings = c.what_is_read_is_a_part.ensures.matchings;
    } in
    let known : Known = record {
      grouped = c.each_part_is_read.ensures.groupings;
      braced = c.each_part_is_read.ensures.braces;
      brackets = c.each_part_is_read.ensures.brackets;
      offset = c.each_part_is_read.ensures.offsets;
      time = c.each_part_is_read.ensures.times;
      modifier = c.each_part_is_read.ensures.modifiers;
    } in refused_behind sound known
