use Rattle.promql_parse.proofs.Found.{Parts}
use Rattle.promql_parse.proofs.PhrasesRead.{Known}
use Rattle.promql_parse.proofs.Whole.{deep_is_refused, in_grammar_is_read, one_tree}
use Rattle.promql_parse.proofs.laws.each_query_is_read.Goals as goal

pub returns : goal.returns
returns c =
    let sound : Parts = record {
      groupings = c.what_is_read_is_a_part.ensures.groupings;
      braces = c.what_is_read_is_a_part.ensures.braces;
      brackets = c.what_is_read_is_a_part.ensures.brackets;
      offsets = c.what_is_read_is_a_part.ensures.offsets;
      times = c.what_is_read_is_a_part.ensures.times;
      matchings = c.what_is_read_is_a_part.ensures.matchings;
    } in
    let known : Known = record {
      grouped = c.each_part_is_read.ensures.groupings;
      braced = c.each_part_is_read.ensures.braces;
      brackets = c.each_part_is_read.ensures.brackets;
      offset = c.each_part_is_read.ensures.offsets;
      time = c.each_part_is_read.ensures.times;
      modifier = c.each_part_is_read.ensures.modifiers;
    } in record { read = in_grammar_is_read sound known; deep = deep_is_refused sound known; one = one_tree sound known }
