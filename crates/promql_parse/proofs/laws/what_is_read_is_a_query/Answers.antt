use Rattle.promql_parse.proofs.Found.{Parts}
use Rattle.promql_parse.proofs.Whole.{read_is_in_grammar}
use Rattle.promql_parse.proofs.laws.what_is_read_is_a_query.Goals as goal

pub returns : goal.returns
returns c =
    let known : Parts = record {
      groupings = c.what_is_read_is_a_part.ensures.groupings;
      braces = c.what_is_read_is_a_part.ensures.braces;
      brackets = c.what_is_read_is_a_part.ensures.brackets;
      offsets = c.what_is_read_is_a_part.ensures.offsets;
      times = c.what_is_read_is_a_part.ensures.times;
      matchings = c.what_is_read_is_a_part.ensures.matchings;
    } in read_is_in_grammar known
