use Rattle.promql_parts.proofs.LabelsFound.{groupings_are_grouped}
use Rattle.promql_parts.proofs.MatchersFound.{braces_are_matchers}
use Rattle.promql_parts.proofs.ModifiersFound.{matchings_are_modifiers}
use Rattle.promql_parts.proofs.SpansFound.{brackets_are_spans, offsets_are_signed, times_stand_behind}
use Rattle.promql_parts.proofs.laws.what_is_read_is_a_part.Goals as goal

pub returns-clause-groupings : goal.returns-clause-groupings
returns-clause-groupings c = groupings_are_grouped

pub returns-clause-braces : goal.returns-clause-braces
returns-clause-braces c = braces_are_matchers

pub returns-clause-brackets : goal.returns-clause-brackets
returns-clause-brackets c = brackets_are_spans

pub returns-clause-offsets : goal.returns-clause-offsets
returns-clause-offsets c = offsets_are_signed

pub returns-clause-times : goal.returns-clause-times
returns-clause-times c = times_stand_behind

pub returns-clause-matchings : goal.returns-clause-matchings
returns-clause-matchings c = matchings_are_modifiers
