use Rattle.promql_parts.proofs.BracesStop.{braces_stop}
use Rattle.promql_parts.proofs.PartsStop.{brackets_stop, groupings_stop, matchings_stop, offsets_stop, times_stop}
use Rattle.promql_parts.proofs.laws.parts_stop_where_they_can_go_on.Goals as goal

pub returns-clause-groupings : goal.returns-clause-groupings
returns-clause-groupings c = groupings_stop

pub returns-clause-braces : goal.returns-clause-braces
returns-clause-braces c = braces_stop

pub returns-clause-brackets : goal.returns-clause-brackets
returns-clause-brackets c = brackets_stop

pub returns-clause-offsets : goal.returns-clause-offsets
returns-clause-offsets c = offsets_stop

pub returns-clause-times : goal.returns-clause-times
returns-clause-times c = times_stop

pub returns-clause-matchings : goal.returns-clause-matchings
returns-clause-matchings c = matchings_stop
