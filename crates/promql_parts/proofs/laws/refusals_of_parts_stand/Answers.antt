use Rattle.promql_parts.proofs.PartsStand.{braces_always, brackets_always, grouping_always, grouping_behind_always, matching_always, offset_always, time_always}
use Rattle.promql_parts.proofs.laws.refusals_of_parts_stand.Goals as goal

pub returns-clause-grouping : goal.returns-clause-grouping
returns-clause-grouping c = grouping_always

pub returns-clause-grouping_behind : goal.returns-clause-grouping_behind
returns-clause-grouping_behind c = grouping_behind_always

pub returns-clause-braces : goal.returns-clause-braces
returns-clause-braces c = braces_always

pub returns-clause-brackets : goal.returns-clause-brackets
returns-clause-brackets c = brackets_always

pub returns-clause-offset : goal.returns-clause-offset
returns-clause-offset c = offset_always

pub returns-clause-time : goal.returns-clause-time
returns-clause-time c = time_always

pub returns-clause-matching : goal.returns-clause-matching
returns-clause-matching c = matching_always
