use Rattle.promql_parts.proofs.PartsWithin.{offsets_are_within, ranges_are_within, rules_have_theirs, steps_are_within, times_are_within}
use Rattle.promql_parts.proofs.laws.parts_lie_within_limits.Goals as goal

pub returns-clause-ranges : goal.returns-clause-ranges
returns-clause-ranges c = ranges_are_within

pub returns-clause-steps : goal.returns-clause-steps
returns-clause-steps c = steps_are_within

pub returns-clause-offsets : goal.returns-clause-offsets
returns-clause-offsets c = offsets_are_within

pub returns-clause-times : goal.returns-clause-times
returns-clause-times c = times_are_within

pub returns-clause-rules : goal.returns-clause-rules
returns-clause-rules c = rules_have_theirs
