use Rattle.promql_parts.proofs.ModifiersRead.{modifier_is_read}
use Rattle.promql_parts.proofs.PartsRead.{braced_is_read, brackets_are_read, grouped_is_read, offset_is_read, time_is_read}
use Rattle.promql_parts.proofs.laws.each_part_is_read.Goals as goal

pub returns-clause-groupings : goal.returns-clause-groupings
returns-clause-groupings c = grouped_is_read

pub returns-clause-braces : goal.returns-clause-braces
returns-clause-braces c = braced_is_read

pub returns-clause-brackets : goal.returns-clause-brackets
returns-clause-brackets c = brackets_are_read

pub returns-clause-offsets : goal.returns-clause-offsets
returns-clause-offsets c = offset_is_read

pub returns-clause-times : goal.returns-clause-times
returns-clause-times c = time_is_read

pub returns-clause-modifiers : goal.returns-clause-modifiers
returns-clause-modifiers c = modifier_is_read
