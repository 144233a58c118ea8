use Rattle.step_table.proofs.Grouped.{group_list_taken_over}
use Rattle.step_table.proofs.laws.group_list_is_taken_over.Goals as goal

pub returns : goal.returns
returns c = group_list_taken_over
