use Rattle.step_table.specs.Sets.{is_on}
use Rattle.step_table.proofs.WellFormedSteps.{parted_counts}
use Rattle.step_table.proofs.laws.and_unless_part.Goals as goal

pub returns : goal.returns
returns c = λ l r p kind. parted_counts kind (is_on p r.table.rows) l.table.rows
