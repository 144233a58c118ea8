use Rattle.step_kernels.proofs.Scalars.{few_rows_are_scalars}
use Rattle.step_kernels.proofs.laws.few_rows_are_scalars.Goals as goal

pub returns : goal.returns
returns c = few_rows_are_scalars c.lent_steps_are_tables.ensures.rows
