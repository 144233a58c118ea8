use Rattle.step_cells.proofs.Itself.{one_engines_rows, one_engines_windows}
use Rattle.step_cells.proofs.laws.one_engine_is_itself.Goals as goal

pub returns-clause-rows : goal.returns-clause-rows
returns-clause-rows c = one_engines_rows

pub returns-clause-windows : goal.returns-clause-windows
returns-clause-windows c = one_engines_windows
