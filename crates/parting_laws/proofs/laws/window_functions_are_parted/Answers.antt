use Rattle.parting_laws.proofs.WindowsParted.{quantiles_parted, window_functions_parted}
use Rattle.parting_laws.proofs.laws.window_functions_are_parted.Goals as goal

pub returns-clause-functions : goal.returns-clause-functions
returns-clause-functions c = window_functions_parted c.unions_are_sets.ensures.marks c.unions_are_sets.ensures.notes

pub returns-clause-quantiles : goal.returns-clause-quantiles
returns-clause-quantiles c = quantiles_parted c.unions_are_sets.ensures.marks c.unions_are_sets.ensures.notes
